use Rattle.answer_checks.specs.Laws.Passing.{least_passes, refuted_passes}
use Rattle.answer_checks.proofs.what_a_search_claims_passes.Goals as goal

pub returns-clause-refuted : goal.returns-clause-refuted
returns-clause-refuted c = refuted_passes

pub returns-clause-none : goal.returns-clause-none
returns-clause-none c = refuted_passes

pub returns-clause-least : goal.returns-clause-least
returns-clause-least c = least_passes
