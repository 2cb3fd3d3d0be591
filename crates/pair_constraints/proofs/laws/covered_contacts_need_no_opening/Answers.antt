use Rattle.search_laws.specs.Laws.Covering.{inner_of_covered}
use Rattle.pair_constraints.specs.Laws.Covering.{never_opened}
use Rattle.pair_constraints.proofs.laws.covered_contacts_need_no_opening.Goals as goal

pub returns-clause-inner : goal.returns-clause-inner
returns-clause-inner c = inner_of_covered

pub returns-clause-beyond : goal.returns-clause-beyond
returns-clause-beyond c = never_opened
