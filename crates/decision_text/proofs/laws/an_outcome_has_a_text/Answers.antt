use Rattle.decision_text.specs.Laws.Spelled.{outcome_stated}
use Rattle.decision_text.proofs.laws.an_outcome_has_a_text.Goals as goal

pub returns : goal.returns
returns c = outcome_stated
