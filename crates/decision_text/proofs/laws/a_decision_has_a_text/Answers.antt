use Rattle.decision_text.specs.Laws.Spelled.{decision_stated}
use Rattle.decision_text.proofs.laws.a_decision_has_a_text.Goals as goal

pub returns : goal.returns
returns c = decision_stated
