use Rattle.model_laws.specs.Laws.Grounds.{earned_is_grounded}
use Rattle.model_laws.proofs.splits.earned_splits_are_grounded.Goals as goal

pub returns : goal.returns
returns c = earned_is_grounded
