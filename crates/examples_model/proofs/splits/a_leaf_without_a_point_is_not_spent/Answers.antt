use Rattle.examples_model.proofs.SpentLaws.{not_spent}
use Rattle.examples_model.proofs.splits.a_leaf_without_a_point_is_not_spent.Goals as goal

pub returns : goal.returns
returns c = not_spent
