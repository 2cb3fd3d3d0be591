use Rattle.examples_model.proofs.PlacedLaws.{in_the_far_corner_is_valid}
use Rattle.examples_model.proofs.plans.a_cube_in_the_far_corner.Goals as goal

pub returns : goal.returns
returns c = in_the_far_corner_is_valid
