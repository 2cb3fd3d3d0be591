use Rattle.mesh_slices.specs.Laws.Agreeing.{same_plans}
use Rattle.mesh_slices.proofs.laws.scenes_that_agree_have_the_same_valid_plans.Goals as goal

pub returns : goal.returns
returns c = same_plans
