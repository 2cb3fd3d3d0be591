use Rattle.mesh_slices.specs.Laws.Agreeing.{same_least}
use Rattle.mesh_slices.proofs.laws.scenes_that_agree_have_the_same_least_extents.Goals as goal

pub returns : goal.returns
returns c = same_least
