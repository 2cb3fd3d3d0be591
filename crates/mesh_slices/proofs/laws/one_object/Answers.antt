use Rattle.mesh_slices.proofs.OneObject.{one_object}
use Rattle.mesh_slices.proofs.laws.one_object.Goals as goal

pub returns : goal.returns
returns c = one_object
