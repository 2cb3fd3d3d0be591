use Rattle.mesh_slices.proofs.SameSpots.{same_lists}
use Rattle.mesh_slices.proofs.zones.same_corners.Goals as goal

pub returns : goal.returns
returns c = same_lists c.args.a.now c.args.b.now c.eq.result c.eq.ensures
