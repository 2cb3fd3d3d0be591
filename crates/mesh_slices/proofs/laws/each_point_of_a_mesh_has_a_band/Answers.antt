use Rattle.mesh_slices.specs.Laws.CoveringHeights.{has_band}
use Rattle.mesh_slices.proofs.laws.each_point_of_a_mesh_has_a_band.Goals as goal

pub returns : goal.returns
returns c = has_band
