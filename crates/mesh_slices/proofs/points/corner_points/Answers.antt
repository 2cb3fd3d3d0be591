use Rattle.std.proofs.Common.{ap}
use Rattle.mesh_slices.specs.CornerPoints.{points_of}
use Rattle.mesh_slices.proofs.Pushes.{append_in_turn}
use Rattle.mesh_slices.proofs.points.corner_points.Goals as goal

pub returns : goal.returns
returns c = append_in_turn _ _ _ _ _ _ _ _ _ _ _ (ap points_of c.new-points.ensures.items) c.in_ok-add_vertex.ensures c.in_ok-add_vertex-2.ensures c.in_ok-add_vertex-3.ensures c.in_ok-add_lower_crossings.ensures c.in_ok-add_upper_crossings.ensures
