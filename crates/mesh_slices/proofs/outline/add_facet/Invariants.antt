use Rattle.std.proofs.Common.{◌≡◌, ◌++◌, drop}
use Rattle.seq_model.specs.Outlines.{spots}
use Rattle.mesh_slices.specs.CornerPoints.{points_of}
use Rattle.mesh_slices.proofs.outline.add_facet.Given as goal

abbrev pub invariant-loop-point : goal.invariant-loop-point
invariant-loop-point l = l.found.items ++ spots l.printer.grain l.printer.margin (points_of (drop l.point-index l.point-items)) ≡ l.initial.found.items ++ spots l.printer.grain l.printer.margin (points_of l.point-items)
