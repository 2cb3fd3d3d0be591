use Rattle.std.proofs.Common.{◌++◌, All, drop}
use Rattle.outline_laws.specs.Corners.{IsNarrow}
use Rattle.mesh_slices.specs.Folding.{StandsFor}
use Rattle.mesh_slices.proofs.Outlines.{left}
use Rattle.mesh_slices.proofs.outline.standing_spots.Given as goal

abbrev pub invariant-loop-f : goal.invariant-loop-f
invariant-loop-f l = record {
  stand : StandsFor (left l.printer.grain l.printer.margin l.slab.low l.slab.high l.facets) (l.found.items ++ left l.printer.grain l.printer.margin l.slab.low l.slab.high (drop l.f-index l.facets));
  near : All IsNarrow l.found.items;
}
