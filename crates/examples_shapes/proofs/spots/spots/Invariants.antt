use Rattle.std.proofs.Common.{All}
use Rattle.outline_laws.specs.Corners.{IsNarrow}
use Rattle.examples_shapes.proofs.spots.spots.Given as goal

abbrev pub invariant-loop-pair : goal.invariant-loop-pair
invariant-loop-pair l = record {
  near : All IsNarrow l.spots.items;
}
