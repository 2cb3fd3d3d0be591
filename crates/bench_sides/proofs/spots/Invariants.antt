use Rattle.std.proofs.Common.{All}
use Rattle.outline_laws.specs.Corners.{IsNarrow}
use Rattle.bench_sides.proofs.spots.Given as goal

abbrev pub invariant-loop-n : goal.invariant-loop-n
invariant-loop-n l = All IsNarrow l.spots.items
