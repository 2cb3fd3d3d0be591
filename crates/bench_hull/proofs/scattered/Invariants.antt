use Rattle.std.proofs.Common.{All}
use Rattle.outline_laws.specs.Corners.{IsNarrow}
use Rattle.bench_hull.proofs.scattered.Given as goal

abbrev pub invariant-loop : goal.invariant-loop
invariant-loop l = All IsNarrow l.spots.items
