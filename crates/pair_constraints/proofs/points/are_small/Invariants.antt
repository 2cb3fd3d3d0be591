use Rattle.std.proofs.Common.{All, take}
use Rattle.pair_constraints.specs.SolvedPoints.{IsSmall}
use Rattle.pair_constraints.proofs.points.are_small.Given as goal

abbrev pub invariant-loop-n : goal.invariant-loop-n
invariant-loop-n l = All IsSmall (take l.n-index l.nums)
