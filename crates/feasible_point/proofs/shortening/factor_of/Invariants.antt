use Rattle.std.proofs.Common.{pos, ◌≤ℤ◌, take}
use Rattle.row_pivots.specs.Ends.{Small}
use Rattle.feasible_point.specs.Shortening.{IsFactor}
use Rattle.feasible_point.proofs.shortening.factor_of.Given as goal

abbrev pub invariant-loop-mult : goal.invariant-loop-mult
invariant-loop-mult l = IsFactor (take l.mult-index l.mults) l.found × Small l.found × (pos 0 ≤ℤ l.found)
