use Rattle.std.proofs.Common.{◌≡◌, map, take}
use Rattle.feasible_point.specs.Shortening.{shorter}
use Rattle.feasible_point.proofs.shortening.all_shorter.Given as goal

abbrev pub invariant-loop-mult : goal.invariant-loop-mult
invariant-loop-mult l = l.list.items ≡ map (shorter l.factor) (take l.mult-index l.mults)
