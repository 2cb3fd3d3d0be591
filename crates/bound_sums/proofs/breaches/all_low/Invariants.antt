use Rattle.std.proofs.Common.{pos, ◌≤ℤ◌, take, All}
use Rattle.bound_sums.proofs.breaches.all_low.Given as goal

abbrev pub invariant-loop-sum : goal.invariant-loop-sum
invariant-loop-sum l = All (λ a. a ≤ℤ pos 0) (take l.sum-index l.sums)
