use Rattle.std.proofs.Common.{ℕ, ◌≤◌, max}
use Rattle.std.specs.Int.{IsGcd}
use Rattle.seq_num.proofs.divisors.gcd_of_sizes.Given as goal

abbrev pub invariant-loop-b : goal.invariant-loop-b
invariant-loop-b l = record {
  is : (g : ℕ) → IsGcd l.a l.b g → IsGcd l.fn.a l.fn.b g;
  size : max l.a l.b ≤ max l.fn.a l.fn.b;
}

abbrev pub decreases-loop-b : goal.decreases-loop-b
decreases-loop-b l = l.b
