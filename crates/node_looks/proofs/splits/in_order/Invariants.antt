use Rattle.std.proofs.Common.{◌≡◌, ℕ, ◌<◌, length, get_or}
use Rattle.node_looks.proofs.splits.in_order.Given as goal

abbrev pub invariant-loop-k : goal.invariant-loop-k
invariant-loop-k l = record { long : length l.visit.items ≡ l.k; each : (i : ℕ) → i < l.k → get_or l.visit.items i 0 ≡ i }
