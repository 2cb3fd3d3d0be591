use Rattle.std.proofs.Common.{◌≡◌, ◌≤◌, length}
use Rattle.bench_orders.proofs.graph_of.Given as goal

abbrev pub invariant-loop-i : goal.invariant-loop-i
invariant-loop-i l = record { same : l.graph.objects ≡ 16; few : length l.graph.held ≤ l.i-index }
