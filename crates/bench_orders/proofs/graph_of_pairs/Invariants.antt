use Rattle.std.proofs.Common.{◌≡◌, ◌≤◌, length}
use Rattle.bench_orders.proofs.graph_of_pairs.Given as goal

abbrev pub invariant-loop-k : goal.invariant-loop-k
invariant-loop-k l = record { same : l.graph.objects ≡ 16; few : length l.graph.held ≤ l.k }
