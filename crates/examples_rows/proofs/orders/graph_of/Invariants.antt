use Rattle.std.proofs.Common.{◌≡◌, ◌≤◌, length}
use Rattle.examples_rows.proofs.orders.graph_of.Given as goal

abbrev pub invariant-loop-i : goal.invariant-loop-i
invariant-loop-i l = record { same : l.graph.objects ≡ l.n; few : length l.graph.held ≤ l.i-index }
