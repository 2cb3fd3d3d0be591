use Rattle.node_looks.specs.Sites.{HoldsUpTo}
use Rattle.node_looks.proofs.orders.graph_of.Given as goal

abbrev pub invariant-loop-i : goal.invariant-loop-i
invariant-loop-i l = HoldsUpTo l.site l.i 0 l.graph
