use Rattle.node_looks.specs.Sites.{HoldsUpTo}
use Rattle.node_looks.proofs.orders.hold_all.Given as goal

abbrev pub invariant-loop-j : goal.invariant-loop-j
invariant-loop-j l = HoldsUpTo l.site l.i l.j l.graph
