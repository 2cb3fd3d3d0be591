use Rattle.order_graph.proofs.PlacingLaws.{AreLinked}
use Rattle.order_graph.proofs.placing.next_backwards.Given as goal

abbrev pub invariant-loop-k : goal.invariant-loop-k
invariant-loop-k l = AreLinked l.before l.left l.rest l.next

abbrev pub decreases-loop-k : goal.decreases-loop-k
decreases-loop-k l = l.rest
