use Rattle.order_graph.proofs.PlacingLaws.{AreTried}
use Rattle.order_graph.proofs.placing.free.Given as goal

abbrev pub invariant-loop-k : goal.invariant-loop-k
invariant-loop-k l = AreTried l.before l.left l.rest

abbrev pub decreases-loop-k : goal.decreases-loop-k
decreases-loop-k l = l.rest
