use Rattle.order_graph.proofs.PlacingLaws.{IsPlacing}
use Rattle.order_graph.proofs.placing.order_of.Given as goal

abbrev pub invariant-loop-k : goal.invariant-loop-k
invariant-loop-k l = IsPlacing l.n l.before l.left l.placed

abbrev pub decreases-loop-k : goal.decreases-loop-k
decreases-loop-k l = l.left
