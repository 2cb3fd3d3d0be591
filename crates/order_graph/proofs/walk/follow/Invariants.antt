use Rattle.std.proofs.Common.{◌≡◌, ◌-◌, ◌<◌, [], ◌∷◌, ◌++◌, length, get_or, All}
use Rattle.object_orders.specs.Orders.{IsOnce, EachNext}
use Rattle.order_graph.specs.Searches.{IsNext}
use Rattle.order_graph.proofs.walk.follow.Given as goal

abbrev pub invariant-loop-place : goal.invariant-loop-place
invariant-loop-place l = record {
  below : l.at < 16;
  passed : All (λ k. k < 16) l.passed;
  once : IsOnce l.passed;
  steps : EachNext (IsNext l.next) (l.passed ++ l.at ∷ []);
  starts : get_or (l.passed ++ l.at ∷ []) 0 0 ≡ l.start;
}

abbrev pub decreases-loop-place : goal.decreases-loop-place
decreases-loop-place l = 16 - length l.passed
