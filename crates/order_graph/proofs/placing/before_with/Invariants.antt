use Rattle.std.proofs.Common.{◌≡◌, List, ◌++◌, length, take, ℕ}
use Rattle.order_graph.specs.Sets.{AreNoted}
use Rattle.order_graph.proofs.placing.before_with.Given as goal

abbrev pub invariant-loop-i : goal.invariant-loop-i
invariant-loop-i l = record {
  long : length l.more ≡ 16;
  noted : (held : List (ℕ × ℕ)) → AreNoted held l.before → AreNoted (held ++ take l.i-index l.orders) l.more;
}
