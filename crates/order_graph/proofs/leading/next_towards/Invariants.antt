use Rattle.std.proofs.Common.{◌+◌, ◌-◌, ◌*◌}
use Rattle.order_graph.proofs.LeadingLaws.{IsSearch}
use Rattle.order_graph.proofs.leading.next_towards.Given as goal

abbrev pub invariant-loop-b : goal.invariant-loop-b
invariant-loop-b l = IsSearch l.before l.goal l.next l.known l.todo

abbrev pub decreases-loop-b : goal.decreases-loop-b
decreases-loop-b l = (65536 - l.known) * 65536 + l.todo
