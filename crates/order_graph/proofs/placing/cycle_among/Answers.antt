use Rattle.std.proofs.Common.{sym, subst}
use Rattle.object_orders.specs.Orders.{IsSimpleCycle}
use Rattle.order_graph.proofs.PlacingLaws.{backwards_below, no_end, cycle_from_ring}
use Rattle.order_graph.proofs.placing.cycle_among.Goals as goal

pub follow-requires-clause-next : goal.follow-requires-clause-next
follow-requires-clause-next c = backwards_below c.args.before.now c.args.left c.next_backwards.result c.ranges.left.fits c.next_backwards.ensures

pub unreachable-requires : goal.unreachable-requires
unreachable-requires c = no_end c.args.before.now c.args.left c.next_backwards.result c.args.start _ c.next_backwards.ensures c.requires.start c.in-End.ensures

pub returns : goal.returns
returns c orders noted =
    subst (IsSimpleCycle orders) (sym c.reversed.ensures) (cycle_from_ring orders c.args.before.now c.args.left c.next_backwards.result noted c.requires.apart c.next_backwards.ensures _ c.in-Round.ensures)
