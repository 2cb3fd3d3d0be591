use Rattle.std.proofs.Common.{arith, sym, subst}
use Rattle.object_orders.specs.Orders.{IsOrder}
use Rattle.order_graph.proofs.PlacingLaws.{IsPlacing, placed_more, order_from_placing, room_left}
use Rattle.order_graph.proofs.placing.order_of.Goals as goal

pub push-requires : goal.push-requires
push-requires c =
    let room = room_left c.args.n c.args.before.now c.loop-k.left c.loop-k.placed c.in-Some.k c.loop-k.invariant c.in-Some.ensures.left_over in
    omega (arith, room, c.requires.few)

pub loop-k-preserved : goal.loop-k-preserved
loop-k-preserved c =
    let left = c.without-left in
    subst (IsPlacing c.args.n c.args.before.now left.result) (sym c.push.ensures) (placed_more c.args.n c.args.before.now c.loop-k.left c.loop-k.placed c.in-Some.k c.requires.among c.loop-k.invariant c.in-Some.ensures left.result left.ensures.same left.ensures.others)

pub returns-in-None : goal.returns-in-None
returns-in-None c orders noted =
    subst (IsOrder c.args.n orders) (sym c.into_order.ensures) (order_from_placing c.args.n orders c.args.before.now c.loop-k.left c.loop-k.placed noted c.requires.among c.loop-k.invariant c.in-None.ensures)
