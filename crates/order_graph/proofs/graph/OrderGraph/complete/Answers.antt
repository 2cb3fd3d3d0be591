use Rattle.std.proofs.Common.{◌≡◌, take, ◌++◌, sym, subst, ap}
use Rattle.object_orders.specs.Orders.{AreAmong, IsOrder, IsSimpleCycle}
use Rattle.order_graph.proofs.OrderLaws.{if_ok, if_err, order_exactly, cycle_exactly, order_whole}
use Rattle.order_graph.proofs.NoteLaws.{all_among, before_among}
use Rattle.order_graph.proofs.graph.OrderGraph.complete.Goals as goal

pub order_of-requires-clause-among : goal.order_of-requires-clause-among
order_of-requires-clause-among c =
    let g = c.self.inside in
    let held = take g.len g.held in
    let objects : g.n ≡ c.args.self.now.objects = ap (λ t. t.objects) c.self.view_is in
    let forced = subst (λ n. AreAmong n c.args.forced.now) (sym objects) c.requires in
    before_among g.n (held ++ c.args.forced.now) c.before_with-before.result (all_among g.n held c.args.forced.now c.self.invariant.1.among forced) (c.before_with-before.ensures held c.self.invariant.2)

pub returns-clause-order : goal.returns-clause-order
returns-clause-order c =
    let g = c.self.inside in
    let held = take g.len g.held in
    let orders = held ++ c.args.forced.now in
    let answer = c.order_of.ensures orders (c.before_with-before.ensures held c.self.invariant.2) in
    rw (← c.self.view_is) (if_ok c.order_of.result (IsOrder g.n orders) (IsSimpleCycle orders) answer)

pub returns-clause-cycle : goal.returns-clause-cycle
returns-clause-cycle c =
    let g = c.self.inside in
    let held = take g.len g.held in
    let orders = held ++ c.args.forced.now in
    let answer = c.order_of.ensures orders (c.before_with-before.ensures held c.self.invariant.2) in
    rw (← c.self.view_is) (if_err c.order_of.result (IsOrder g.n orders) (IsSimpleCycle orders) answer)

pub returns-clause-order_exactly : goal.returns-clause-order_exactly
returns-clause-order_exactly c =
    let g = c.self.inside in
    let held = take g.len g.held in
    let orders = held ++ c.args.forced.now in
    let answer = c.order_of.ensures orders (c.before_with-before.ensures held c.self.invariant.2) in
    rw (← c.self.view_is) (order_exactly g.n orders c.order_of.result answer)

pub returns-clause-cycle_exactly : goal.returns-clause-cycle_exactly
returns-clause-cycle_exactly c =
    let g = c.self.inside in
    let held = take g.len g.held in
    let orders = held ++ c.args.forced.now in
    let answer = c.order_of.ensures orders (c.before_with-before.ensures held c.self.invariant.2) in
    rw (← c.self.view_is) (cycle_exactly g.n orders c.order_of.result answer)

pub returns-clause-whole : goal.returns-clause-whole
returns-clause-whole c =
    let g = c.self.inside in
    let held = take g.len g.held in
    let orders = held ++ c.args.forced.now in
    let answer = c.order_of.ensures orders (c.before_with-before.ensures held c.self.invariant.2) in
    rw (← c.self.view_is) (order_whole g.n orders c.order_of.result answer)
