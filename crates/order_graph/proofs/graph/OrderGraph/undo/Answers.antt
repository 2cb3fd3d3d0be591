use Rattle.std.proofs.Common.{arith, rules, ◌≡◌, ◌+◌, ◌-◌, length, take, subst, ap, length-take}
use Rattle.std.proofs.lemmas.List.{take-take}
use Rattle.object_orders.specs.Orders.{IsGraph}
use Rattle.order_graph.proofs.OrderLaws.{graph_fewer}
use Rattle.order_graph.proofs.NoteLaws.{former_fewer, last_among, last_undone}
use Rattle.order_graph.proofs.graph.OrderGraph.undo.Goals as goal

pub invariant_of-self : goal.invariant_of-self
invariant_of-self c =
    let g = c.self.inside in
    let is = c.self.invariant in
    let m = g.len - 1 in
    let count : length (take g.len g.held) ≡ length c.args.self.now.held = ap (λ t. length t.held) c.self.view_is in
    let one : g.len ≡ m + 1 = omega (arith, c.requires, length-take g.len g.held) in
    let orders : length g.held ≡ 256 = search rules in
    let objects : length g.before ≡ 16 = search rules in
    let among = last_among g.n g.held g.len m one (omega (arith, is.0, orders)) is.1.among in (
      omega (arith, is.0),
      subst (IsGraph g.n) (take-take m g.len g.held (omega arith)) (graph_fewer g.n (take g.len g.held) m is.1),
      last_undone g.held g.before g.former g.len m one (omega (arith, is.0, orders)) (omega (arith, among.1, is.1.few, objects)) is.2 is.3,
      former_fewer g.held g.former g.len m (omega arith) (omega (arith, is.0, orders)) is.3,
    )
