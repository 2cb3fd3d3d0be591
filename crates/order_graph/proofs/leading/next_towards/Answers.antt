use Rattle.order_graph.proofs.LeadingLaws.{at_goal, reach_one, shut_one}
use Rattle.order_graph.proofs.leading.next_towards.Goals as goal

pub loop-b-init : goal.loop-b-init
loop-b-init c = at_goal c.args.before.now c.args.goal c.with-known.result c.with-known.ensures.same c.with-known.ensures.others

pub loop-b-preserved-in-Some-any_of : goal.loop-b-preserved-in-Some-any_of
loop-b-preserved-in-Some-any_of c =
    let a = c.in-Some-any_of.a in
    let new = (c.apart.ensures a).0 c.in-Some-any_of.ensures.1 in
    let known = c.with-known-in-Some-any_of in
    let todo = c.with-todo in
    reach_one c.args.before.now c.args.goal c.loop-b.next c.loop-b.known c.loop-b.todo a c.in-Some.b c.loop-b.invariant c.in-Some-any_of.ensures.0 new.0 new.1 c.in-Some.ensures.1 known.result todo.result known.ensures.same known.ensures.others todo.ensures.same todo.ensures.others

pub loop-b-preserved : goal.loop-b-preserved
loop-b-preserved c =
    let todo = c.without-todo in
    shut_one c.args.before.now c.args.goal c.loop-b.next c.loop-b.known c.loop-b.todo c.in-Some.b c.loop-b.invariant (λ a order unknown. c.in-None.ensures a ((c.apart.ensures a).1 (order, unknown))) todo.result todo.ensures.same todo.ensures.others
