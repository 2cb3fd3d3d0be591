use Rattle.std.proofs.Common.{arith, rules, ◌≡◌, not, length, sym, ap, ◌∙◌, subst}
use Rattle.std.proofs.lemmas.Bool.{false≢true}
use Rattle.object_orders.specs.Orders.{ClosesCycle}
use Rattle.order_graph.proofs.LeadingLaws.{known_if_leads, known_within, no_ring, closes}
use Rattle.order_graph.proofs.leading.cycle_closed_by.Goals as goal

pub returns-then-is_none : goal.returns-then-is_none
returns-then-is_none c orders noted leads =
    let known = known_if_leads orders c.args.before.now c.next_towards-next.result noted leads c.next_towards-next.ensures.all in
    let some = known (λ same. c.requires.apart (sym same)) in
    false≢true (sym (c.is_none.ensures ∙ ap not c.if-is_none.true) ∙ some)

pub follow-requires-clause-next : goal.follow-requires-clause-next
follow-requires-clause-next c a b is =
    let next = c.next_towards-next.result in
    let long : length next ≡ 16 = search rules in
    let within = known_within next c.args.i b (omega (arith, long, c.requires.i)) (c.next_towards-next.ensures.leads.known a b is) in
    omega (arith, long, within)

pub unreachable-requires : goal.unreachable-requires
unreachable-requires c = no_ring c.args.before.now c.args.i c.next_towards-next.result c.next_towards-next.ensures.leads _ c.in-Round.ensures

pub returns : goal.returns
returns c orders noted =
    let turned = closes orders c.args.before.now c.args.i c.next_towards-next.result c.args.j c.in-End.way noted c.next_towards-next.ensures.leads (λ _. c.if-is_none.ensures) (λ same. c.requires.apart (sym same)) c.in-End.ensures in
    subst (ClosesCycle orders c.args.i c.args.j) (sym c.into_cycle_from_last.ensures) turned
