use Rattle.std.proofs.Common.{arith, rules, ◌≡◌, ◌<◌, ◌∷◌, [], ◌++◌, ◌+◌, length, refl, get_or, set, take, ap, sym, subst, length-take}
use Rattle.std.proofs.lemmas.Bool.{false≢true}
use Rattle.std.proofs.lemmas.List.{take_more_set}
use Rattle.object_orders.specs.Orders.{IsGraph}
use Rattle.order_graph.specs.Sets.{AreNoted, AreFormer}
use Rattle.order_graph.proofs.OrderLaws.{leads_if_closes, graph_more}
use Rattle.order_graph.proofs.NoteLaws.{note_more, former_more}
use Rattle.order_graph.proofs.graph.OrderGraph.add.Goals as goal

pub returns-in-Some-clause-refused : goal.returns-in-Some-clause-refused
returns-in-Some-clause-refused c =
    let g = c.self.inside in
    let held = take g.len g.held in
    rw (← c.self.view_is) (λ _. leads_if_closes held c.args.i c.args.j c.in-Some.cycle (c.in-Some.ensures held c.self.invariant.2), λ _. refl)

pub returns-clause-refused : goal.returns-clause-refused
returns-clause-refused c =
    let g = c.self.inside in
    rw (← c.self.view_is) (λ wrong. absurd (false≢true wrong), λ leads. absurd (c.in_default.ensures (take g.len g.held) c.self.invariant.2 leads))

pub invariant_of-self : goal.invariant_of-self
invariant_of-self c =
    let g = c.self.inside in
    let is = c.self.invariant in
    let i = c.args.i in
    let j = c.args.j in
    let held = take g.len g.held in
    let old = get_or g.before j 0 in
    let objects : g.n ≡ c.args.self.now.objects = ap (λ t. t.objects) c.self.view_is in
    let count : length held ≡ length c.args.self.now.held = ap (λ t. length t.held) c.self.view_is in
    let orders : length g.held ≡ 256 = search rules in
    let sets : length g.before ≡ 16 = search rules in
    let kept : length g.former ≡ 256 = search rules in
    let place : g.len ≡ length held = omega (arith, is.0, length-take g.len g.held) in
    let room : g.len < 256 = omega arith in
    let whole : held ++ (i, j) ∷ [] ≡ take (g.len + 1) (set g.held g.len (i, j)) = sym (take_more_set g.held g.len (i, j) (omega arith)) in (
      omega arith,
      subst (IsGraph g.n) whole (graph_more g.n held i j is.1 (omega arith) (omega arith) c.requires.apart (c.in_default.ensures held is.2)),
      subst (λ xs. AreNoted xs (set g.before j c.with.result)) whole (note_more held g.before i j c.with.result (omega (arith, is.1.few)) is.2 c.with.ensures.same c.with.ensures.others),
      subst (λ xs. AreFormer xs (set g.former g.len old)) whole (former_more held g.former i j old g.len place (omega arith) is.3 (is.2 j)),
    )
