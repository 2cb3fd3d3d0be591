use Rattle.std.proofs.Common.{arith, ◌≡◌, ◌+◌, ◌∷◌, ◌++◌, [], get_or, set, take, sym, subst, ap, ◌∙◌, append_assoc, length-set, take_all}
use Rattle.std.proofs.lemmas.List.{take_more}
use Rattle.order_graph.specs.Sets.{AreNoted}
use Rattle.order_graph.proofs.NoteLaws.{note_more}
use Rattle.order_graph.proofs.placing.before_with.Goals as goal

pub loop-i-preserved : goal.loop-i-preserved
loop-i-preserved c =
    let orders = c.args.orders.now in
    let at = c.loop-i.i-index in
    let o = get_or orders at (0, 0) in
    let among = c.requires at (0, 0) (omega arith) in
    let long = c.loop-i.invariant.long in
    record {
      long = length-set c.loop-i.more o.1 c.with.result ∙ long;
      noted = λ held noted.
          let more = note_more (held ++ take at orders) c.loop-i.more o.0 o.1 c.with.result (omega (arith, long, among.1)) (c.loop-i.invariant.noted held noted) c.with.ensures.same c.with.ensures.others in
          let whole : (held ++ take at orders) ++ o ∷ [] ≡ held ++ take (at + 1) orders = append_assoc held (take at orders) (o ∷ []) ∙ ap (λ xs. held ++ xs) (sym (take_more orders at (0, 0) (omega arith))) in
          subst (λ xs. AreNoted xs (set c.loop-i.more o.1 c.with.result)) whole more;
    }

pub returns : goal.returns
returns c held noted =
    let all = take_all c.loop-i.i-index c.args.orders.now (omega arith) in
    subst (λ xs. AreNoted (held ++ xs) c.loop-i.more) all (c.loop-i.invariant.noted held noted)
