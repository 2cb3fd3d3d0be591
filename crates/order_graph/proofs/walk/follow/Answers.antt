use Rattle.std.proofs.Common.{arith, ◌<◌, refl, sym, subst, ◌∙◌}
use Rattle.std.proofs.lemmas.List.{length_push}
use Rattle.std.proofs.lemmas.List.Elements.{All-push}
use Rattle.order_graph.specs.Searches.{IsNext, ComesRound, IsWalk}
use Rattle.order_graph.proofs.Lists.{room, once_push}
use Rattle.order_graph.proofs.WayLaws.{EachNext-push, ring, starts_push}
use Rattle.order_graph.proofs.walk.follow.Goals as goal

pub returns-in-Some : goal.returns-in-Some
returns-in-Some c =
    let i = c.loop-place.invariant in
    subst (ComesRound c.args.next.now) (sym c.into_cycle.ensures) (ring c.args.next.now c.loop-place.passed c.loop-place.at c.in-Some.place i.once i.steps c.in-Some.ensures.0 c.in-Some.ensures.1)

pub push-requires : goal.push-requires
push-requires c =
    let i = c.loop-place.invariant in
    room 16 c.loop-place.passed c.loop-place.at i.once i.passed i.below c.in_default.ensures

pub loop-place-smaller : goal.loop-place-smaller
loop-place-smaller c =
    let i = c.loop-place.invariant in
    let few = room 16 c.loop-place.passed c.loop-place.at i.once i.passed i.below c.in_default.ensures in
    rw (c.push.ensures, length_push) (omega arith)

pub loop-place-preserved : goal.loop-place-preserved
loop-place-preserved c =
    let i = c.loop-place.invariant in
    rw (c.push.ensures) (record {
      below = c.requires.next c.loop-place.at c.in-Some-next.after c.in-Some-next.is;
      passed = All-push (λ k. k < 16) c.loop-place.passed c.loop-place.at i.passed i.below;
      once = once_push c.loop-place.passed c.loop-place.at i.once c.in_default.ensures;
      steps = EachNext-push (IsNext c.args.next.now) c.loop-place.passed c.loop-place.at c.in-Some-next.after i.steps c.in-Some-next.is;
      starts = starts_push c.loop-place.passed c.loop-place.at c.in-Some-next.after ∙ i.starts;
    })

pub returns-in_default-next : goal.returns-in_default-next
returns-in_default-next c =
    let i = c.loop-place.invariant in
    subst (IsWalk c.args.next.now c.args.start) (sym c.push.ensures) (record {
      front = c.loop-place.passed;
      last = c.loop-place.at;
      whole = refl;
      once = once_push c.loop-place.passed c.loop-place.at i.once c.in_default.ensures;
      starts = i.starts;
      steps = i.steps;
      ends = c.in_default-next.is;
    })
