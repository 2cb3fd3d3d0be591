use Rattle.std.proofs.Common.{◌≤◌, ◌+◌, ◌*◌, ◌^◌, arith, refl, sym, subst, ◌∙◌, rules, FitsSigned, unsigned_abs}
use Rattle.std.proofs.lemmas.Int.{to_z-of_z}
use Rattle.bound_sums.proofs.BoundLaws.{step, taken, breaks_sum, breaks_constant, contradicts}
use Rattle.bound_sums.proofs.breaches.first_breach.Goals as goal

pub returns-then-not-all_low-clause-breach : goal.returns-then-not-all_low-clause-breach
returns-then-not-all_low-clause-breach c = breaks_sum _ _ _ _ _ c.loop-mult-test.false c.loop-mult.invariant.sums c.loop-mult.invariant.taken (c.if-not-all_low.ensures.high refl)

pub returns-then-not-is_below-clause-breach : goal.returns-then-not-is_below-clause-breach
returns-then-not-is_below-clause-breach c = breaks_constant _ _ _ _ _ c.loop-mult-test.false c.loop-mult.invariant.sums c.loop-mult.invariant.taken (c.if-not-all_low.ensures.low refl) (c.if-not-is_below.ensures.high refl)

pub returns-clause-breach : goal.returns-clause-breach
returns-clause-breach c = contradicts _ _ _ _ _ c.loop-mult-test.false c.loop-mult.invariant.sums c.loop-mult.invariant.taken (c.if-not-all_low.ensures.low refl) (c.if-not-is_below.ensures.below refl)

pub loop-mult-preserved : goal.loop-mult-preserved
loop-mult-preserved c =
    let before = c.loop-mult.invariant in
    let fits : FitsSigned mir.Syntax.w128 c.add_constant.new.constant = search rules in
    let cleared = to_z-of_z mir.Syntax.w128 c.add_constant.new.constant fits in
    let size = c.add_constant.ensures.size in
    let small = before.constant in
    record {
      sums = step _ _ _ _ _ _ _ _ _ _ _ c.loop-mult-test.true before.sums c.in-Some.ensures before.width c.add_line.ensures.added refl (cleared ∙ c.add_constant.ensures.value);
      taken = taken _ _ _ _ _ _ c.loop-mult-test.true c.requires.counted before.taken c.in-Some.ensures;
      width = c.add_line.ensures.len ∙ before.width;
      small = λ k d h. (let s = c.add_line.ensures.size (c.loop-mult.mult-index * 2 ^ 86) before.small k d h in omega (arith, s));
      constant = subst (λ z. unsigned_abs z ≤ (c.loop-mult.mult-index + 1) * 2 ^ 109) (sym cleared) (omega (arith, size, small));
    }
