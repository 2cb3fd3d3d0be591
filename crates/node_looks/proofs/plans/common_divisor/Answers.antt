use Rattle.std.proofs.Common.{◌+◌, List, [], take, sym, subst, ◌∙◌, rules, FitsSigned, ℤ}
use Rattle.std.proofs.lemmas.Int.{to_z-of_z}
use Rattle.std.proofs.lemmas.List.{take_more}
use Rattle.node_looks.specs.Scaled.{IsCommon}
use Rattle.node_looks.proofs.Scaling.{common_none, common_more}
use Rattle.seq_model.specs.declared.plan.Place.{Place}
use Rattle.node_looks.proofs.plans.common_divisor.Goals as goal

pub loop-place-init : goal.loop-place-init
loop-place-init c =
    let fits : FitsSigned mir.Syntax.w128 c.from-divisor.result = search rules in
    let narrow : FitsSigned mir.Syntax.w64 c.args.at.now.den = search rules in
    record {
      common = subst (λ (g : ℤ). IsCommon g c.args.at.now.den []) (sym (to_z-of_z mir.Syntax.w128 c.from-divisor.result fits ∙ c.from-divisor.ensures ∙ to_z-of_z mir.Syntax.w64 c.args.at.now.den narrow)) (common_none c.args.at.now.den c.requires.positive);
      size = search rules;
    }

pub loop-place-preserved : goal.loop-place-preserved
loop-place-preserved c =
    let fits : FitsSigned mir.Syntax.w128 c.shared_divisor-divisor.result = search rules in
    record {
      common = subst (λ (g : ℤ). IsCommon g c.args.at.now.den (take (c.loop-place.place-index + 1) c.args.places.now)) (sym (to_z-of_z mir.Syntax.w128 c.shared_divisor-divisor.result fits))
          (subst (λ (ps : List Place). IsCommon c.shared_divisor-divisor.result c.args.at.now.den ps) (sym (take_more c.args.places.now c.loop-place.place-index _ c.loop-place-test.true))
          (common_more c.args.at.now.den _ c.shared_divisor-divisor.result (take c.loop-place.place-index c.args.places.now) _ c.loop-place.invariant.common c.shared_divisor-divisor.ensures.shared));
      size = search rules;
    }
