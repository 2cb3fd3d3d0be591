use Rattle.std.proofs.Common.{rules, ◌+◌, ℤ, pos, ◌≤ℤ◌, sym, subst, arith, take, SFits, to_z, to_z-of_z}
use Rattle.std.specs.Int.{w128}
use Rattle.row_pivots.specs.Ends.{Small}
use Rattle.feasible_point.specs.Shortening.{IsFactor}
use Rattle.feasible_point.proofs.Factors.{factor_more, factor_all, factor_some}
use Rattle.feasible_point.proofs.shortening.factor_of.Goals as goal

pub loop-mult-preserved : goal.loop-mult-preserved
loop-mult-preserved c =
    let ms = c.args.mults.now in
    let i = c.loop-mult.mult-index in
    let fits : SFits w128 c.factor_with-found.result = search rules in
    subst (λ (t : ℤ). IsFactor (take (i + 1) ms) t × Small t × (pos 0 ≤ℤ t)) (sym (to_z-of_z fits)) (
      factor_more ms i (to_z w128 c.loop-mult.found-bits) c.factor_with-found.result _ (omega arith) c.loop-mult.invariant.0 c.factor_with-found.ensures.is,
      c.factor_with-found.ensures.size,
      c.factor_with-found.ensures.is.nonneg,
    )

pub returns-clause-is : goal.returns-clause-is
returns-clause-is c = factor_all c.args.mults.now c.loop-mult.mult-index (to_z w128 c.loop-mult.found-bits) (omega arith) c.loop-mult.invariant.0

pub returns-clause-positive : goal.returns-clause-positive
returns-clause-positive c = factor_some c.args.mults.now (to_z w128 c.loop-mult.found-bits) c.requires.some c.requires.taking (returns-clause-is c) c.loop-mult.invariant.2
