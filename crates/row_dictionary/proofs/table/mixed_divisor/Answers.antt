use Rattle.std.proofs.Common.{rules, List, ℤ, sym, subst, SFits, to_z-of_z}
use Rattle.std.specs.Int.{w128}
use Rattle.row_dictionary.specs.Mixing.{mixed_numbers, IsCommon}
use Rattle.row_dictionary.proofs.table.mixed_divisor.Goals as goal

pub returns-then-are_quick-clause-divisors : goal.returns-then-are_quick-clause-divisors
returns-then-are_quick-clause-divisors c =
    let fits : SFits w128 c.quick_divisor.result = search rules in
    subst (λ (g : ℤ). IsCommon c.args.found.now (mixed_numbers c.args.mix.now c.args.line.now c.args.by.now) g) (sym (to_z-of_z fits))
    (subst (λ (l : List ℤ). IsCommon c.args.found.now (mixed_numbers c.args.mix.now l c.args.by.now) c.quick_divisor.result) c.as_slice.ensures c.quick_divisor.ensures.divisors)

pub returns-clause-divisors : goal.returns-clause-divisors
returns-clause-divisors c =
    let fits : SFits w128 c.common_divisor.result = search rules in
    subst (λ (g : ℤ). IsCommon c.args.found.now (mixed_numbers c.args.mix.now c.args.line.now c.args.by.now) g) (sym (to_z-of_z fits))
    (subst (λ (l : List ℤ). IsCommon c.args.found.now (mixed_numbers c.args.mix.now l c.args.by.now) c.common_divisor.result) c.as_slice-2.ensures c.common_divisor.ensures.divisors)
