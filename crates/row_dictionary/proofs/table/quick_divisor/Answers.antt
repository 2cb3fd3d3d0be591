use Rattle.std.proofs.Common.{rules, ◌≡◌, ◌∙◌, ℤ, sym, subst, SFits, w64, to_z, of_z, to_z-of_z}
use Rattle.std.specs.Int.{w128}
use Rattle.row_dictionary.specs.Mixing.{mixed_numbers, IsCommon}
use Rattle.row_dictionary.proofs.table.quick_divisor.Goals as goal

pub returns-clause-divisors : goal.returns-clause-divisors
returns-clause-divisors c =
    let xs = mixed_numbers c.args.mix.now c.args.line.now c.args.by.now in
    let fits : SFits w64 c.short.result = search rules in
    let start : to_z w64 (of_z w64 c.short.result) ≡ c.args.found.now = to_z-of_z fits ∙ c.short.ensures.value in
    let same : to_z w128 (of_z w128 c.from.result) ≡ c.narrow_divisor.result = search rules in
    subst (λ (g : ℤ). IsCommon c.args.found.now xs g) (sym same) (subst (λ (s : ℤ). IsCommon s xs c.narrow_divisor.result) start c.narrow_divisor.ensures.divisors)
