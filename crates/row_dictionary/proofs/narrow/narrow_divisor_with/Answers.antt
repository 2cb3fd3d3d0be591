use Rattle.std.proofs.Common.{rules, w64, ℤ, sym, subst, SFits, to_z-of_z}
use Rattle.integer_laws.specs.Divisors.{IsGcdOf}
use Rattle.row_dictionary.specs.Mixing.{mixed}
use Rattle.row_dictionary.proofs.Keeping.{multiple_number, nothing_number}
use Rattle.row_dictionary.proofs.narrow.narrow_divisor_with.Goals as goal

pub returns-then-is_multiple-clause-is : goal.returns-then-is_multiple-clause-is
returns-then-is_multiple-clause-is c =
    let k = c.is_multiple.ensures c.if-is_multiple.true in
    let fits : SFits w64 c.args.found.now = search rules in
    subst (λ (t : ℤ). IsGcdOf c.args.found.now (mixed c.args.mix.now c.args.i c.args.z.now c.args.y.now) t) (sym (to_z-of_z fits))
    (multiple_number c.args.mix.now c.args.i c.args.z.now c.args.y.now c.args.found.now k.0 k.1 k.2 k.3)

pub returns-then-is_nothing-clause-is : goal.returns-then-is_nothing-clause-is
returns-then-is_nothing-clause-is c =
    let k = c.is_nothing.ensures c.if-is_nothing.true in
    let fits : SFits w64 c.args.found.now = search rules in
    subst (λ (t : ℤ). IsGcdOf c.args.found.now (mixed c.args.mix.now c.args.i c.args.z.now c.args.y.now) t) (sym (to_z-of_z fits))
    (nothing_number c.args.mix.now c.args.i c.args.z.now c.args.y.now c.args.found.now k.0 k.1 k.2 k.3)
