use Rattle.std.proofs.Common.{rules, w64, ℤ, sym, subst, SFits, to_z-of_z}
use Rattle.integer_laws.specs.Divisors.{IsGcdOf}
use Rattle.row_dictionary.proofs.Seats.{divisor_is}
use Rattle.row_dictionary.proofs.narrow.short_common.Goals as goal

pub returns-then-short_divides-clause-is : goal.returns-then-short_divides-clause-is
returns-then-short_divides-clause-is c =
    let h = c.short_divides.ensures c.if-short_divides.true in
    let fits : SFits w64 c.args.found.now = search rules in
    subst (λ (t : ℤ). IsGcdOf c.args.found.now c.args.x.now t) (sym (to_z-of_z fits)) (divisor_is c.args.found.now c.args.x.now h.0 h.1)
