use Rattle.std.proofs.Common.{◌∙◌, ℤ, sym, subst, rules}
use Rattle.std.proofs.lemmas.Int.{to_z-of_z}
use Rattle.std.proofs.lemmas.Result.{err_from_is_err_and}
use Rattle.std.specs.Int.{w64}
use Rattle.std.specs.Prelude.{FitsSigned}
use Rattle.decimal_lengths.specs.Lengths.{IsReadAs}
use Rattle.decimal_lengths.proofs.Answering.{stopped, far, near}
use Rattle.decimal_lengths.proofs.reading.read_short.Goals as goal

pub returns-in_err-number : goal.returns-in_err-number
returns-in_err-number c =
    let p = err_from_is_err_and c.from_residual.result c.from_residual.ensures.1 in
    rw (p.1, p.2) (stopped c.args.bytes.now _ c.requires.some c.requires.short c.in_err-number.ensures.refused)

pub returns-in_default : goal.returns-in_default
returns-in_default c = far c.args.bytes.now _ c.requires.short c.in_ok-number.ensures.accepted c.in_default.ensures

pub returns : goal.returns
returns c =
    let fits : FitsSigned w64 c.with_sign.result = search rules in
    let reads = near c.args.bytes.now _ c.in-Some.um c.requires.short c.in_ok-number.ensures.accepted c.in-Some.ensures in
    let P : ℤ → Type 0 = IsReadAs c.args.bytes.now in
    subst P (sym (to_z-of_z w64 c.with_sign.result fits ∙ c.with_sign.ensures)) reads
