use Rattle.std.proofs.Common.{arith, ap, sym, unsigned_abs, subst}
use lib.Dec.{T}
use Rattle.row_dictionary.proofs.Keeping.{kept_number}
use Rattle.row_dictionary.proofs.number.is_wide_number.Goals as goal

pub returns-then-is_kept : goal.returns-then-is_kept
returns-then-is_kept c =
    let k = c.is_kept.ensures c.if-is_kept.true in
    let same = ap unsigned_abs (kept_number c.args.mix.now c.args.i c.args.z.now c.args.y.now k.0 k.1 k.2 c.requires.g) in
    (λ t. absurd (subst T (sym t) tt), λ w. let s = c.requires.z in absurd (omega (arith, w, same, s)))
