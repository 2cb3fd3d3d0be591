use Rattle.std.proofs.Common.{◌≡◌, ◌↔◌, ℤ, pos, sym, arith, subst, unsigned_abs}
use Rattle.std.proofs.lemmas.Int.{to_z-of_z, to_z_pos}
use Rattle.std.specs.Int.{w128}
use Rattle.integer_laws.specs.Divisors.{IsGcdOf}
use Rattle.seq_num.proofs.CommonDivisors.{gcd_of_signed, zero_of_zeros}
use Rattle.seq_num.proofs.divisors.gcd.Goals as goal

pub returns-clause-is : goal.returns-clause-is
returns-clause-is c =
    let a = c.args.a in
    let b = c.args.b in
    let g = c.gcd_of_sizes.result in
    let a_fits = c.ranges.a in
    let b_fits = c.ranges.b in
    let size_a : c.unsigned_abs.result ≡ unsigned_abs a = simp to_z-of_z at c.unsigned_abs.ensures.value in
    let size_b : c.unsigned_abs-2.result ≡ unsigned_abs b = simp to_z-of_z at c.unsigned_abs-2.ensures.value in
    let P : ℤ → Type 0 = IsGcdOf a b in
    subst P (sym (to_z_pos w128 g (omega arith))) (gcd_of_signed a b _ _ g size_a size_b c.gcd_of_sizes.ensures.is)

pub returns-clause-zero : goal.returns-clause-zero
returns-clause-zero c =
    let a = c.args.a in
    let b = c.args.b in
    let g = c.gcd_of_sizes.result in
    let a_fits = c.ranges.a in
    let b_fits = c.ranges.b in
    let size_a : c.unsigned_abs.result ≡ unsigned_abs a = simp to_z-of_z at c.unsigned_abs.ensures.value in
    let size_b : c.unsigned_abs-2.result ≡ unsigned_abs b = simp to_z-of_z at c.unsigned_abs-2.ensures.value in
    let P : ℤ → Type 0 = λ z. (z ≡ pos 0) ↔ (a ≡ pos 0) × (b ≡ pos 0) in
    subst P (sym (to_z_pos w128 g (omega arith))) (zero_of_zeros a b g (gcd_of_signed a b _ _ g size_a size_b c.gcd_of_sizes.ensures.is))
