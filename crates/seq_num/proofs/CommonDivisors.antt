-- The greatest common divisor of two sizes is that of the numbers.
use Rattle.std.proofs.Common.{◌≡◌, ℕ, zero, suc, ℤ, pos, negsuc, ◌↔◌, unsigned_abs, refl, ap, arith, subst₂}
use Rattle.std.proofs.lemmas.Int.{ints}
use Rattle.std.proofs.lemmas.Nat.Gcd.{IsGcd-from_zero, same_from_IsGcd}
use Rattle.std.specs.Int.{IsGcd}
use Rattle.integer_laws.specs.Divisors.{IsGcdOf}
use Rattle.integer_laws.specs.Laws.Divisors.{gcd_positive}

pub gcd_of_signed : (a b : ℤ) (m n g : ℕ) → m ≡ unsigned_abs a → n ≡ unsigned_abs b → IsGcd m n g → IsGcdOf a b (pos g)
gcd_of_signed a b m n g x y h = record { nonneg = omega (arith, ints); is = subst₂ (λ s t. IsGcd s t g) x y h }

positive_only : (a b : ℤ) (g : ℕ) → IsGcd (unsigned_abs a) (unsigned_abs b) g → g ≡ 0 → (a ≡ pos 0) × (b ≡ pos 0)
positive_only (pos zero) (pos zero) g h e = (refl, refl)
positive_only (pos zero) (pos (suc b)) g h e = absurd (let p = gcd_positive 0 (suc b) g h (omega arith) in omega arith)
positive_only (pos zero) (negsuc b) g h e = absurd (let p = gcd_positive 0 (suc b) g h (omega arith) in omega arith)
positive_only (pos (suc a)) b g h e = absurd (let p = gcd_positive (suc a) (unsigned_abs b) g h (omega arith) in omega arith)
positive_only (negsuc a) b g h e = absurd (let p = gcd_positive (suc a) (unsigned_abs b) g h (omega arith) in omega arith)

pub zero_of_zeros : (a b : ℤ) (g : ℕ) → IsGcdOf a b (pos g) → (pos g ≡ pos 0) ↔ (a ≡ pos 0) × (b ≡ pos 0)
zero_of_zeros a b g h = (
  λ e. positive_only a b g h.is (omega (arith, ints)),
  λ e. ap pos (same_from_IsGcd 0 0 g 0 (subst₂ (λ s t. IsGcd s t g) (ap unsigned_abs e.0) (ap unsigned_abs e.1) h.is) (IsGcd-from_zero 0 0 refl)),
)
