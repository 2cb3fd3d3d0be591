-- Greatest common divisors. `d ∣ n` and `IsGcd a b g` are std's, of natural numbers; a signed number goes in by its size, `unsigned_abs`.
--
--   AreCoprime a b       no number but 1 divides both
--   gcd_of a b           their greatest common divisor, by Euclid's algorithm
--   IsGcdOf a b g        g, not negative, is the greatest common divisor of two signed numbers; 0 for two zeros
--   IsPrimitive x y      no number but 1 divides both of two signed numbers
--   Reduces x y p q      (p, q) is primitive, and (x, y) a positive multiple of it
use Rattle.std.proofs.Common.{◌≡◌, ℕ, zero, suc, ◌%◌, ℤ, pos, ◌*ℤ◌, ◌<ℤ◌, ◌≤ℤ◌, unsigned_abs}
use Rattle.std.specs.Int.{IsGcd, ◌∣◌}

abbrev pub AreCoprime : ℕ → ℕ → Type 0
AreCoprime a b = (d : ℕ) → d ∣ a → d ∣ b → d ≡ 1

-- b is less in each step, so b steps are enough
unfoldable pub gcd_within : (steps a b : ℕ) → ℕ
gcd_within steps a zero = a
gcd_within zero a (suc b) = a
gcd_within (suc steps) a (suc b) = gcd_within steps (suc b) (a % suc b)

abbrev pub gcd_of : ℕ → ℕ → ℕ
gcd_of a b = gcd_within b a b

pub record IsGcdOf (a b g : ℤ) : Type 0 where
  pub nonneg : pos 0 ≤ℤ g
  pub is : IsGcd (unsigned_abs a) (unsigned_abs b) (unsigned_abs g)

abbrev pub IsPrimitive : ℤ → ℤ → Type 0
IsPrimitive x y = AreCoprime (unsigned_abs x) (unsigned_abs y)

pub record Reduces (x y p q : ℤ) : Type 0 where
  pub k : ℤ
  pub positive : pos 0 <ℤ k
  pub x_is : x ≡ k *ℤ p
  pub y_is : y ≡ k *ℤ q
  pub primitive : IsPrimitive p q
