-- The whole number nearest to a fraction n / d, for a divisor d of at least 1.
--
--   IsNearest n d q   == q is the whole number nearest to n / d, the one of greater size at a tie
--   half_up n d       == that number, where n is at least 0
use Rattle.std.specs.Prelude.{◌≡◌, ℕ, ◌+◌, ◌*◌, ◌/◌, ℤ, ◌-ℤ◌, ◌*ℤ◌, ◌≤◌, unsigned_abs}

-- no multiple of d is nearer to n than d * q is, and where another is as near, its factor is of no greater size
pub record IsNearest (n d q : ℤ) : Type 0 where
  pub nearest : (r : ℤ) → unsigned_abs (n -ℤ d *ℤ q) ≤ unsigned_abs (n -ℤ d *ℤ r)
  pub greatest : (r : ℤ) → unsigned_abs (n -ℤ d *ℤ r) ≡ unsigned_abs (n -ℤ d *ℤ q) → unsigned_abs r ≤ unsigned_abs q

abbrev pub half_up : ℕ → ℕ → ℕ
half_up n d = (2 * n + d) / (2 * d)
