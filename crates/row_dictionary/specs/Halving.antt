-- A sum of many numbers, in two halves.
--
--   whole h              the number: high times 2^62, and low
--   IsWithin n h         the halves of a sum of n numbers below 2^124 in size
use Rattle.std.specs.Prelude.{ℕ, ◌*◌, ◌≤◌, ◌^◌, ℤ, pos, ◌+ℤ◌, ◌*ℤ◌, ◌≤ℤ◌, unsigned_abs}
use Rattle.row_dictionary.specs.declared.halves.Halves.{Halves}

abbrev pub whole : Halves → ℤ
whole h = h.high *ℤ pos (2 ^ 62) +ℤ h.low

pub record IsWithin (n : ℕ) (h : Halves) : Type 0 where
  pub high : unsigned_abs h.high ≤ n * 2 ^ 62
  pub low : unsigned_abs h.low ≤ n * 2 ^ 62
  pub positive : pos 0 ≤ℤ h.low
