-- How great the numbers of a row are.
--
--   IsSized n x y        both numbers are at most n in size
--   IsSmallRow vars row  the row has `vars` coefficients below 2^21 in size, and a constant below 2^44
use Rattle.std.specs.Prelude.{◌≡◌, ℕ, ◌^◌, ◌<◌, ◌≤◌, length, ℤ, unsigned_abs, All}
use Rattle.seq_model.specs.declared.row.Row.{Row}

pub record IsSized (n : ℕ) (x y : ℤ) : Type 0 where
  pub first : unsigned_abs x ≤ n
  pub second : unsigned_abs y ≤ n

pub record IsSmallRow (vars : ℕ) (row : Row) : Type 0 where
  pub many : length row.a ≡ vars
  pub constant : unsigned_abs row.c < 2 ^ 44
  pub entries : All (λ x. unsigned_abs x < 2 ^ 21) row.a
