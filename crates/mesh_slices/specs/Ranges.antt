-- The bounds of the numbers of a corner point.
--
--   IsRanged x y d        10 m in µm, times twice as much and twice again: numerators; a difference of heights: the denominator
use Rattle.std.specs.Prelude.{ℤ, pos, ◌≤◌, ◌≤ℤ◌, unsigned_abs}

pub record IsRanged (x y d : ℤ) : Type 0 where
  pub x_size : unsigned_abs x ≤ 400_000_000_000_000
  pub y_size : unsigned_abs y ≤ 400_000_000_000_000
  pub d_low : pos 1 ≤ℤ d
  pub d_high : d ≤ℤ pos 20_000_000
