-- Points of a system.
--
--   IsSmall n            below 2^37 in size
--   IsSolvedPoint at     a denominator of 1 to 2^62; where the point is narrow, one below 2^16, and small numbers
--   values_of at         the point, as the definitions of splits have it
use Rattle.std.specs.Prelude.{◌<◌, ◌^◌, ℤ, pos, ◌≤ℤ◌, unsigned_abs, All, IsTrue}
use Rattle.seq_model.specs.Splits.{Values}
use Rattle.pair_constraints.specs.declared.points.SolvedPoint.{SolvedPoint}

abbrev pub IsSmall : ℤ → Type 0
IsSmall n = unsigned_abs n < 2 ^ 37

pub record IsSolvedPoint (at : SolvedPoint) : Type 0 where
  pub one : pos 1 ≤ℤ at.den
  pub small : unsigned_abs at.den < 2 ^ 62
  pub narrow_den : IsTrue at.narrow → unsigned_abs at.den < 2 ^ 16
  pub narrow_nums : IsTrue at.narrow → All IsSmall at.nums.now

abbrev pub values_of : SolvedPoint → Values
values_of at = record { d = at.den; u = at.nums.now }
