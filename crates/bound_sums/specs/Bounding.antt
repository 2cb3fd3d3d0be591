-- What a bound says: that its rows contradict each other, or the first rule that it breaks.
--
--   IsLine rows width r line    the line is row number r of the rows
--   IsLineOf rows width r o     o is row number r, and None where there is none
--   IsCounted m                 how often a row is taken is at least 0, and below 2^62
--   IsFirstBreach rows mults o  None where the rows contradict each other, each taken so often; else the first of the rules that is broken
use Rattle.std.specs.Prelude.{◌≡◌, ℕ, ◌≤◌, ◌<◌, ◌^◌, pos, ◌≤ℤ◌, ◌<ℤ◌, List, length, All, Option, Some, None, unsigned_abs}
use Rattle.seq_model.specs.Systems.{row_at, IsTaken, sum_constant, sum_coefficients, Contradiction}
use Rattle.seq_model.specs.declared.row.Row.{Row}
use Rattle.seq_model.specs.declared.tree.Mult.{Mult}
use Rattle.bound_sums.specs.Sparse.{full_row, IsSparse}
use Rattle.bound_sums.specs.declared.breaches.Breach.{Breach}
use Rattle.bound_sums.specs.declared.breaches.Breach.TheVariants as breaches
use Rattle.bound_sums.specs.declared.rows.Line.{Line}

pub record IsLine (rows : List Row) (width r : ℕ) (line : Line) : Type 0 where
  pub there : r < length rows
  pub sparse : IsSparse width line
  pub is : full_row width line ≡ row_at rows r

abbrev pub IsLineOf : List Row → ℕ → ℕ → Option Line → Type 0
IsLineOf rows width r None = length rows ≤ r
IsLineOf rows width r (Some line) = IsLine rows width r line

pub record IsCounted (m : Mult) : Type 0 where
  pub low : pos 0 ≤ℤ m.times
  pub high : unsigned_abs m.times < 2 ^ 62

abbrev pub AreTaken : List Row → List Mult → Type 0
AreTaken rows mults = All (IsTaken rows) mults

abbrev pub AreLow : List Row → List Mult → Type 0
AreLow rows mults = All (λ a. a ≤ℤ pos 0) (sum_coefficients rows mults)

abbrev pub IsFirstBreach : List Row → List Mult → Option Breach → Type 0
IsFirstBreach rows mults None = Contradiction rows mults
IsFirstBreach rows mults (Some breaches.Row) = AreTaken rows mults → ⊥
IsFirstBreach rows mults (Some breaches.Sum) = AreTaken rows mults × (AreLow rows mults → ⊥)
IsFirstBreach rows mults (Some breaches.Constant) = AreTaken rows mults × AreLow rows mults × (sum_constant rows mults <ℤ pos 0 → ⊥)
