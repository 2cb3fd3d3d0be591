-- What a Warm value is seen as, and what its calls do.
--
--   Warmth                    the number of variables, the steps, and the table that they give
--   row_of step, rows_of steps     the row of a step, none of a pivot; the rows of the steps, in their order
--   after_step vars s step, after_steps     where the variables stand afterwards: the slack of a row behind the basic ones; at a pivot two
--                             have changed places
--   standing vars steps       where they stand after steps from a system without rows
--   Gives vars steps table    what the steps give from a system without rows: the table with the variables there, of their rows
--   no_steps vars             without a step: the table of no rows
--   with_step w step table    one step more, with the table afterwards
--   AddsRow old new row added   what has become of the row
--   IsRowStep step, IsPivot step, ArePivots steps     it is a row; it is a pivot; each of them is one
--   AddsPivots old new        some pivots more, and nothing else
--   SomeEndsWide vars rows start, WalksWide w     the walk from a start, from the basis of the table, ends before a wide basis
--   Repairs old new warmed    the walk from the old basis, and what its end shows of the rows
--   IsZeroPoint vars warmed   it is the point of which all coordinates are 0, over 1
use Rattle.std.specs.Prelude.{◌≡◌, ℕ, suc, ◌+◌, ◌<◌, ◌≤◌, ◌^◌, List, [], ◌∷◌, ◌++◌, pos, ◌≤ℤ◌, ◌<ℤ◌, All, length, map}
use Rattle.std.specs.List.{range_with_len}
use Rattle.integer_laws.specs.Vectors.{zeros}
use Rattle.feasible_point.specs.Shortening.{AreShortest}
use Rattle.feasible_point.specs.Walked.{WalksFrom}
use Rattle.row_dictionary.specs.Pushing.{line_of, with_row}
use Rattle.row_dictionary.specs.Scans.{start}
use Rattle.row_dictionary.specs.Seen.{Seen, Standing, IsOf, basis_of, swapped}
use Rattle.row_pivots.specs.Ends.{Small}
use Rattle.seq_model.specs.Dictionaries.{Rises}
use Rattle.seq_model.specs.Systems.{MeetsRows, Contradiction}
use Rattle.seq_model.specs.Walks.{EndsWide}
use Rattle.seq_model.specs.declared.row.Row.{Row}
use Rattle.seq_model.specs.declared.tree.Mult.{Mult}
use Rattle.warm_rows.specs.declared.step.Added.{Added}
use Rattle.warm_rows.specs.declared.step.Added.TheVariants as Addeds
use Rattle.warm_rows.specs.declared.step.Step.{Step}
use Rattle.warm_rows.specs.declared.step.Step.TheVariants as Steps
use Rattle.warm_rows.specs.declared.step.Warmed.{Warmed}
use Rattle.warm_rows.specs.declared.step.Warmed.TheVariants as Warmeds

pub record Warmth : Type 0 where
  pub vars : ℕ
  pub steps : List Step
  pub table : Seen

abbrev pub row_of : Step → List Row
row_of (Steps.Row row) = row ∷ []
row_of (Steps.Pivot leaving entering) = []

abbrev pub rows_of : List Step → List Row
rows_of [] = []
rows_of (step ∷ steps) = row_of step ++ rows_of steps

abbrev pub after_step : ℕ → Standing → Step → Standing
after_step vars s (Steps.Row row) = record { basic = s.basic ++ (vars + length s.basic) ∷ []; free = s.free }
after_step vars s (Steps.Pivot leaving entering) = record { basic = swapped s.basic leaving entering; free = swapped s.free entering leaving }

abbrev pub after_steps : ℕ → Standing → List Step → Standing
after_steps vars s [] = s
after_steps vars s (step ∷ steps) = after_steps vars (after_step vars s step) steps

abbrev pub standing : ℕ → List Step → Standing
standing vars steps = after_steps vars (record { basic = []; free = range_with_len 0 vars }) steps

pub record Gives (vars : ℕ) (steps : List Step) (table : Seen) : Type 0 where
  pub vars_are : table.vars ≡ vars
  pub basic : table.basic ≡ (standing vars steps).basic
  pub free : table.free ≡ (standing vars steps).free
  pub is_of : IsOf (rows_of steps) table

abbrev pub no_steps : ℕ → Warmth
no_steps vars = record { vars = vars; steps = []; table = start vars [] }

abbrev pub with_step : Warmth → Step → Seen → Warmth
with_step w step table = record { vars = w.vars; steps = w.steps ++ step ∷ []; table = table }

abbrev pub AddsRow : Warmth → Warmth → Row → Added → Type 0
AddsRow old new row Addeds.Held =
    All Small (line_of old.table row) × (new ≡ with_step old (Steps.Row row) (with_row old.table row))
AddsRow old new row Addeds.Cold = (All Small (line_of old.table row) → ⊥) × (new ≡ old)

abbrev pub IsPivot : Step → Type 0
IsPivot (Steps.Row row) = ⊥
IsPivot (Steps.Pivot leaving entering) = Unit {0}

abbrev pub ArePivots : List Step → Type 0
ArePivots steps = All IsPivot steps

pub record AddsPivots (old new : Warmth) : Type 0 where
  pub vars : new.vars ≡ old.vars
  pub pivots : List Step
  pub are : ArePivots pivots
  pub steps : new.steps ≡ old.steps ++ pivots

abbrev pub SomeEndsWide : ℕ → List Row → List ℕ → Type 0
SomeEndsWide vars rows start = (basis : List ℕ) × (row : ℕ) × EndsWide vars rows start basis row

abbrev pub WalksWide : Warmth → Type 0
WalksWide w = SomeEndsWide w.vars (rows_of w.steps) (basis_of (rows_of w.steps) w.table)

abbrev pub Repairs : Warmth → Warmth → Warmed → Type 0
Repairs old new (Warmeds.Point den list) =
    MeetsRows (rows_of old.steps) den list.items × (length list.items ≡ old.vars)
    × (pos 1 ≤ℤ den) × (den <ℤ pos (2 ^ 62))
    × WalksFrom (rows_of old.steps) old.table new.table × (WalksWide old → ⊥)
Repairs old new (Warmeds.Contradiction list) =
    Contradiction (rows_of old.steps) list.items
    × Rises (length (rows_of old.steps)) (map (λ (m : Mult). m.row) list.items)
    × All (λ (m : Mult). pos 1 ≤ℤ m.times) list.items × AreShortest list.items
    × (0 < length list.items) × (length list.items ≤ suc old.vars)
    × WalksFrom (rows_of old.steps) old.table new.table × (WalksWide old → ⊥)
Repairs old new Warmeds.Cold = WalksFrom (rows_of old.steps) old.table new.table × WalksWide old

abbrev pub IsZeroPoint : ℕ → Warmed → Type 0
IsZeroPoint vars (Warmeds.Point den list) = (den ≡ pos 1) × (list.items ≡ zeros vars)
IsZeroPoint vars (Warmeds.Contradiction list) = ⊥
IsZeroPoint vars Warmeds.Cold = ⊥

abbrev pub IsRowStep : Step → Type 0
IsRowStep (Steps.Row row) = Unit {0}
IsRowStep (Steps.Pivot leaving entering) = ⊥
