-- A row less, and a pivot undone.
--
--   last_of standing             the greatest number of a variable
--   last_slack t                 the number of the last row's slack
--   taken_away basic z           the basic variables without z, in whose place the last one comes
--   LosesLast old new            whatever rows the old table is of, the new one is of these without the last one
--   IsOfSome t                   it is of some rows
--   Fits t                       all of its numbers are small
--   CameFrom rows before now out into    of the same rows, and `into` stands in the basis in place of `out`
--   CameBy now out into          it came so from some table
--   GoesBack now new out into    and whatever it came from, the new table is that
use Rattle.std.specs.List.{swap_remove}
use Rattle.std.specs.Prelude.{◌≡◌, ℕ, ◌+◌, ◌-◌, ◌++◌, ◌∷◌, List, [], length, Contains}
use Rattle.row_dictionary.specs.Pushing.{next_slack}
use Rattle.row_dictionary.specs.Seen.{Seen, Standing, IsOf, HasShape, swapped}
use Rattle.row_pivots.specs.Tables.{place_of}
use Rattle.seq_model.specs.declared.row.Row.{Row}

abbrev pub last_of : Standing → ℕ
last_of s = length s.basic + length s.free - 1

abbrev pub last_slack : Seen → ℕ
last_slack t = next_slack t - 1

abbrev pub taken_away : List ℕ → ℕ → List ℕ
taken_away basic z = swap_remove basic (place_of z basic) 0

abbrev pub LosesLast : Seen → Seen → Type 0
LosesLast old new = (rows : List Row) (row : Row) → IsOf (rows ++ row ∷ []) old → IsOf rows new

abbrev pub IsOfSome : Seen → Type 0
IsOfSome t = (rows : List Row) × IsOf rows t

abbrev pub Fits : Seen → Type 0
Fits t = HasShape t.d t.basic t.free t.lines

pub record CameFrom (rows : List Row) (before now : Seen) (out into : ℕ) : Type 0 where
  pub was : IsOf rows before
  pub fits : Fits before
  pub is : IsOf rows now
  pub out_of : Contains before.basic out
  pub into_of : Contains before.free into
  pub vars : now.vars ≡ before.vars
  pub basic : now.basic ≡ swapped before.basic out into
  pub free : now.free ≡ swapped before.free into out

abbrev pub CameBy : Seen → ℕ → ℕ → Type 0
CameBy now out into = (rows : List Row) × (before : Seen) × CameFrom rows before now out into

abbrev pub GoesBack : Seen → Seen → ℕ → ℕ → Type 0
GoesBack now new out into = (rows : List Row) (before : Seen) → CameFrom rows before now out into → new ≡ before
