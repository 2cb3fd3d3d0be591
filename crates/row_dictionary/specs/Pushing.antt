-- A row more.
--
--   variable_line d standing lines z      the line of a variable of either kind: of a free one the denominator alone, at its place
--   pushed_line d standing lines row      the line of a row that is pushed
--   line_of t row           the row over the free variables, times the denominator: its constant, and an entry for each free one
--   next_slack t            the number of the next row's slack
--   with_row t row          the table with one row more, whose slack is basic
--   Pushes old new row pushed     what has become of the row
use Rattle.std.specs.Prelude.{◌≡◌, ℕ, ◌+◌, ◌++◌, ◌∷◌, [], List, ℤ, All, length}
use Rattle.row_pivots.specs.Ends.{Small}
use Rattle.row_pivots.specs.Growing.{line_over, row_line}
use Rattle.row_dictionary.specs.Seen.{Seen, Standing}
use Rattle.row_dictionary.specs.declared.pushed.Pushed.{Pushed}
use Rattle.row_dictionary.specs.declared.pushed.Pushed.TheVariants as Pusheds
use Rattle.seq_model.specs.declared.row.Row.{Row}

abbrev pub variable_line : ℤ → Standing → List (List ℤ) → ℕ → List ℤ
variable_line d standing lines z = line_over d standing.basic standing.free lines z

abbrev pub pushed_line : ℤ → Standing → List (List ℤ) → Row → List ℤ
pushed_line d standing lines row = row_line (length row.a) d standing.basic standing.free lines row

abbrev pub line_of : Seen → Row → List ℤ
line_of t row = row_line t.vars t.d t.basic t.free t.lines row

abbrev pub next_slack : Seen → ℕ
next_slack t = t.vars + length t.basic

abbrev pub with_row : Seen → Row → Seen
with_row t row = record { vars = t.vars; d = t.d; basic = t.basic ++ next_slack t ∷ []; free = t.free; lines = t.lines ++ line_of t row ∷ [] }

abbrev pub Pushes : Seen → Seen → Row → Pushed → Type 0
Pushes old new row Pusheds.Held = All Small (line_of old row) × (new ≡ with_row old row)
Pushes old new row Pusheds.TooWide = (All Small (line_of old row) → ⊥) × (new ≡ old)
