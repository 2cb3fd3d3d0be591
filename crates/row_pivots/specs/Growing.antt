-- A table with one row more, and with one row less.
--
--   line_over d basic free lines z      the line of a variable over the free ones: that of a basic one, itself for a free one
--   row_lines vars d basic free lines   the line of the constant 1, and that of each variable
--   row_line vars d basic free lines row    the row over the free variables, times the denominator
use Rattle.std.proofs.Common.{ℕ, suc, List, ◌∷◌, length, map, ℤ}
use Rattle.std.specs.List.{range_with_len}
use Rattle.std.specs.Prelude.{if◌then◌else◌}
use Rattle.row_pivots.specs.Tables.{line_or, place_of}
use Rattle.row_pivots.specs.Turns.{unit_line}
use Rattle.seq_model.specs.Dictionaries.{combination, is_in}
use Rattle.seq_model.specs.declared.row.Row.{Row}

abbrev pub line_over : ℤ → List ℕ → List ℕ → List (List ℤ) → ℕ → List ℤ
line_over d basic free lines z = if is_in basic z then line_or z basic lines else unit_line (suc (length free)) (suc (place_of z free)) d

abbrev pub row_lines : ℕ → ℤ → List ℕ → List ℕ → List (List ℤ) → List (List ℤ)
row_lines vars d basic free lines = unit_line (suc (length free)) 0 d ∷ map (line_over d basic free lines) (range_with_len 0 vars)

abbrev pub row_line : ℕ → ℤ → List ℕ → List ℕ → List (List ℤ) → Row → List ℤ
row_line vars d basic free lines row = combination (row.c ∷ row.a) (row_lines vars d basic free lines)
