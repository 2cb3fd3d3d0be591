-- Rows that are solved by walks of bases.
--
--   FormIs vars rows basis d lines   the form of the basis has this denominator and these lines
--   row_of c a                       the row c + a u >= 0 alone; edge is 2^62, and below_edge 2^62 - 1
--   one_row                          -1 + 2 u >= 0
--   big, wide_rows                   2^61, and the rows -1 + 2^61 u >= 0 and -2 + u + 3 v >= 0
--   two_wide_rows                    -1 + 2^62 u >= 0 and 1 >= 0
use Rattle.std.specs.Prelude.{◌≡◌, ℕ, ◌^◌, ◌-◌, List, [], ◌∷◌, ℤ, pos, negsuc}
use Rattle.examples_model.specs.Rows.{row}
use Rattle.seq_model.specs.Dictionaries.{Form}
use Rattle.seq_model.specs.declared.row.Row.{Row}

pub record FormIs (vars : ℕ) (rows : List Row) (basis : List ℕ) (d : ℤ) (lines : List (List ℤ)) : Type 0 where
  pub form : Form vars rows basis
  pub d_is : form.d ≡ d
  pub lines_are : form.lines ≡ lines

abbrev pub row_of : ℤ → ℤ → List Row
row_of c a = row c (a ∷ []) ∷ []

abbrev pub edge : ℤ
edge = pos (2 ^ 62)

abbrev pub below_edge : ℤ
below_edge = pos (2 ^ 62 - 1)

abbrev pub one_row : List Row
one_row = row (negsuc 0) (pos 2 ∷ []) ∷ []

abbrev pub big : ℤ
big = pos (2 ^ 61)

abbrev pub wide_rows : List Row
wide_rows = row (negsuc 0) (big ∷ pos 0 ∷ []) ∷ row (negsuc 1) (pos 1 ∷ pos 3 ∷ []) ∷ []

abbrev pub two_wide_rows : List Row
two_wide_rows = row (negsuc 0) (edge ∷ []) ∷ row (pos 1) (pos 0 ∷ []) ∷ []
