-- Rows of a system by what isn't 0 in them.
--
--   full_row width line     the row, with as many coefficients as there are variables
--   IsSparse width line     its variables are there, and those of a push are of two objects; its numbers are small
--   constant_of line        its constant
--   room_rows width v cs    for each variable, from v on, the row of the room that is left for it
--   rows_of rooms sides     the rows of a system: the rooms of its variables, then the pushes
--   entry a v               number v of a list, or 0 past its end
--   AreAdded t base row sums   each sum is that of before and t times the row's
use Rattle.std.specs.Prelude.{◌≡◌, ◌≢◌, ℕ, ◌+◌, ◌*◌, ◌<◌, ◌≤◌, ◌^◌, ℤ, pos, neg_ℤ, ◌+ℤ◌, ◌*ℤ◌, List, [], ◌∷◌, ◌++◌, length, map, slice_index_or, slice_set, replicate, unsigned_abs}
use Rattle.seq_model.specs.declared.row.Row.{Row}
use Rattle.difference_polygon.specs.declared.rows.SideRow.{SideRow}
use Rattle.bound_sums.specs.declared.rows.Line.{Line}
use Rattle.bound_sums.specs.declared.rows.Line.TheVariants as Lines

abbrev pub IsAtMost : ℕ → ℤ → Type 0
IsAtMost b a = unsigned_abs a ≤ b

abbrev pub side_entries : ℕ → ℕ → ℕ → ℤ → ℤ → List ℤ
side_entries width i j x y =
    slice_set (slice_set (slice_set (slice_set (replicate width (pos 0)) (2 * i) (neg_ℤ x)) (2 * i + 1) (neg_ℤ y)) (2 * j) x) (2 * j + 1) y

abbrev pub full_row : ℕ → Line → Row
full_row width (Lines.Bound variable constant) = record { c = constant; a = slice_set (replicate width (pos 0)) variable (neg_ℤ (pos 1)) }
full_row width (Lines.Beyond side) = record { c = side.c; a = side_entries width side.i side.j side.x side.y }

pub record IsShortSide (width : ℕ) (side : SideRow) : Type 0 where
  pub i_in : 2 * side.i + 1 < width
  pub j_in : 2 * side.j + 1 < width
  pub apart : side.i ≢ side.j
  pub x_small : unsigned_abs side.x < 2 ^ 22
  pub y_small : unsigned_abs side.y < 2 ^ 22
  pub constant_small : unsigned_abs side.c < 2 ^ 47

abbrev pub IsShortRoom : ℤ → Type 0
IsShortRoom room = unsigned_abs room < 2 ^ 47

abbrev pub IsSparse : ℕ → Line → Type 0
IsSparse width (Lines.Bound variable constant) = (variable < width) × IsShortRoom constant
IsSparse width (Lines.Beyond side) = IsShortSide width side

abbrev pub constant_of : Line → ℤ
constant_of (Lines.Bound variable constant) = constant
constant_of (Lines.Beyond side) = side.c

abbrev pub room_rows : ℕ → ℕ → List ℤ → List Row
room_rows width variable [] = []
room_rows width variable (c ∷ rooms) = full_row width (Lines.Bound variable c) ∷ room_rows width (variable + 1) rooms

abbrev pub rows_of : List ℤ → List SideRow → List Row
rows_of rooms sides = room_rows (length rooms) 0 rooms ++ map (λ side. full_row (length rooms) (Lines.Beyond side)) sides

abbrev pub entry : List ℤ → ℕ → ℤ
entry a v = slice_index_or a v (pos 0)

abbrev pub AreAdded : ℤ → List ℤ → List ℤ → List ℤ → Type 0
AreAdded t base row sums = (v : ℕ) → entry sums v ≡ entry base v +ℤ t *ℤ entry row v
