-- The rows of a system by their numbers.
use Rattle.std.proofs.Common.{◌≡◌, ℕ, zero, suc, ◌+◌, ◌<◌, ◌≤◌, ℤ, List, [], ◌∷◌, length, map, get_or, All, refl, sym, ap, subst, ◌∙◌, arith, length-append}
use Rattle.std.proofs.lemmas.List.{get_or_append_left, get_or-append-add, length-map}
use Rattle.seq_model.specs.Systems.{no_row, row_at}
use Rattle.bound_sums.specs.Bounding.{IsLine}
use Rattle.bound_sums.specs.Sparse.{IsShortRoom, IsShortSide, full_row, room_rows, rows_of}
use Rattle.bound_sums.specs.declared.rows.Line.{Line}
use Rattle.bound_sums.specs.declared.rows.Line.TheVariants as Lines
use Rattle.difference_polygon.specs.declared.rows.SideRow.{SideRow}

length-room_rows : (width v : ℕ) (rooms : List ℤ) → length (room_rows width v rooms) ≡ length rooms
length-room_rows width v [] = refl
length-room_rows width v (c ∷ rooms) = ap suc (length-room_rows width (v + 1) rooms)

room_at : (width v : ℕ) (rooms : List ℤ) (k : ℕ) (d : ℤ) → k < length rooms → row_at (room_rows width v rooms) k ≡ full_row width (Lines.Bound (v + k) (get_or rooms k d))
room_at width v [] k d h = absurd (omega arith)
room_at width v (c ∷ rooms) zero d h = ap (λ w. full_row width (Lines.Bound w c)) (omega arith)
room_at width v (c ∷ rooms) (suc k) d h = room_at width (v + 1) rooms k d (omega arith) ∙ ap (λ w. full_row width (Lines.Bound w (get_or rooms k d))) (omega arith)

side_at : (width : ℕ) (sides : List SideRow) (k : ℕ) (d : SideRow) → k < length sides → row_at (map (λ side. full_row width (Lines.Beyond side)) sides) k ≡ full_row width (Lines.Beyond (get_or sides k d))
side_at width [] k d h = absurd (omega arith)
side_at width (s ∷ sides) zero d h = refl
side_at width (s ∷ sides) (suc k) d h = side_at width sides k d (omega arith)

many : (rooms : List ℤ) (sides : List SideRow) → length (rows_of rooms sides) ≡ length rooms + length sides
many rooms sides =
    let w = length rooms in
    let f = λ (side : SideRow). full_row w (Lines.Beyond side) in
    length-append (room_rows w 0 rooms) (map f sides) ∙ (ap (λ n. n + length (map f sides)) (length-room_rows w 0 rooms) ∙ ap (λ n. w + n) (length-map sides f))

pub room_line : (rooms : List ℤ) (sides : List SideRow) (k : ℕ) (d : ℤ) → All IsShortRoom rooms → k < length rooms → IsLine (rows_of rooms sides) (length rooms) k (Lines.Bound k (get_or rooms k d))
room_line rooms sides k d short h =
    let w = length rooms in
    let n = many rooms sides in
    let inside : k < length (room_rows w 0 rooms) = omega (arith, h, length-room_rows w 0 rooms) in
    record {
      there = omega (arith, h, n);
      sparse = (h, short k d h);
      is = sym (get_or_append_left (room_rows w 0 rooms) _ no_row k inside ∙ (room_at w 0 rooms k d h ∙ ap (λ v. full_row w (Lines.Bound v (get_or rooms k d))) (let z : 0 + k ≡ k = omega arith in z)));
    }

pub side_line : (rooms : List ℤ) (sides : List SideRow) (row k : ℕ) (side d : SideRow) → All (IsShortSide (length rooms)) sides → row ≡ length rooms + k → k < length sides → side ≡ get_or sides k d
    → IsLine (rows_of rooms sides) (length rooms) row (Lines.Beyond side)
side_line rooms sides row k side d short e h is =
    let w = length rooms in
    let n = many rooms sides in
    let f = λ (side : SideRow). full_row w (Lines.Beyond side) in
    let len = length-room_rows w 0 rooms in
    record {
      there = omega (arith, h, n, e);
      sparse = subst (IsShortSide w) (sym is) (short k d h);
      is = ap f is ∙ sym (ap (row_at (rows_of rooms sides)) (e ∙ ap (λ m. m + k) (sym len)) ∙ (get_or-append-add (room_rows w 0 rooms) (map f sides) k no_row ∙ side_at w sides k d h));
    }

pub no_line : (rooms : List ℤ) (sides : List SideRow) (row k : ℕ) → row ≡ length rooms + k → length sides ≤ k → length (rows_of rooms sides) ≤ row
no_line rooms sides row k e h = omega (arith, many rooms sides, e, h)
