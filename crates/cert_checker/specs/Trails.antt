-- A path with what finds things on it at once.
--
--   side_count path        how many of its choices are sides
--   IsRowOf job c dir row  the row is that of the contact's side, whatever the extent is, and its numbers are small
--   IsRowFor job choice row   it is, where the choice is a side
--   AreRowsOf job path rows   one such row for each side of the path, in its order
--   stamp_at stamps i j    the place that is noted for the order of i before j
--   IsStamped path stamps  where the order of i before j stands on the path, it stands at the place that is noted for it, and no earlier;
--                          so for objects below 16
--   AreMarked path marks   for each choice of the path, how many sides stand before it
--   IsFit trail            its stamps and its marks are those of its path, and it has a row for each side
--   HasRows job trail      its rows are those of the sides of its path
--   HasRoom trail n        the path has room for n choices
use Rattle.std.specs.Prelude.{◌≡◌, ℕ, suc, ◌+◌, ◌*◌, ◌<◌, ◌≤◌, List, [], ◌∷◌, length, slice_index_or, take}
use Rattle.std.specs.Vec.{vec_capacity}
use Rattle.bound_sums.specs.Sparse.{IsShortSide, full_row}
use Rattle.bound_sums.specs.declared.rows.Line.TheVariants as Lines
use Rattle.difference_polygon.specs.declared.rows.SideRow.{SideRow}
use Rattle.seq_model.specs.Systems.{side_row}
use Rattle.seq_model.specs.declared.job.Job.{Job}
use Rattle.seq_model.specs.declared.tree.Choice.{Choice}
use Rattle.seq_model.specs.declared.tree.Choice.TheVariants as Choices
use Rattle.seq_model.specs.declared.tree.Contact.{Contact}
use Rattle.seq_model.specs.declared.tree.Dir.{Dir}
use Rattle.cert_checker.specs.declared.trail.Trail.{Trail}

abbrev pub side_count : List Choice → ℕ
side_count [] = 0
side_count (Choices.Before i j ∷ path) = side_count path
side_count (Choices.Side contact dir ∷ path) = suc (side_count path)

pub record IsRowOf (job : Job) (contact : Contact) (dir : Dir) (row : SideRow) : Type 0 where
  pub is : (e : ℕ) → full_row (2 * length job.objects) (Lines.Beyond row) ≡ side_row job e contact dir
  pub short : IsShortSide (2 * length job.objects) row

abbrev pub IsRowFor : Job → Choice → SideRow → Type 0
IsRowFor job (Choices.Before i j) row = Unit {0}
IsRowFor job (Choices.Side contact dir) row = IsRowOf job contact dir row

abbrev pub AreRowsOf : Job → List Choice → List SideRow → Type 0
AreRowsOf job [] [] = Unit {0}
AreRowsOf job [] (row ∷ rows) = ⊥
AreRowsOf job (Choices.Before i j ∷ path) rows = AreRowsOf job path rows
AreRowsOf job (Choices.Side contact dir ∷ path) [] = ⊥
AreRowsOf job (Choices.Side contact dir ∷ path) (row ∷ rows) = IsRowOf job contact dir row × AreRowsOf job path rows

abbrev pub stamp_at : List ℕ → ℕ → ℕ → ℕ
stamp_at stamps i j = slice_index_or stamps (16 * i + j) 0

abbrev pub IsStamped : List Choice → List ℕ → Type 0
IsStamped path stamps =
    (i j q : ℕ) (d : Choice) → i < 16 → j < 16 → q < length path → slice_index_or path q d ≡ Choices.Before i j
    → (stamp_at stamps i j ≤ q) × (slice_index_or path (stamp_at stamps i j) d ≡ Choices.Before i j)

abbrev pub AreMarked : List Choice → List ℕ → Type 0
AreMarked path marks = (length marks ≡ length path) × ((k : ℕ) → k < length path → slice_index_or marks k 0 ≡ side_count (take k path))

pub record IsFit (trail : Trail) : Type 0 where
  pub many_stamps : length trail.stamps.items ≡ 256
  pub stamped : IsStamped trail.path.items trail.stamps.items
  pub marked : AreMarked trail.path.items trail.marks.items
  pub many_rows : length trail.rows.items ≡ side_count trail.path.items

abbrev pub HasRows : Job → Trail → Type 0
HasRows job trail = AreRowsOf job trail.path.items trail.rows.items

pub record HasRoom (trail : Trail) (n : ℕ) : Type 0 where
  pub path : n ≤ vec_capacity trail.path
  pub marks : n ≤ vec_capacity trail.marks
  pub rows : n ≤ vec_capacity trail.rows
