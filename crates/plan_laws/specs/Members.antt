-- A path's choices, whatever their order.
--
--   IsPart part path         each choice of the one path stands on the other
--   MeetsSides job e path at the point meets the row of each side on the path
--   side_count path          how many sides stand on it
use Rattle.std.specs.Prelude.{ℕ, suc, List, [], ◌∷◌, Contains, pos, ◌≤ℤ◌}
use Rattle.seq_model.specs.Splits.{Values}
use Rattle.seq_model.specs.Systems.{side_row, row_value}
use Rattle.seq_model.specs.declared.job.Job.{Job}
use Rattle.seq_model.specs.declared.tree.Choice.{Choice}
use Rattle.seq_model.specs.declared.tree.Choice.TheVariants as Choices
use Rattle.seq_model.specs.declared.tree.Contact.{Contact}
use Rattle.seq_model.specs.declared.tree.Dir.{Dir}

abbrev pub IsPart : List Choice → List Choice → Type 0
IsPart part path = (choice : Choice) → Contains part choice → Contains path choice

abbrev pub MeetsSides : Job → ℕ → List Choice → Values → Type 0
MeetsSides job e path at =
    (contact : Contact) (dir : Dir) → Contains path (Choices.Side contact dir) → pos 0 ≤ℤ row_value at.d at.u (side_row job e contact dir)

abbrev pub side_count : List Choice → ℕ
side_count [] = 0
side_count (Choices.Before i j ∷ path) = side_count path
side_count (Choices.Side contact dir ∷ path) = suc (side_count path)
