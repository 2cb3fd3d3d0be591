-- What is kept for a whole tree, by the numbers of its nodes.
--
--   range_of choices from to      the choices from one place on, up to another
--   AreChoices job node choices   the choices by which the node's children go on, in their order
--   HasRange job choices node range   its two places are there, in this order, and between them the choices of the node's children
--   IsStuck job node              the node is a side split with other children than its contact has sides, if the contact exists
--   HasSidesAt job choices contact range   the range has the sides of the contact
--   AreMet job choices met        so it is for each contact that was met
--   Extends old new               the choices went on
--   AreRanges job choices nodes ranges   the ranges are those of the first nodes: of all, or of all before one that is stuck
--   HasRowsBeside job choices rows   beside each side of the choices stands its row
--   IsTable job table             its choices have their rows
--   Grows old new                 a table's choices went on
--   AreRoomsOf job kept           the rooms are those that its extent leaves
--   IsKept job nodes kept         they are, the choices have their rows, and the ranges are those of the nodes
use Rattle.std.specs.Prelude.{◌≡◌, ℕ, ◌-◌, ◌<◌, ◌≤◌, List, [], ◌∷◌, ◌++◌, All, drop, length, map, take, slice_index_or}
use Rattle.std.specs.List.{AllZip}
use Rattle.seq_model.specs.Contacts.{IsContact, points_of}
use Rattle.seq_model.specs.Sides.{AreSides}
use Rattle.seq_model.specs.declared.job.Job.{Job}
use Rattle.seq_model.specs.declared.tree.Choice.{Choice}
use Rattle.seq_model.specs.declared.tree.Choice.TheVariants as Choices
use Rattle.seq_model.specs.declared.tree.Contact.{Contact}
use Rattle.seq_model.specs.declared.tree.Dir.{Dir}
use Rattle.seq_model.specs.declared.tree.Node.{Node}
use Rattle.seq_model.specs.declared.tree.Node.TheVariants as Nodes
use Rattle.bound_sums.specs.Sparse.{IsShortRoom}
use Rattle.difference_polygon.specs.declared.rows.SideRow.{SideRow}
use Rattle.cert_checker.specs.Rooms.{rooms_of}
use Rattle.cert_checker.specs.Rules.{HasAsManySides}
use Rattle.cert_checker.specs.Trails.{IsRowFor}
use Rattle.cert_checker.specs.declared.kept.Kept.{Kept}
use Rattle.cert_checker.specs.declared.kept.Met.{Met}
use Rattle.cert_checker.specs.declared.kept.Range.{Range}
use Rattle.cert_checker.specs.declared.kept.Table.{Table}

abbrev pub node_at : List Node → ℕ → Node
node_at nodes k = slice_index_or nodes k Nodes.Pending

abbrev pub no_range : Range
no_range = record { from = 0; to = 0 }

abbrev pub range_of : List Choice → ℕ → ℕ → List Choice
range_of choices from to = take (to - from) (drop from choices)

abbrev pub AreChoices : Job → Node → List Choice → Type 0
AreChoices job (Nodes.Order i j) choices = choices ≡ Choices.Before i j ∷ Choices.Before j i ∷ []
AreChoices job (Nodes.Side contact children) choices =
    (dirs : List Dir) × AreSides (points_of job contact) dirs × (children ≡ length dirs) × (choices ≡ map (Choices.Side contact) dirs)
AreChoices job (Nodes.Bound mults) choices = choices ≡ []
AreChoices job (Nodes.Cycle objects) choices = choices ≡ []
AreChoices job Nodes.Pending choices = choices ≡ []

pub record HasRange (job : Job) (choices : List Choice) (node : Node) (range : Range) : Type 0 where
  pub rising : range.from ≤ range.to
  pub within : range.to ≤ length choices
  pub choices_are : AreChoices job node (range_of choices range.from range.to)

abbrev pub IsStuck : Job → Node → Type 0
IsStuck job (Nodes.Order i j) = ⊥
IsStuck job (Nodes.Side contact children) = IsContact job contact → HasAsManySides job contact children → ⊥
IsStuck job (Nodes.Bound mults) = ⊥
IsStuck job (Nodes.Cycle objects) = ⊥
IsStuck job Nodes.Pending = ⊥

abbrev pub HasSidesAt : Job → List Choice → Contact → Range → Type 0
HasSidesAt job choices contact range = HasRange job choices (Nodes.Side contact (range.to - range.from)) range

abbrev pub AreMet : Job → List Choice → List Met → Type 0
AreMet job choices met = All (λ (m : Met). HasSidesAt job choices m.contact m.range) met

abbrev pub Extends : List Choice → List Choice → Type 0
Extends old new = (more : List Choice) × (new ≡ old ++ more)

pub record AreRanges (job : Job) (choices : List Choice) (nodes : List Node) (ranges : List Range) : Type 0 where
  pub few : length ranges ≤ length nodes
  pub each : (k : ℕ) → k < length ranges → HasRange job choices (node_at nodes k) (slice_index_or ranges k no_range)
  pub rest : length ranges < length nodes → IsStuck job (node_at nodes (length ranges))

abbrev pub HasRowsBeside : Job → List Choice → List SideRow → Type 0
HasRowsBeside job choices rows = AllZip (IsRowFor job) choices rows

abbrev pub IsTable : Job → Table → Type 0
IsTable job table = HasRowsBeside job table.choices.items table.rows.items

abbrev pub Grows : Table → Table → Type 0
Grows old new = Extends old.choices.items new.choices.items

pub record AreRoomsOf (job : Job) (kept : Kept) : Type 0 where
  pub are : kept.rooms.items ≡ rooms_of job kept.extent job.objects
  pub short : All IsShortRoom kept.rooms.items

pub record IsKept (job : Job) (nodes : List Node) (kept : Kept) : Type 0 where
  pub rooms : AreRoomsOf job kept
  pub rows : IsTable job kept.table
  pub ranges : AreRanges job kept.table.choices.items nodes kept.ranges.items
