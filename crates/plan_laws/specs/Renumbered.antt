-- Trees whose bounds name their rows by other numbers.
--
--   move f m                 the multiplier takes row f r in place of row r
--   IsRenumbered node other  the same node, but that a bound may take its rows by other numbers
use Rattle.std.specs.Prelude.{◌≡◌, ℕ, map}
use Rattle.seq_model.specs.declared.tree.Mult.{Mult}
use Rattle.seq_model.specs.declared.tree.Node.{Node}
use Rattle.seq_model.specs.declared.tree.Node.TheVariants as Nodes

abbrev pub move : (ℕ → ℕ) → Mult → Mult
move f m = record m { row = f m.row }

abbrev pub IsRenumbered : Node → Node → Type 0
IsRenumbered (Nodes.Bound mults) other = (f : ℕ → ℕ) × (other ≡ Nodes.Bound (map (move f) mults))
IsRenumbered (Nodes.Cycle objects) other = other ≡ Nodes.Cycle objects
IsRenumbered (Nodes.Side contact children) other = other ≡ Nodes.Side contact children
IsRenumbered (Nodes.Order i j) other = other ≡ Nodes.Order i j
IsRenumbered Nodes.Pending other = other ≡ Nodes.Pending
