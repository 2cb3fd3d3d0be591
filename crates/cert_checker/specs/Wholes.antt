-- Nodes that are one whole tree by their numbers of children.
use Rattle.std.specs.Prelude.{ℕ, List, [], ◌∷◌}
use Rattle.seq_model.specs.Trees.{Fills}
use Rattle.seq_model.specs.declared.tree.Node.{Node}

abbrev pub AreWhole : List Node → Type 0
AreWhole nodes = (most : ℕ) × Fills most (0 ∷ []) nodes []
