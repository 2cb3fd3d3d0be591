-- The trees of a search.
--
--   IsEarnedTree job e tree   its nodes are sound, closed leaves too, and its splits are earned: pending leaves or none
use Rattle.std.specs.Prelude.{ℕ, []}
use Rattle.seq_model.specs.Splits.{Earned}
use Rattle.seq_model.specs.Trees.{IsSoundNode, IsTree}
use Rattle.seq_model.specs.declared.job.Job.{Job}
use Rattle.seq_model.specs.declared.tree.Tree.{Tree}

abbrev pub IsEarnedTree : Job → ℕ → Tree → Type 0
IsEarnedTree job e tree = IsTree job (λ path node. IsSoundNode job e path node × Earned job e path node) [] tree.nodes
