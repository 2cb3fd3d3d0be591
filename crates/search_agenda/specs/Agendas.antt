-- What a search has still to do.
--
--   OpenNode                       an open node: its number, and its path
--   ToDo                           the path that the search stands at, and the open nodes, the next one first
--   choice_at choices k            choice k of a list that has it
--   child_of first path choices k  child k of a split at the path: node `first + k`, at the path with choice k more
use Rattle.std.specs.Prelude.{ℕ, ◌+◌, List, slice_index_or}
use Rattle.seq_model.specs.Trees.{also}
use Rattle.seq_model.specs.declared.tree.Choice.{Choice}
use Rattle.seq_model.specs.declared.tree.Choice.TheVariants as Choices

pub record OpenNode : Type 0 where
  pub number : ℕ
  pub path : List Choice

pub record ToDo : Type 0 where
  pub path : List Choice
  pub open_nodes : List OpenNode

abbrev pub choice_at : List Choice → ℕ → Choice
choice_at choices k = slice_index_or choices k (Choices.Before 0 0)

abbrev pub child_of : ℕ → List Choice → List Choice → ℕ → OpenNode
child_of first path choices k = record { number = first + k; path = also path (choice_at choices k) }
