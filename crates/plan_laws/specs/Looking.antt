-- What a look at a point of a path finds: the orders that hold there.
--
--   OnPath path a b              a before b is on the path
--   is_before path a b           the test whether it is
--   IsLooked job e path at a b   it is on the path, or it is forced at the point and the pair is unordered on the path
--   AreLooked job e path at orders   each of these orders is
--   pair_node a b                the node that splits by the order of a and b, the lesser number first
--   EarnsPair job e path a b     this node is sound, and earned
--   IsOnOrEarned job e path a b  a before b is on the path, or the split of the pair is earned
--   EarnsAPair job e path        some pair of the job's objects is one whose split is earned
--   AreForced job e path at forced   nothing collides in an order of the path, and each pair that is unordered on it and collides is
--                                among these orders, the other way
--   Causes n orders Clash        of two different objects below n that clash, the later one stands before the earlier in the orders
use Rattle.std.specs.Prelude.{◌≢◌, ℕ, ◌<◌, eqb, min, max, Bool, false, ◌&&◌, ◌||◌, List, [], ◌∷◌, length, Contains, ◌⊎◌}
use Rattle.seq_model.specs.Splits.{Values, CollidesAt, IsForced, IsUnordered, Earned}
use Rattle.seq_model.specs.Trees.{IsSoundNode}
use Rattle.seq_model.specs.declared.job.Job.{Job}
use Rattle.seq_model.specs.declared.tree.Choice.{Choice}
use Rattle.seq_model.specs.declared.tree.Choice.TheVariants as Choices
use Rattle.seq_model.specs.declared.tree.Node.{Node}
use Rattle.seq_model.specs.declared.tree.Node.TheVariants as Nodes

abbrev pub OnPath : List Choice → ℕ → ℕ → Type 0
OnPath path a b = Contains path (Choices.Before a b)

abbrev pub is_before : List Choice → ℕ → ℕ → Bool
is_before [] i j = false
is_before (Choices.Before a b ∷ path) i j = (eqb a i && eqb b j) || is_before path i j
is_before (Choices.Side d dir ∷ path) i j = is_before path i j

abbrev pub IsLooked : Job → ℕ → List Choice → Values → ℕ → ℕ → Type 0
IsLooked job e path at a b = OnPath path a b ⊎ (IsForced job e at a b × IsUnordered path a b)

abbrev pub AreLooked : Job → ℕ → List Choice → Values → List (ℕ × ℕ) → Type 0
AreLooked job e path at orders = (a b : ℕ) → Contains orders (a, b) → IsLooked job e path at a b

abbrev pub pair_node : ℕ → ℕ → Node
pair_node a b = Nodes.Order (min a b) (max a b)

abbrev pub EarnsPair : Job → ℕ → List Choice → ℕ → ℕ → Type 0
EarnsPair job e path a b = IsSoundNode job e path (pair_node a b) × Earned job e path (pair_node a b)

abbrev pub IsOnOrEarned : Job → ℕ → List Choice → ℕ → ℕ → Type 0
IsOnOrEarned job e path a b = OnPath path a b ⊎ EarnsPair job e path a b

abbrev pub EarnsAPair : Job → ℕ → List Choice → Type 0
EarnsAPair job e path = (a b : ℕ) × EarnsPair job e path a b

pub record AreForced (job : Job) (e : ℕ) (path : List Choice) (at : Values) (forced : List (ℕ × ℕ)) : Type 0 where
  pub on_path : (i j : ℕ) → i ≢ j → OnPath path i j → CollidesAt job e at i j → ⊥
  pub unordered : (i j : ℕ) → i < length job.objects → j < length job.objects → i ≢ j → IsUnordered path i j → CollidesAt job e at i j
      → Contains forced (j, i)

pub record Causes (n : ℕ) (orders : List (ℕ × ℕ)) (Clash : ℕ → ℕ → Type 0) : Type 0 where
  pub turned : (i j : ℕ) → i < n → j < n → i ≢ j → Clash i j → Contains orders (j, i)
