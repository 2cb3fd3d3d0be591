-- A tree that doesn't use a choice of its path.
--
--   IsUnused x n mults       the multipliers don't take row n, if x is a side
--   IsFreeOf x n node        the node doesn't use the choice x, whose row is n if it is a side: told by the node alone
--   IsFreeTree job e front x back nodes   the tree refutes front ++ x ∷ back, and each of its nodes is free of x
--   lowered n r              r, one lower if it is above n
--   dropped_mults x n mults  the multipliers with the rows behind n one lower, if x is a side
--   dropped_node x n node    the node with its multipliers so
use Rattle.std.specs.Prelude.{◌≡◌, ℕ, ◌-◌, List, ◌∷◌, ◌++◌, All, length, map, take, drop, nat_lt, if◌then◌else◌}
use Rattle.std.specs.List.{AllZip}
use Rattle.plan_laws.specs.Renumbered.{move}
use Rattle.seq_model.specs.Systems.{system}
use Rattle.seq_model.specs.Trees.{IsSoundNode, IsClosed, IsTree}
use Rattle.seq_model.specs.declared.job.Job.{Job}
use Rattle.seq_model.specs.declared.tree.Choice.{Choice}
use Rattle.seq_model.specs.declared.tree.Choice.TheVariants as Choices
use Rattle.seq_model.specs.declared.tree.Mult.{Mult}
use Rattle.seq_model.specs.declared.tree.Node.{Node}
use Rattle.seq_model.specs.declared.tree.Node.TheVariants as Nodes

abbrev pub IsUnused : Choice → ℕ → List Mult → Type 0
IsUnused (Choices.Before i j) n mults = Unit {0}
IsUnused (Choices.Side contact dir) n mults = All (λ (m : Mult). m.row ≡ n → ⊥) mults

abbrev pub IsFreeOf : Choice → ℕ → Node → Type 0
IsFreeOf x n (Nodes.Bound mults) = IsUnused x n mults
IsFreeOf x n (Nodes.Cycle objects) = AllZip (λ a b. Choices.Before a b ≡ x → ⊥) objects (drop 1 objects ++ take 1 objects)
IsFreeOf x n (Nodes.Side contact children) = Choices.Before contact.i contact.j ≡ x → ⊥
IsFreeOf x n (Nodes.Order i j) = Unit {0}
IsFreeOf x n Nodes.Pending = Unit {0}

abbrev pub IsFreeTree : Job → ℕ → List Choice → Choice → List Choice → List Node → Type 0
IsFreeTree job e front x back nodes =
    IsTree job (λ path node. (IsSoundNode job e path node × IsClosed node) × IsFreeOf x (length (system job e front)) node) (front ++ x ∷ back) nodes

abbrev pub lowered : ℕ → ℕ → ℕ
lowered n r = if nat_lt n r then r - 1 else r

abbrev pub dropped_mults : Choice → ℕ → List Mult → List Mult
dropped_mults (Choices.Before i j) n mults = mults
dropped_mults (Choices.Side contact dir) n mults = map (move (lowered n)) mults

abbrev pub dropped_node : Choice → ℕ → Node → Node
dropped_node x n (Nodes.Bound mults) = Nodes.Bound (dropped_mults x n mults)
dropped_node x n (Nodes.Cycle objects) = Nodes.Cycle objects
dropped_node x n (Nodes.Side contact children) = Nodes.Side contact children
dropped_node x n (Nodes.Order i j) = Nodes.Order i j
dropped_node x n Nodes.Pending = Nodes.Pending
