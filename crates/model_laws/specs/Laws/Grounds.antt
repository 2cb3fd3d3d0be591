-- Each earned split is grounded.
use Rattle.std.proofs.Common.{ℕ, List, Contains, ◌⊎◌, inl, inr}
use Rattle.seq_model.specs.Splits.{Values, CollidesAt, AreNeighbours, Earned, Grounded}
use Rattle.seq_model.specs.declared.job.Job.{Job}
use Rattle.seq_model.specs.declared.tree.Choice.{Choice}
use Rattle.seq_model.specs.declared.tree.Choice.TheVariants as Choices
use Rattle.seq_model.specs.declared.tree.Node.{Node}
use Rattle.seq_model.specs.declared.tree.Node.TheVariants as Nodes

-- where a before b isn't on the path, neighbours a, b of a cycle are forced: b collides with a as the earlier
forced : (job : Job) (e : ℕ) (path : List Choice) (at : Values) (a b : ℕ) → (Contains path (Choices.Before a b) → ⊥) → AreNeighbours job e path at a b → CollidesAt job e at b a
forced job e path at a b un t = by t.1.1.0
  where
    by : (Contains path (Choices.Before a b) ⊎ (CollidesAt job e at b a × (CollidesAt job e at a b → ⊥))) → CollidesAt job e at b a
    by (inl on) = absurd (un on)
    by (inr f) = f.0

pub earned_is_grounded : (job : Job) (e : ℕ) (path : List Choice) (node : Node) → Earned job e path node → Grounded job e path node
earned_is_grounded job e path (Nodes.Bound mults) h = tt
earned_is_grounded job e path (Nodes.Cycle objects) h = tt
earned_is_grounded job e path Nodes.Pending h = tt
earned_is_grounded job e path (Nodes.Side contact children) h = h
earned_is_grounded job e path (Nodes.Order i j) h = (h.0, record { at = h.1.at; on = h.1.on; here = one_way h.1.here })
  where
    one_way : ((CollidesAt job e h.1.at i j × CollidesAt job e h.1.at j i) ⊎ (AreNeighbours job e path h.1.at i j ⊎ AreNeighbours job e path h.1.at j i))
        → CollidesAt job e h.1.at i j ⊎ CollidesAt job e h.1.at j i
    one_way (inl both) = inl both.0
    one_way (inr (inl t)) = inr (forced job e path h.1.at i j h.0.0 t)
    one_way (inr (inr t)) = inl (forced job e path h.1.at j i h.0.1 t)
