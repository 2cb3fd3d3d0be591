-- A point of a path with an order of all objects, and the plan that the two are.
--
--   plan_of job e at objects     the places of the objects at the point, in this order
--   AreApart job e at objects    none collides there with a later one
--   orders_of path               the orders of a path, as pairs
--   OrderedPoint job e path      a point of the path with an order of all objects that keeps the path's orders, and in which no
--                                earlier one collides there with a later one
--   Keeps path rank              by rank, each order of the path rises
--   IsClear job e at rank        the objects have ranks of their own, and none collides at the point with one of a higher rank
use Rattle.std.specs.Prelude.{◌≢◌, ℕ, ◌<◌, List, [], ◌∷◌, length, map, AllPairs, Contains}
use Rattle.object_orders.specs.Orders.{IsOrder}
use Rattle.plan_laws.specs.Inside.{place_at}
use Rattle.seq_model.specs.Splits.{Values, IsOn, CollidesAt}
use Rattle.seq_model.specs.declared.job.Job.{Job}
use Rattle.seq_model.specs.declared.plan.Plan.{Plan}
use Rattle.seq_model.specs.declared.tree.Choice.{Choice}
use Rattle.seq_model.specs.declared.tree.Choice.TheVariants as Choices

abbrev pub plan_of : Job → ℕ → Values → List ℕ → Plan
plan_of job e at objects = record { scale = at.d; places = map (place_at job e at.d at.u) objects }

abbrev pub AreApart : Job → ℕ → Values → List ℕ → Type 0
AreApart job e at objects = AllPairs (λ i j. CollidesAt job e at i j → ⊥) objects

abbrev pub orders_of : List Choice → List (ℕ × ℕ)
orders_of [] = []
orders_of (Choices.Before i j ∷ path) = (i, j) ∷ orders_of path
orders_of (Choices.Side contact dir ∷ path) = orders_of path

pub record OrderedPoint (job : Job) (e : ℕ) (path : List Choice) : Type 0 where
  pub at : Values
  pub on : IsOn job e path at
  pub objects : List ℕ
  pub order : IsOrder (length job.objects) (orders_of path) objects
  pub apart : AreApart job e at objects

abbrev pub Keeps : List Choice → (ℕ → ℕ) → Type 0
Keeps path rank = (i j : ℕ) → Contains path (Choices.Before i j) → rank i < rank j

pub record IsClear (job : Job) (e : ℕ) (at : Values) (rank : ℕ → ℕ) : Type 0 where
  pub own : (i j : ℕ) → i < length job.objects → j < length job.objects → i ≢ j → rank i ≢ rank j
  pub clear : (i j : ℕ) → i < length job.objects → j < length job.objects → rank i < rank j → CollidesAt job e at i j → ⊥
