-- What a look at a node may answer.
--
--   IsFound job e plan           the plan is valid at the extent, and a plan file may state it, with the least scale
--   TakesRows node               each multiplier of a bound is at least 1, though the grammar spells a 0
--   ClosesBy job e path leaf     the leaf may stand at the path, and the grammar of certificates spells it
--   SplitsBy job e path node cs  the split may stand at the path and is earned, and its children have these choices, one each
--   IsVisit n visit              the numbers below n, each once, in the order in which n children are to be looked at
--   IsWideAt job e path basis row   the walk of the path's system ends before this basis, wide at this variable
--   IsLook job e path look       what each answer shows
--   zero_point job               all variables 0
--   HasZeroPlan job e            some order of the objects makes their places at the zero point a valid plan
--   IsZeroLook job e look        such a plan is answered
use Rattle.std.specs.Prelude.{◌≡◌, ◌↔◌, ℕ, ◌*◌, ◌<◌, ◌^◌, List, ◌≤ℤ◌, ◌<ℤ◌, pos, All, Contains, length, map, replicate}
use Rattle.cert_text.specs.TreeText.{IsSpelt}
use Rattle.object_orders.specs.Orders.{IsOnce}
use Rattle.plan_laws.specs.Ordered.{plan_of}
use Rattle.plan_text.specs.PlanText.{HasNoDivisor, IsPlace}
use Rattle.seq_model.specs.Jobs.{scene_of_job}
use Rattle.seq_model.specs.Scenes.{Valid}
use Rattle.seq_model.specs.Splits.{Earned, Values}
use Rattle.seq_model.specs.Systems.{system}
use Rattle.seq_model.specs.Trees.{AreChildren, IsSoundNode, also, arity}
use Rattle.seq_model.specs.Walks.{WalkWide}
use Rattle.seq_model.specs.declared.job.Job.{Job}
use Rattle.seq_model.specs.declared.plan.Plan.{Plan}
use Rattle.seq_model.specs.declared.tree.Choice.{Choice}
use Rattle.seq_model.specs.declared.tree.Mult.{Mult}
use Rattle.seq_model.specs.declared.tree.Node.{Node}
use Rattle.seq_model.specs.declared.tree.Node.TheVariants as Nodes
use Rattle.refutation_tree.specs.Grown.{IsLeaf}
use Rattle.node_looks.specs.declared.looks.Look.{Look}
use Rattle.node_looks.specs.declared.looks.Look.TheVariants as Looks

pub record IsFound (job : Job) (e : ℕ) (plan : Plan) : Type 0 where
  pub valid : Valid (scene_of_job job) e plan
  pub scale_low : pos 1 ≤ℤ plan.scale
  pub scale_high : plan.scale <ℤ pos (2 ^ 62)
  pub places : All IsPlace plan.places
  pub reduced : HasNoDivisor plan

abbrev pub TakesRows : Node → Type 0
TakesRows (Nodes.Order i j) = Unit {0}
TakesRows (Nodes.Side contact children) = Unit {0}
TakesRows (Nodes.Bound mults) = All (λ (m : Mult). pos 1 ≤ℤ m.times) mults
TakesRows (Nodes.Cycle objects) = Unit {0}
TakesRows Nodes.Pending = Unit {0}

pub record ClosesBy (job : Job) (e : ℕ) (path : List Choice) (leaf : Node) : Type 0 where
  pub is_leaf : IsLeaf leaf
  pub sound : IsSoundNode job e path leaf
  pub spelt : IsSpelt leaf
  pub takes : TakesRows leaf

pub record SplitsBy (job : Job) (e : ℕ) (path : List Choice) (node : Node) (choices : List Choice) : Type 0 where
  pub sound : IsSoundNode job e path node
  pub earned : Earned job e path node
  pub children : AreChildren job path node (map (also path) choices)
  pub many : length choices ≡ arity node
  pub some : 0 < length choices
  pub few : length choices < 2 ^ 31
  pub spelt : IsSpelt node

pub record IsVisit (n : ℕ) (visit : List ℕ) : Type 0 where
  pub all : (k : ℕ) → Contains visit k ↔ (k < n)
  pub once : IsOnce visit

abbrev pub IsWideAt : Job → ℕ → List Choice → List ℕ → ℕ → Type 0
IsWideAt job e path basis row = WalkWide (2 * length job.objects) (system job e path) basis row

abbrev pub IsLook : Job → ℕ → List Choice → Look → Type 0
IsLook job e path (Looks.Found plan) = IsFound job e plan
IsLook job e path (Looks.Close leaf) = ClosesBy job e path leaf
IsLook job e path (Looks.Split node choices visit) = SplitsBy job e path node choices × IsVisit (length choices) visit
IsLook job e path (Looks.Wide basis row) = IsWideAt job e path basis row

abbrev pub zero_point : Job → Values
zero_point job = record { d = pos 1; u = replicate (2 * length job.objects) (pos 0) }

abbrev pub HasZeroPlan : Job → ℕ → Type 0
HasZeroPlan job e = (objects : List ℕ) × Valid (scene_of_job job) e (plan_of job e (zero_point job) objects)

abbrev pub IsZeroLook : Job → ℕ → Look → Type 0
IsZeroLook job e (Looks.Found plan) = (objects : List ℕ) × (plan ≡ plan_of job e (zero_point job) objects)
IsZeroLook job e (Looks.Close leaf) = ⊥
IsZeroLook job e (Looks.Split node choices visit) = ⊥
IsZeroLook job e (Looks.Wide basis row) = ⊥
