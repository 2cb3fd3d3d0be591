-- What is kept of the path that was looked at last.
--
--   path_of levels                  the choices that were entered, oldest first
--   orders_of path                  the orders on a path, in its order
--   HoldsRows job e path steps      the steps hold the rows of the path's system
--   FollowsPath job e steps low path levels     from the path on: at least `low` steps were there when the first of these choices was entered, no
--                                   fewer at each later one, and they held the system of the choices before it; all steps hold that of all
--   HasOnlyRows warm n rows         these rows were added to a system of none, and nothing else was done
--   IsTrail job t                   the rows and the orders of the choices that were entered, and no others
--   IsTrailOf job e path t          these choices are those of the path
--   IsEntered job e path k t how    what has become of choice k of the path: it is held, or closes a cycle of orders, or isn't held
--   IsFollowed job e path t how     the same of all of them
--   IsWarmed vars rows warmed       a point that meets the rows, or a contradiction of them
use Rattle.std.specs.Prelude.{◌≡◌, ℕ, suc, ◌+◌, ◌*◌, ◌<◌, ◌≤◌, ◌^◌, List, [], ◌∷◌, pos, ◌≤ℤ◌, ◌<ℤ◌, All, length, map, take}
use Rattle.feasible_point.specs.Shortening.{AreShortest}
use Rattle.node_looks.specs.declared.trail.Entered.{Entered}
use Rattle.node_looks.specs.declared.trail.Entered.TheVariants as Entereds
use Rattle.node_looks.specs.declared.trail.Level.{Level}
use Rattle.node_looks.specs.declared.trail.Trail.{Trail}
use Rattle.object_orders.specs.Orders.{AreAmong}
use Rattle.plan_laws.specs.Looking.{OnPath}
use Rattle.seq_model.specs.Dictionaries.{Rises}
use Rattle.seq_model.specs.Systems.{Contradiction, MeetsRows, system}
use Rattle.seq_model.specs.Trees.{IsCycle, also}
use Rattle.seq_model.specs.declared.job.Job.{Job}
use Rattle.seq_model.specs.declared.row.Row.{Row}
use Rattle.seq_model.specs.declared.tree.Choice.{Choice}
use Rattle.seq_model.specs.declared.tree.Choice.TheVariants as Choices
use Rattle.seq_model.specs.declared.tree.Mult.{Mult}
use Rattle.warm_rows.specs.Warming.{Warmth, rows_of}
use Rattle.warm_rows.specs.declared.step.Step.{Step}
use Rattle.warm_rows.specs.declared.step.Step.TheVariants as Steps
use Rattle.warm_rows.specs.declared.step.Warmed.{Warmed}
use Rattle.warm_rows.specs.declared.step.Warmed.TheVariants as Warmeds

abbrev pub path_of : List Level → List Choice
path_of levels = map (λ (l : Level). l.choice) levels

abbrev pub orders_of : List Choice → List (ℕ × ℕ)
orders_of [] = []
orders_of (Choices.Before i j ∷ path) = (i, j) ∷ orders_of path
orders_of (Choices.Side contact dir ∷ path) = orders_of path

abbrev pub HoldsRows : Job → ℕ → List Choice → List Step → Type 0
HoldsRows job e path steps = rows_of steps ≡ system job e path

abbrev pub FollowsPath : Job → ℕ → List Step → ℕ → List Choice → List Level → Type 0
FollowsPath job e steps low path [] = (low ≤ length steps) × HoldsRows job e path steps
FollowsPath job e steps low path (l ∷ levels) =
    (low ≤ l.before.steps) × (l.before.steps ≤ length steps) × HoldsRows job e path (take l.before.steps steps)
    × FollowsPath job e steps l.before.steps (also path l.choice) levels

pub record HasOnlyRows (warm : Warmth) (n : ℕ) (rows : List Row) : Type 0 where
  pub vars : warm.vars ≡ n
  pub steps : warm.steps ≡ map Steps.Row rows

pub record IsTrail (job : Job) (t : Trail) : Type 0 where
  pub vars : t.warm.vars ≡ 2 * length job.objects
  pub rows : FollowsPath job t.extent t.warm.steps 0 [] t.levels.items
  pub objects : t.graph.objects ≡ length job.objects
  pub held : t.graph.held ≡ orders_of (path_of t.levels.items)
  pub among : AreAmong (length job.objects) t.graph.held
  pub count : t.orders ≡ length t.graph.held
  pub few : t.orders ≤ 16 * length job.objects

pub record IsTrailOf (job : Job) (e : ℕ) (path : List Choice) (t : Trail) : Type 0 where
  pub trail : IsTrail job t
  pub extent : t.extent ≡ e
  pub choices : path_of t.levels.items ≡ path

abbrev pub IsEntered : Job → ℕ → List Choice → ℕ → Trail → Entered → Type 0
IsEntered job e path k t Entereds.Held = IsTrailOf job e (take (k + 1) path) t
IsEntered job e path k t (Entereds.Cycle objects) = IsCycle (OnPath path) objects
IsEntered job e path k t Entereds.Missed = Unit {0}

abbrev pub IsFollowed : Job → ℕ → List Choice → Trail → Entered → Type 0
IsFollowed job e path t Entereds.Held = IsTrailOf job e path t
IsFollowed job e path t (Entereds.Cycle objects) = IsCycle (OnPath path) objects
IsFollowed job e path t Entereds.Missed = Unit {0}

abbrev pub IsWarmed : ℕ → List Row → Warmed → Type 0
IsWarmed vars rows (Warmeds.Point den list) =
    MeetsRows rows den list.items × (length list.items ≡ vars) × (pos 1 ≤ℤ den) × (den <ℤ pos (2 ^ 62))
IsWarmed vars rows (Warmeds.Contradiction list) =
    Contradiction rows list.items × Rises (length rows) (map (λ (m : Mult). m.row) list.items) × All (λ (m : Mult). pos 1 ≤ℤ m.times) list.items
    × (0 < length list.items) × (length list.items ≤ suc vars) × AreShortest list.items
IsWarmed vars rows Warmeds.Cold = Unit {0}
