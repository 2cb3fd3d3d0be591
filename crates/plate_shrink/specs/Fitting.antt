-- A plan that is moved as a whole.
--
--   IsFitted job e fitted   its plan is found at its extent, which is at most e
--   FitsNoLower job plan e  at no smaller extent is the plan valid, moved as a whole by whole grains
--   IsSmallShift shift      its numbers are small
--   place_by scale shift p  the place p over the scale, moved by whole grains
--   plan_by shift plan      the plan with all places moved so
use Rattle.std.specs.Prelude.{ℕ, ◌^◌, ◌<◌, ◌≤◌, ℤ, ◌+ℤ◌, ◌*ℤ◌, map, unsigned_abs}
use Rattle.node_looks.specs.Looks.{IsFound}
use Rattle.plate_shrink.specs.declared.fitting.Fitted.{Fitted}
use Rattle.plate_shrink.specs.declared.fitting.Shift.{Shift}
use Rattle.seq_model.specs.Jobs.{scene_of_job}
use Rattle.seq_model.specs.Scenes.{Valid}
use Rattle.seq_model.specs.declared.job.Job.{Job}
use Rattle.seq_model.specs.declared.plan.Place.{Place}
use Rattle.seq_model.specs.declared.plan.Plan.{Plan}

pub record IsFitted (job : Job) (e : ℕ) (fitted : Fitted) : Type 0 where
  pub low : 1 ≤ fitted.extent
  pub high : fitted.extent ≤ e
  pub found : IsFound job fitted.extent fitted.plan

pub record IsSmallShift (shift : Shift) : Type 0 where
  pub x : unsigned_abs shift.x < 2 ^ 40
  pub y : unsigned_abs shift.y < 2 ^ 40

abbrev pub place_by : ℤ → Shift → Place → Place
place_by scale shift p = record { object = p.object; x = p.x +ℤ scale *ℤ shift.x; y = p.y +ℤ scale *ℤ shift.y }

abbrev pub plan_by : Shift → Plan → Plan
plan_by shift plan = record { scale = plan.scale; places = map (place_by plan.scale shift) plan.places }

pub record FitsNoLower (job : Job) (plan : Plan) (e : ℕ) : Type 0 where
  pub none : (f : ℕ) → f < e → (shift : Shift) → Valid (scene_of_job job) f (plan_by shift plan) → ⊥
