-- The places of a point of a system, and what lies in the region there.
--
--   region_at job e           the region of an extent on the job's plate
--   place_at job e d u o      the place of object o at the point u / d, over the scale d
--   IsBounded job e d u       no variable is negative, and the rows of the bounds are met
--   IsInside job e d place    every spot of every band of the place's object lies in the region there
--   AreInside job e d u       every object lies in it so at its place
use Rattle.std.specs.Prelude.{ℕ, ℤ, pos, ◌<◌, ◌≤ℤ◌, List, length, All}
use Rattle.seq_model.specs.Jobs.{bands_of, scene_of_job}
use Rattle.seq_model.specs.Plates.{region_of}
use Rattle.seq_model.specs.Scenes.{LiesIn}
use Rattle.seq_model.specs.Systems.{bounds_of, row_value, place_of}
use Rattle.seq_model.specs.declared.job.Job.{Job}
use Rattle.seq_model.specs.declared.plan.Place.{Place}
use Rattle.seq_model.specs.declared.plate.Region.{Region}

abbrev pub region_at : Job → ℕ → Region
region_at job e = region_of job.printer.width job.printer.depth job.printer.grid e

abbrev pub place_at : Job → ℕ → ℤ → List ℤ → ℕ → Place
place_at job e d u o = record { object = o; x = (place_of job e d u o).x; y = (place_of job e d u o).y }

pub record IsBounded (job : Job) (e : ℕ) (d : ℤ) (u : List ℤ) : Type 0 where
  pub coordinates : All (λ x. pos 0 ≤ℤ x) u
  pub each : All (λ row. pos 0 ≤ℤ row_value d u row) (bounds_of job e 0 job.objects)

abbrev pub IsInside : Job → ℕ → ℤ → Place → Type 0
IsInside job e d place = (b : ℕ) → b < bands_of job place.object → All (LiesIn (region_at job e) d place) ((scene_of_job job).spots place.object b)

abbrev pub AreInside : Job → ℕ → ℤ → List ℤ → Type 0
AreInside job e d u = (o : ℕ) → o < length job.objects → IsInside job e d (place_at job e d u o)
