-- What an audit of a plan has to look at: four numbers for each object, and the contacts of each two.
--
--   BoxLiesIn region D place low high    the rectangle from low to high, moved by the place over the scale D, lies in the region
--   BoxOf job e D place      the rectangle from the low to the high of the place's object does
--   IsAudited job e plan     each object stands in the plan once and nothing else does, its box lies in the region, and no contact of
--                            an earlier and a later one collides at their places
use Rattle.std.specs.Prelude.{◌≡◌, ℕ, ◌<◌, ◌≤◌, length, ℤ, pos, ◌+ℤ◌, ◌*ℤ◌, ◌≤ℤ◌, All, AllPairs, count_by, nat_eq}
use Rattle.plan_laws.specs.Inside.{region_at}
use Rattle.seq_model.specs.Contacts.{ContactCollides}
use Rattle.seq_model.specs.Jobs.{object_at}
use Rattle.seq_model.specs.Points.{place_point}
use Rattle.seq_model.specs.declared.job.Job.{Job}
use Rattle.seq_model.specs.declared.plan.Place.{Place}
use Rattle.seq_model.specs.declared.plan.Plan.{Plan}
use Rattle.seq_model.specs.declared.plate.Region.{Region}
use Rattle.seq_model.specs.declared.printer.Spot.{Spot}
use Rattle.seq_model.specs.declared.tree.Contact.{Contact}

pub record BoxLiesIn (region : Region) (scale : ℤ) (place : Place) (low high : Spot) : Type 0 where
  pub west : (scale *ℤ region.low.x) ≤ℤ (scale *ℤ low.x +ℤ place.x)
  pub east : (scale *ℤ high.x +ℤ place.x) ≤ℤ (scale *ℤ (region.low.x +ℤ region.w))
  pub south : (scale *ℤ region.low.y) ≤ℤ (scale *ℤ low.y +ℤ place.y)
  pub north : (scale *ℤ high.y +ℤ place.y) ≤ℤ (scale *ℤ (region.low.y +ℤ region.h))

abbrev pub BoxOf : Job → ℕ → ℤ → Place → Type 0
BoxOf job e scale place = BoxLiesIn (region_at job e) scale place (object_at job place.object).low (object_at job place.object).high

pub record IsAudited (job : Job) (e : ℕ) (plan : Plan) : Type 0 where
  pub from_one : 1 ≤ e
  pub to_grid : e ≤ job.printer.grid
  pub scale : pos 1 ≤ℤ plan.scale
  pub known : All (λ (place : Place). place.object < length job.objects) plan.places
  pub once : (o : ℕ) → o < length job.objects → count_by (λ (place : Place). nat_eq place.object o) plan.places ≡ 1
  pub boxes : All (BoxOf job e plan.scale) plan.places
  pub apart : AllPairs (λ (p r : Place). (contact : Contact) → contact.i ≡ p.object → contact.j ≡ r.object
      → ContactCollides job contact (place_point plan.scale p) (place_point plan.scale r) → ⊥) plan.places
