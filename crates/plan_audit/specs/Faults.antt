-- What is wrong with a plan, in the order in which it is told. All of it is said of a scene and a plan.
--
--   nth places k                  place k
--   StandsBelow places k o        object o has a place whose number is below k
--   IsStray scene places k        place k's object isn't one of the scene, or stands at an earlier place
--   IsAbsent scene places o       object o of the scene has no place
--   HasSpotOff scene e D place    some spot of the place's object, moved by it over the scale D, lies outside the region
--   IsOff scene e D places k      that is so of place k
--   IsHit scene D places h        the object of h's earlier place, in its band c, collides with that of the later place, in its band b, by
--                                 the part
--   ComesBefore g h               by earlier place, later place, band of the later, band of the earlier, part
--   FirstStray, FirstAbsent, FirstOff, FirstHit   the first of its kind, or None where there is none
--   IsVerdict scene e plan v      v is Good and the plan is valid; or what v names is the first of its kind, and there is none of the
--                                 kinds before: stray, absent, off the plate, hits
use Rattle.std.specs.Prelude.{◌≡◌, ℕ, ℤ, ◌<◌, ◌≤◌, ◌⊎◌, List, length, Option, Some, None, slice_index_or}
use Rattle.plan_audit.specs.Firsts.{IsFirst, Less, Sooner}
use Rattle.seq_model.specs.Jobs.{no_part, no_place}
use Rattle.seq_model.specs.Plates.{region_of}
use Rattle.seq_model.specs.Points.{place_point}
use Rattle.seq_model.specs.Scenes.{Scene, SomeSpot, LiesIn, Meets, Overlap, Valid}
use Rattle.seq_model.specs.declared.plan.Place.{Place}
use Rattle.seq_model.specs.declared.plan.Plan.{Plan}
use Rattle.seq_model.specs.declared.printer.Part.{Part}
use Rattle.plan_audit.specs.declared.verdict.Hit.{Hit}
use Rattle.plan_audit.specs.declared.verdict.Verdict.{Verdict}
use Rattle.plan_audit.specs.declared.verdict.Verdict.TheVariants as Verdicts

abbrev pub nth : List Place → ℕ → Place
nth places k = slice_index_or places k no_place

pub record StandsBelow (places : List Place) (k o : ℕ) : Type 0 where
  pub m : ℕ
  pub below : m < k
  pub is : (nth places m).object ≡ o

abbrev pub IsStray : Scene → List Place → ℕ → Type 0
IsStray scene places k = (k < length places) × ((scene.objects ≤ (nth places k).object) ⊎ StandsBelow places k (nth places k).object)

abbrev pub IsAbsent : Scene → List Place → ℕ → Type 0
IsAbsent scene places o = (o < scene.objects) × (StandsBelow places (length places) o → ⊥)

abbrev pub HasSpotOff : Scene → ℕ → ℤ → Place → Type 0
HasSpotOff scene e scale place =
    SomeSpot (scene.bands place.object) (scene.spots place.object) (λ s. LiesIn (region_of scene.width scene.depth scene.grid e) scale place s → ⊥)

abbrev pub IsOff : Scene → ℕ → ℤ → List Place → ℕ → Type 0
IsOff scene e scale places k = (k < length places) × HasSpotOff scene e scale (nth places k)

abbrev pub part_of : Scene → ℕ → Part
part_of scene k = slice_index_or scene.parts k no_part

pub record IsHit (scene : Scene) (scale : ℤ) (places : List Place) (h : Hit) : Type 0 where
  pub in_order : h.earlier < h.later
  pub stands : h.later < length places
  pub band_of_later : h.b < scene.bands (nth places h.later).object
  pub band_of_earlier : h.c < scene.bands (nth places h.earlier).object
  pub part_of_scene : h.part < length scene.parts
  pub meets : Meets (part_of scene h.part) h.b h.c
  pub overlap : Overlap (scene.spots (nth places h.earlier).object h.c) (scene.spots (nth places h.later).object h.b) (part_of scene h.part).corners
      (place_point scale (nth places h.earlier)) (place_point scale (nth places h.later))

abbrev pub ComesBefore : Hit → Hit → Type 0
ComesBefore g h = Sooner (Sooner (Sooner (Sooner Less))) (g.earlier, (g.later, (g.b, (g.c, g.part)))) (h.earlier, (h.later, (h.b, (h.c, h.part))))

abbrev pub FirstStray : Scene → List Place → Option ℕ → Type 0
FirstStray scene places r = IsFirst (IsStray scene places) Less r

abbrev pub FirstAbsent : Scene → List Place → Option ℕ → Type 0
FirstAbsent scene places r = IsFirst (IsAbsent scene places) Less r

abbrev pub FirstOff : Scene → ℕ → ℤ → List Place → Option ℕ → Type 0
FirstOff scene e scale places r = IsFirst (IsOff scene e scale places) Less r

abbrev pub FirstHit : Scene → ℤ → List Place → Option Hit → Type 0
FirstHit scene scale places r = IsFirst (IsHit scene scale places) ComesBefore r

abbrev pub IsVerdict : Scene → ℕ → Plan → Verdict → Type 0
IsVerdict scene e plan Verdicts.Good = Valid scene e plan
IsVerdict scene e plan (Verdicts.Stray k) = FirstStray scene plan.places (Some k)
IsVerdict scene e plan (Verdicts.Absent o) = FirstStray scene plan.places None × FirstAbsent scene plan.places (Some o)
IsVerdict scene e plan (Verdicts.OffPlate k) =
    FirstStray scene plan.places None × FirstAbsent scene plan.places None × FirstOff scene e plan.scale plan.places (Some k)
IsVerdict scene e plan (Verdicts.Collides h) =
    FirstStray scene plan.places None × FirstAbsent scene plan.places None × FirstOff scene e plan.scale plan.places None
    × FirstHit scene plan.scale plan.places (Some h)
