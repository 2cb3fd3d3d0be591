-- Plans over other scales.
--
--   SamePlace D E p q       place p over the scale D and place q over the scale E move the same object to the same point
--   SamePlaces plan other   two plans, each over its scale, move the same objects to the same points, in the same order
use Rattle.std.specs.Prelude.{◌≡◌, ℤ}
use Rattle.std.specs.List.{AllZip}
use Rattle.seq_model.specs.Points.{SamePoint, place_point}
use Rattle.seq_model.specs.declared.plan.Place.{Place}
use Rattle.seq_model.specs.declared.plan.Plan.{Plan}

pub record SamePlace (D E : ℤ) (p q : Place) : Type 0 where
  pub object : p.object ≡ q.object
  pub point : SamePoint (place_point D p) (place_point E q)

abbrev pub SamePlaces : Plan → Plan → Type 0
SamePlaces plan other = AllZip (SamePlace plan.scale other.scale) plan.places other.places
