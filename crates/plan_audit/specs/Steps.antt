-- What the loops of an audit look for, one number at a time. Only contracts of the crate's own functions speak of it.
--
-- Outlines overlap at two places where the later place less the earlier one is inner to their difference: the point q below.
--
--   Holds zones b z                zone z holds band b
--   ZonesHit a part b q            the zones meet by the part, and overlap
--   SomePartHits parts a b q       that is so of some part
--   SomeZoneHits parts zones b q   of some zone of the earlier object and some part
--   SomePairHits parts zones ws q  of some zone of each and some part
--   PartHits parts A B b c q k     by part k the outline A in band c hits the outline B in band b
--   EarlierHits, LaterHits         (c, k) and (b, (c, k)): the bands of the earlier and of the later object
--   HitsAfter scene D places e     (l, (b, (c, k))): place l is behind place e, and hit so
--   HitsAt scene D places          (e, (l, (b, (c, k))))
--   hit_by s                       the hit of these numbers
--   span_out, is_out               a span, and a box, reaches out of the region
use Rattle.std.specs.Prelude.{ℕ, ℤ, ◌+ℤ◌, ◌*ℤ◌, ◌<◌, ◌≤◌, List, length, Bool, ◌||◌, int_lt, slice_index_or}
use Rattle.plan_audit.specs.Faults.{nth}
use Rattle.plan_audit.specs.Places.{gap}
use Rattle.plan_audit.specs.declared.verdict.Hit.{Hit}
use Rattle.seq_model.specs.Contacts.{difference, ZonesMeet}
use Rattle.seq_model.specs.Jobs.{no_zone, no_part}
use Rattle.seq_model.specs.Outlines.{Inner}
use Rattle.seq_model.specs.Points.{Point}
use Rattle.seq_model.specs.Scenes.{Scene, Meets}
use Rattle.seq_model.specs.declared.job.Zone.{Zone}
use Rattle.seq_model.specs.declared.plan.Place.{Place}
use Rattle.seq_model.specs.declared.plate.Region.{Region}
use Rattle.seq_model.specs.declared.printer.Part.{Part}
use Rattle.seq_model.specs.declared.printer.Spot.{Spot}

abbrev pub Holds : List Zone → ℕ → ℕ → Type 0
Holds zones b z = (z < length zones) × ((slice_index_or zones z no_zone).first ≤ b) × (b ≤ (slice_index_or zones z no_zone).last)

abbrev pub ZonesHit : Zone → Part → Zone → Point → Type 0
ZonesHit a part b q = ZonesMeet a part b × Inner (difference a.corners b.corners part.corners) q

pub record SomePartHits (parts : List Part) (a b : Zone) (q : Point) : Type 0 where
  pub k : ℕ
  pub known : k < length parts
  pub hits : ZonesHit a (slice_index_or parts k no_part) b q

pub record SomeZoneHits (parts : List Part) (zones : List Zone) (b : Zone) (q : Point) : Type 0 where
  pub z : ℕ
  pub known : z < length zones
  pub hits : SomePartHits parts (slice_index_or zones z no_zone) b q

pub record SomePairHits (parts : List Part) (zones later_zones : List Zone) (q : Point) : Type 0 where
  pub z : ℕ
  pub known : z < length later_zones
  pub hits : SomeZoneHits parts zones (slice_index_or later_zones z no_zone) q

abbrev pub PartHits : List Part → List Spot → List Spot → ℕ → ℕ → Point → ℕ → Type 0
PartHits parts A B b c q k =
    (k < length parts) × Meets (slice_index_or parts k no_part) b c × Inner (difference A B (slice_index_or parts k no_part).corners) q

abbrev pub EarlierHits : Scene → ℕ → List Spot → ℕ → Point → ℕ × ℕ → Type 0
EarlierHits scene i B b q s = (s.0 < scene.bands i) × PartHits scene.parts (scene.spots i s.0) B b s.0 q s.1

abbrev pub LaterHits : Scene → ℕ → ℕ → Point → ℕ × (ℕ × ℕ) → Type 0
LaterHits scene i j q s = (s.0 < scene.bands j) × EarlierHits scene i (scene.spots j s.0) s.0 q s.1

abbrev pub HitsAfter : Scene → ℤ → List Place → ℕ → ℕ × (ℕ × (ℕ × ℕ)) → Type 0
HitsAfter scene scale places e s =
    (e < s.0) × (s.0 < length places) × LaterHits scene (nth places e).object (nth places s.0).object (gap scale (nth places e) (nth places s.0)) s.1

abbrev pub HitsAt : Scene → ℤ → List Place → ℕ × (ℕ × (ℕ × (ℕ × ℕ))) → Type 0
HitsAt scene scale places s = (s.0 < length places) × HitsAfter scene scale places s.0 s.1

abbrev pub hit_by : ℕ × (ℕ × (ℕ × (ℕ × ℕ))) → Hit
hit_by s = record { earlier = s.0; later = s.1.0; b = s.1.1.0; c = s.1.1.1.0; part = s.1.1.1.1 }

-- ---- the test of a box
abbrev pub span_out : ℤ → ℤ → ℤ → ℤ → ℤ → ℤ → Bool
span_out scale start size low high shift =
    int_lt (scale *ℤ low +ℤ shift) (scale *ℤ start) || int_lt (scale *ℤ (start +ℤ size)) (scale *ℤ high +ℤ shift)

abbrev pub is_out : Region → ℤ → Place → Spot → Spot → Bool
is_out region scale place low high =
    span_out scale region.low.x region.w low.x high.x place.x || span_out scale region.low.y region.h low.y high.y place.y
