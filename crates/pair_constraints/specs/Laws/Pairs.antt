-- Two objects at their places: which zones and parts collide.
--
--   ZonesHit a part b p r      zone a at p collides with zone b at r by the part
--   PartHits parts a b p r k   by the part of this number
--   ZoneHits parts zs b p r    by the zone and the part of these numbers
--   PairHits parts zs ws p r   by the later zone, the earlier zone and the part of these numbers
--   contact_by i j s           the contact with these numbers
use Rattle.std.proofs.Common.{lit<, ◌≡◌, ◌≢◌, ℕ, ◌<◌, ◌≤◌, ◌^◌, zero, suc, List, length, get_or, Option, Some, None, arith, refl, subst, ap, ◌∙◌, All, AllPairs, ℤ}
use Rattle.std.proofs.lemmas.List.Elements.{All-get_or, All-weaker}
use Rattle.outline_laws.specs.Corners.{IsNarrow}
use Rattle.outline_laws.specs.Outlines.{AreOutlines}
use Rattle.seq_model.specs.Contacts.{ZonesMeet}
use Rattle.model_laws.specs.Laws.Collisions.{contact_collides, collides_by_contact, sound_object, any_default}
pub use Rattle.pair_constraints.specs.FirstContacts.{ComesBefore, CollidesBetween}
use Rattle.pair_constraints.specs.Laws.Firsts.{IsFirst, Sooner}
use Rattle.seq_model.specs.Bounds.{IsNearSpot}
use Rattle.seq_model.specs.Jobs.{no_object, no_zone, no_part, object_at, scene_of_job}
use Rattle.seq_model.specs.Parts.{IsSoundPart}
use Rattle.seq_model.specs.Points.{Point, place_point}
use Rattle.seq_model.specs.Scenes.{Overlap, Collides}
use Rattle.seq_model.specs.Soundness.{IsSoundZone, AreSoundZones}
use Rattle.seq_model.specs.declared.job.Job.{Job}
use Rattle.seq_model.specs.declared.job.Object.{Object}
use Rattle.seq_model.specs.declared.job.Zone.{Zone}
use Rattle.seq_model.specs.declared.plan.Place.{Place}
use Rattle.seq_model.specs.declared.printer.Part.{Part}
use Rattle.seq_model.specs.declared.printer.Spot.{Spot}
use Rattle.seq_model.specs.declared.tree.Contact.{Contact}
use Rattle.seq_limits.specs.declared.TheConstants.{MOST_BANDS}

abbrev pub ZonesHit : Zone → Part → Zone → Point → Point → Type 0
ZonesHit a part b p r = ZonesMeet a part b × Overlap a.corners b.corners part.corners p r

abbrev pub PartHits : List Part → Zone → Zone → Point → Point → ℕ → Type 0
PartHits parts a b p r k = (k < length parts) × ZonesHit a (get_or parts k no_part) b p r

abbrev pub ZoneHits : List Part → List Zone → Zone → Point → Point → ℕ × ℕ → Type 0
ZoneHits parts zs b p r s = (s.0 < length zs) × PartHits parts (get_or zs s.0 no_zone) b p r s.1

abbrev pub PairHits : List Part → List Zone → List Zone → Point → Point → ℕ × (ℕ × ℕ) → Type 0
PairHits parts zs ws p r s = (s.0 < length ws) × ZoneHits parts zs (get_or ws s.0 no_zone) p r s.1

-- ---- sizes
pub near : (n : ℕ) (S : List Spot) → n < 2 ^ 21 → All (IsNearSpot n) S → All IsNarrow S
near n S small all = All-weaker (IsNearSpot n) IsNarrow (λ s h. let x = h.x in let y = h.y in (omega (arith, x, small), omega (arith, y, small))) S all

pub outlines : (a b : Zone) (part : Part) → IsSoundZone a → IsSoundZone b → IsSoundPart part → AreOutlines a.corners b.corners part.corners
outlines a b part sa sb sp =
    record {
      a = sa.corners;
      b = sb.corners;
      f = sp.corners;
      a_area = sa.area;
      b_area = sb.area;
      f_some = sp.some;
      a_near = near 1_001_000 a.corners (lit< tt) sa.near;
      b_near = near 1_001_000 b.corners (lit< tt) sb.near;
      f_near = near 100_000 part.corners (lit< tt) sp.near;
    }

-- zones rise by a band at least, so they are as few as the bands
rises_by_one : (zones : List Zone) (k : ℕ) → All IsSoundZone zones → AllPairs (λ (y z : Zone). y.last < z.first) zones → k < length zones → k ≤ (get_or zones k no_zone).last
rises_by_one zones zero each rise l = omega arith
rises_by_one zones (suc k) each rise l =
    let before = rises_by_one zones k each rise (omega (arith, l)) in
    let less = rise k (suc k) no_zone (omega arith) l in
    let on = (All-get_or IsSoundZone zones (suc k) no_zone l each).rises in
    omega (arith, before, less, on)

pub few_zones : (bands : ℕ) (zones : List Zone) → AreSoundZones bands zones → length zones ≤ bands
few_zones bands zones s = by (length zones) refl
  where
    by : (n : ℕ) → length zones ≡ n → length zones ≤ bands
    by zero e = omega (arith, e)
    by (suc m) e =
        let low = rises_by_one zones m s.each s.rise (omega (arith, e)) in
        let end : (get_or zones m no_zone).last < bands = All-get_or (λ (z : Zone). z.last < bands) zones m no_zone (omega (arith, e)) s.end in
        omega (arith, e, low, end)

-- ---- contacts
abbrev pub contact_by : ℕ → ℕ → ℕ × (ℕ × ℕ) → Contact
contact_by i j s = record { i = i; zi = s.1.0; part = s.1.1; zj = s.0; j = j }

abbrev pub HitsBetween : Job → ℕ → ℕ → Point → Point → ℕ × (ℕ × ℕ) → Type 0
HitsBetween job i j p r = PairHits job.printer.parts (object_at job i).zones (object_at job j).zones p r

-- in the order of contacts of two objects: by zone of the later, zone of the earlier, part
hits_of : (job : Job) (i j : ℕ) (p r : Point) (c : Contact) → CollidesBetween job i j p r c → HitsBetween job i j p r (c.zj, (c.zi, c.part))
hits_of job i j p r c k = subst (λ a. HitsBetween job a j p r (c.zj, (c.zi, c.part))) k.0 (subst (λ b. HitsBetween job c.i b p r (c.zj, (c.zi, c.part))) k.1 own)
  where
    own : HitsBetween job c.i c.j p r (c.zj, (c.zi, c.part))
    own = let is = k.2.is in (is.zj_in, (is.zi_in, (is.part_in, (is.meet, k.2.overlap))))

of_hits : (job : Job) (i j : ℕ) (p r : Point) (s : ℕ × (ℕ × ℕ)) → i < length job.objects → j < length job.objects → i ≢ j → HitsBetween job i j p r s → CollidesBetween job i j p r (contact_by i j s)
of_hits job i j p r s l m apart h =
    let z = h.1 in
    let t = z.1 in
    let y = t.1 in
    (refl, refl, record { is = record { i_in = l; j_in = m; apart = apart; zi_in = z.0; zj_in = h.0; part_in = t.0; meet = y.0 }; overlap = y.1 })

pub first_contact : (job : Job) (i j : ℕ) (p r : Point) (s : ℕ × (ℕ × ℕ)) → i < length job.objects → j < length job.objects → i ≢ j
    → IsFirst (HitsBetween job i j p r) (Sooner (Sooner (λ a b. a < b))) (Some s) → IsFirst (CollidesBetween job i j p r) ComesBefore (Some (contact_by i j s))
first_contact job i j p r s l m apart f = (of_hits job i j p r s l m apart f.0, λ d k b. f.1 (d.zj, (d.zi, d.part)) (hits_of job i j p r d k) b)

pub no_contact : (job : Job) (i j : ℕ) (p r : Point) → IsFirst (HitsBetween job i j p r) (Sooner (Sooner (λ a b. a < b))) None → IsFirst (CollidesBetween job i j p r) ComesBefore None
no_contact job i j p r f = λ d k. f (d.zj, (d.zi, d.part)) (hits_of job i j p r d k)

-- ---- and their objects
pub no_collision : (job : Job) (i j : ℕ) (p r : Point) → i ≢ j → IsFirst (CollidesBetween job i j p r) ComesBefore None → Collides (scene_of_job job) i p j r → ⊥
no_collision job i j p r apart f k = let c = collides_by_contact job i j p r apart k in f c.contact (c.earlier, c.later, c.collides)

pub a_collision : (job : Job) (i j : ℕ) (p r : Point) (c : Contact) → CollidesBetween job i j p r c → Collides (scene_of_job job) i p j r
a_collision job i j p r c k =
    subst (λ a. Collides (scene_of_job job) a p j r) k.0 (subst (λ b. Collides (scene_of_job job) c.i p b r) k.1 (contact_collides job c p r k.2))

pub few_of : (job : Job) (i : ℕ) → i < length job.objects → length (object_at job i).zones ≤ MOST_BANDS
few_of job i l =
    let o = sound_object job i l in
    let few = few_zones (object_at job i).bands (object_at job i).zones o.zones in
    let bands = o.few_bands in
    omega (arith, few, bands)

pub zones_are : (job : Job) (i : ℕ) (os : List Object) (d : Object) (zs : List Zone) → i < length job.objects → os ≡ job.objects → zs ≡ (get_or os i d).zones → zs ≡ (object_at job i).zones
zones_are job i os d zs l e f = f ∙ (ap (λ (xs : List Object). (get_or xs i d).zones) e ∙ ap (λ (o : Object). o.zones) (any_default job.objects i d no_object l))

pub found_pair : (job : Job) (e l : Place) (scale scale' : ℤ) (parts : List Part) (zs ws : List Zone) (o : Option (ℕ × (ℕ × ℕ))) → scale' ≡ scale → parts ≡ job.printer.parts → zs ≡ (object_at job e.object).zones → ws ≡ (object_at job l.object).zones
    → IsFirst (PairHits parts zs ws (place_point scale' e) (place_point scale' l)) (Sooner (Sooner (λ a b. a < b))) o
    → IsFirst (HitsBetween job e.object l.object (place_point scale e) (place_point scale l)) (Sooner (Sooner (λ a b. a < b))) o
found_pair job e l scale scale' parts zs ws o same d f g first =
    let zs' = (object_at job e.object).zones in
    let ws' = (object_at job l.object).zones in
    subst (λ t. IsFirst (PairHits job.printer.parts zs' ws' (place_point t e) (place_point t l)) (Sooner (Sooner (λ a b. a < b))) o) same
    (subst (λ t. IsFirst (PairHits t zs' ws' (place_point scale' e) (place_point scale' l)) (Sooner (Sooner (λ a b. a < b))) o) d
    (subst (λ t. IsFirst (PairHits parts t ws' (place_point scale' e) (place_point scale' l)) (Sooner (Sooner (λ a b. a < b))) o) f
    (subst (λ t. IsFirst (PairHits parts zs t (place_point scale' e) (place_point scale' l)) (Sooner (Sooner (λ a b. a < b))) o) g first)))
