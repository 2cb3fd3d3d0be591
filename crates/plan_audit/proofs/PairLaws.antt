-- Bands and zones of two objects, and their gap.
--
--   zone_of, none_held, held_spots   the zone that holds a band has its spots, and without one there are none
--   band_some, band_none             the part that hits in a band of the earlier object
--   later_some, later_none           the band and part that hit in a band of the later one
--   pair_of_bands                    bands hit only where zones do
--   overlap_at_gap                   outlines overlap at two places where the gap is inner to their difference
--   first_hit_some, first_hit_none   so numbers are first where their hit is
use Rattle.std.proofs.Common.{◌≡◌, ℕ, ◌+◌, ◌<◌, ◌≤◌, List, [], ◌∷◌, length, get_or, refl, ap, sym, subst, ◌∙◌, arith, ℤ, pos, ◌-ℤ◌, ◌*ℤ◌, ◌≤ℤ◌, Option, Some, None, inl, inr, ◌⊎◌, ◌↔◌, Bool, true, false}
use Rattle.std.proofs.lemmas.Bool.Decides.{nat_tests}
use Rattle.std.proofs.lemmas.Int.{ints}
use Rattle.std.specs.Prelude.{find, nat_le, MatchOption}
use Rattle.integer_laws.specs.Laws.Ring.{expand}
use Rattle.model_laws.specs.Laws.Collisions.{any_default, find_some, spots_of_zone, Zoned}
use Rattle.model_laws.specs.Laws.SamePoints.{mean_of_same, minus_is_point}
use Rattle.outline_laws.specs.Laws.Overlaps.{inner_of_overlap, overlap_of_inner}
use Rattle.seq_model.specs.Contacts.{difference, reaches_to, ZonesMeet}
use Rattle.seq_model.specs.Jobs.{no_object, no_zone, no_part, object_at, zone_at, zones_of, holds_band, corners_or_none, scene_of_job}
use Rattle.seq_model.specs.Outlines.{Inner}
use Rattle.seq_model.specs.Points.{Point, IsPoint, minus, place_point}
use Rattle.seq_model.specs.Scenes.{Scene, Meets, Overlap}
use Rattle.seq_model.specs.declared.job.Job.{Job}
use Rattle.seq_model.specs.declared.job.Object.{Object}
use Rattle.seq_model.specs.declared.job.Zone.{Zone}
use Rattle.seq_model.specs.declared.plan.Place.{Place}
use Rattle.seq_model.specs.declared.printer.Part.{Part}
use Rattle.seq_model.specs.declared.printer.Spot.{Spot}
use Rattle.plan_audit.specs.Faults.{nth, IsHit, FirstHit}
use Rattle.plan_audit.proofs.FirstLaws.{sooner_some}
use Rattle.plan_audit.specs.Firsts.{IsFirst, Less, Sooner, Below}
use Rattle.plan_audit.specs.Places.{gap}
use Rattle.plan_audit.specs.Steps.{Holds, SomePairHits, PartHits, EarlierHits, LaterHits, HitsAt, hit_by}
use Rattle.plan_audit.specs.declared.verdict.Hit.{Hit}

pub zones_are : (job : Job) (i : ℕ) (os : List Object) (d : Object) (zs : List Zone) → i < length job.objects → os ≡ job.objects → zs ≡ (get_or os i d).zones → zs ≡ zones_of job i
zones_are job i os d zs l e f = f ∙ (ap (λ (xs : List Object). (get_or xs i d).zones) e ∙ ap (λ (o : Object). o.zones) (any_default job.objects i d no_object l))

-- ---- bands
pub zone_of : (job : Job) (i b : ℕ) → Zoned job i b ⊎ ((scene_of_job job).spots i b ≡ [])
zone_of job i b = by (find (holds_band b) (zones_of job i)) refl
  where
    by : (o : Option Zone) → find (holds_band b) (zones_of job i) ≡ o → Zoned job i b ⊎ (corners_or_none (find (holds_band b) (zones_of job i)) ≡ [])
    by None e = inr (ap corners_or_none e)
    by (Some z) e =
        let f = find_some b (zones_of job i) z e in
        inl (record { z = f.place; known = f.in_list; low = subst (λ (y : Zone). y.first ≤ b) (sym (f.is no_zone)) f.low; high = subst (λ (y : Zone). b ≤ y.last) (sym (f.is no_zone)) f.high })

none_inner : (q : Point) → Inner [] q → ⊥
none_inner q n = let some = n.some in omega (arith, ints, some)

no_later : (A F : List Spot) → difference A [] F ≡ []
no_later [] F = refl
no_later (a ∷ A) F = no_later A F

pub none_held : (job : Job) (i b : ℕ) → IsFirst (Holds (zones_of job i) b) Less None → (scene_of_job job).spots i b ≡ []
none_held job i b f = by (zone_of job i b)
  where
    by : Zoned job i b ⊎ ((scene_of_job job).spots i b ≡ []) → (scene_of_job job).spots i b ≡ []
    by (inl z) = absurd (f z.z (z.known, z.low, z.high))
    by (inr e) = e

no_earlier_hit : (A B F : List Spot) (q : Point) → A ≡ [] → Inner (difference A B F) q → ⊥
no_earlier_hit A B F q e n = none_inner q (subst (λ t. Inner (difference t B F) q) e n)

no_later_hit : (A B F : List Spot) (q : Point) → B ≡ [] → Inner (difference A B F) q → ⊥
no_later_hit A B F q e n = none_inner q (subst (λ t. Inner t q) (no_later A F) (subst (λ t. Inner (difference A t F) q) e n))

pub held_spots : (job : Job) (i b z : ℕ) → i < length job.objects → Holds (zones_of job i) b z → (scene_of_job job).spots i b ≡ (zone_at job i z).corners
held_spots job i b z l h = spots_of_zone job i z b l h.0 h.1 h.2

corners_held : (job : Job) (i band z : ℕ) (os : List Object) (d : Object) (zs : List Zone) (dz : Zone) → i < length job.objects → os ≡ job.objects → zs ≡ (get_or os i d).zones → Holds zs band z
    → (get_or zs z dz).corners ≡ (scene_of_job job).spots i band
corners_held job i band z os d zs dz known f g holds =
    let are = zones_are job i os d zs known f g in
    let spots = held_spots job i band z known (subst (λ t. Holds t band z) are holds) in
    ap (λ (x : Zone). x.corners) (any_default zs z dz no_zone holds.0) ∙ (ap (λ (t : List Zone). (get_or t z no_zone).corners) are ∙ sym spots)

pub band_some : (job : Job) (i band z : ℕ) (B : List Spot) (b : ℕ) (q : Point) (os : List Object) (d : Object) (zs : List Zone) (dz : Zone) (parts : List Part) (o : Option ℕ)
    → i < length job.objects → os ≡ job.objects → zs ≡ (get_or os i d).zones → parts ≡ job.printer.parts → Holds zs band z
    → IsFirst (PartHits parts (get_or zs z dz).corners B b band q) Less o
    → IsFirst (PartHits job.printer.parts ((scene_of_job job).spots i band) B b band q) Less o
band_some job i band z B b q os d zs dz parts o known f g h holds first =
    subst (λ t. IsFirst (PartHits t ((scene_of_job job).spots i band) B b band q) Less o) h
    (subst (λ A. IsFirst (PartHits parts A B b band q) Less o) (corners_held job i band z os d zs dz known f g holds) first)

pub band_none : (job : Job) (i band : ℕ) (B : List Spot) (b : ℕ) (q : Point) (os : List Object) (d : Object) (zs : List Zone) → i < length job.objects → os ≡ job.objects → zs ≡ (get_or os i d).zones
    → IsFirst (Holds zs band) Less None → IsFirst (PartHits job.printer.parts ((scene_of_job job).spots i band) B b band q) Less None
band_none job i band B b q os d zs known f g none =
    λ k x. no_earlier_hit ((scene_of_job job).spots i band) B (get_or job.printer.parts k no_part).corners q (none_held job i band (subst (λ t. IsFirst (Holds t band) Less None) (zones_are job i os d zs known f g) none)) x.2

pub later_some : (job : Job) (i j band z : ℕ) (q : Point) (os : List Object) (d : Object) (zs : List Zone) (dz : Zone) (o : Option (ℕ × ℕ))
    → j < length job.objects → os ≡ job.objects → zs ≡ (get_or os j d).zones → Holds zs band z
    → IsFirst (EarlierHits (scene_of_job job) i (get_or zs z dz).corners band q) (Sooner Less) o
    → IsFirst (EarlierHits (scene_of_job job) i ((scene_of_job job).spots j band) band q) (Sooner Less) o
later_some job i j band z q os d zs dz o known f g holds first =
    subst (λ B. IsFirst (EarlierHits (scene_of_job job) i B band q) (Sooner Less) o) (corners_held job j band z os d zs dz known f g holds) first

pub later_none : (job : Job) (i j band : ℕ) (q : Point) (os : List Object) (d : Object) (zs : List Zone) → j < length job.objects → os ≡ job.objects → zs ≡ (get_or os j d).zones
    → IsFirst (Holds zs band) Less None → IsFirst (EarlierHits (scene_of_job job) i ((scene_of_job job).spots j band) band q) (Sooner Less) None
later_none job i j band q os d zs known f g none =
    λ k x. let y = x.1 in no_later_hit ((scene_of_job job).spots i k.0) ((scene_of_job job).spots j band) (get_or job.printer.parts k.1 no_part).corners q (none_held job j band (subst (λ t. IsFirst (Holds t band) Less None) (zones_are job j os d zs known f g) none)) y.2

pub later_band : (job : Job) (i j : ℕ) (q : Point) (band : ℕ) (s : ℕ × ℕ) (os : List Object) (d : Object) → j < length job.objects → os ≡ job.objects → band < (get_or os j d).bands
    → Below (LaterHits (scene_of_job job) i j q) band → IsFirst (EarlierHits (scene_of_job job) i ((scene_of_job job).spots j band) band q) (Sooner Less) (Some s)
    → IsFirst (LaterHits (scene_of_job job) i j q) (Sooner (Sooner Less)) (Some (band, s))
later_band job i j q band s os d known are less below f =
    let l : band < (object_at job j).bands = subst (λ (o : Object). band < o.bands) (any_default job.objects j d no_object known) (subst (λ (xs : List Object). band < (get_or xs j d).bands) are less) in
    sooner_some (LaterHits (scene_of_job job) i j q) (Sooner Less) band s below ((l, f.0), λ y p b. f.1 y p.1 b)

-- ---- zones
is_le : (a b : ℕ) → a ≤ b → nat_le a b ≡ true
is_le a b h = grind (arith, nat_tests)

meet_by : (earlier later : Zone) (part : Part) (b c : ℕ) → later.first ≤ b → b ≤ later.last → earlier.first ≤ c → c ≤ earlier.last → Meets part b c → ZonesMeet earlier part later
meet_by earlier later part b c bl bh cl ch meets = rw (is_le (later.first + part.lo) earlier.last (let l = meets.from_low in omega (arith, l, bl, ch)), reaches part.hi refl) refl
  where
    reaches : (hi : Option ℕ) → part.hi ≡ hi → reaches_to part.hi later.last earlier.first ≡ true
    reaches None e = ap (λ h. reaches_to h later.last earlier.first) e
    reaches (Some n) e =
        let h : c ≤ b + n = subst (λ t. MatchOption t (Unit {0}) (λ hi. c ≤ b + hi)) e meets.to_high in
        ap (λ h. reaches_to h later.last earlier.first) e ∙ is_le earlier.first (later.last + n) (omega (arith, h, cl, bh))

pub pair_of_bands : (job : Job) (i j : ℕ) (q : Point) (s : ℕ × (ℕ × ℕ)) → i < length job.objects → j < length job.objects → LaterHits (scene_of_job job) i j q s → SomePairHits job.printer.parts (zones_of job i) (zones_of job j) q
pair_of_bands job i j q s l m h = by (zone_of job i s.1.0) (zone_of job j s.0)
  where
    part : Part
    part = get_or job.printer.parts s.1.1 no_part

    hits : PartHits job.printer.parts ((scene_of_job job).spots i s.1.0) ((scene_of_job job).spots j s.0) s.0 s.1.0 q s.1.1
    hits = let e = h.1 in e.1

    by : Zoned job i s.1.0 ⊎ ((scene_of_job job).spots i s.1.0 ≡ []) → Zoned job j s.0 ⊎ ((scene_of_job job).spots j s.0 ≡ []) → SomePairHits job.printer.parts (zones_of job i) (zones_of job j) q
    by (inr e) z = absurd (no_earlier_hit ((scene_of_job job).spots i s.1.0) ((scene_of_job job).spots j s.0) part.corners q e hits.2)
    by (inl a) (inr e) = absurd (no_later_hit ((scene_of_job job).spots i s.1.0) ((scene_of_job job).spots j s.0) part.corners q e hits.2)
    by (inl a) (inl b) = record {
      z = b.z;
      known = b.known;
      hits = record {
        z = a.z;
        known = a.known;
        hits = record {
          k = s.1.1;
          known = hits.0;
          hits = (
            meet_by (zone_at job i a.z) (zone_at job j b.z) part s.0 s.1.0 b.low b.high a.low a.high hits.1,
            subst (λ A. Inner (difference A (zone_at job j b.z).corners part.corners) q) (spots_of_zone job i a.z s.1.0 l a.known a.low a.high)
                (subst (λ B. Inner (difference ((scene_of_job job).spots i s.1.0) B part.corners) q) (spots_of_zone job j b.z s.0 m b.known b.low b.high) hits.2),
          );
        };
      };
    }

pub no_pair : (job : Job) (i j : ℕ) (p q : Point) → i < length job.objects → j < length job.objects → p ≡ q → (SomePairHits job.printer.parts (zones_of job i) (zones_of job j) p → ⊥)
    → IsFirst (LaterHits (scene_of_job job) i j q) (Sooner (Sooner Less)) None
no_pair job i j p q l m same none = λ s h. none (subst (SomePairHits job.printer.parts (zones_of job i) (zones_of job j)) (sym same) (pair_of_bands job i j q s l m h))

-- ---- gaps
there : (l e d : ℤ) → (l -ℤ e) *ℤ (d *ℤ d) ≡ (l *ℤ d -ℤ e *ℤ d) *ℤ d
there l e d = simp expand (omega (arith, ints))

back : (l e d : ℤ) → (l *ℤ d -ℤ e *ℤ d) *ℤ d ≡ (l -ℤ e) *ℤ (d *ℤ d)
back l e d = simp expand (omega (arith, ints))

pub overlap_at_gap : (A B F : List Spot) (scale : ℤ) (e l : Place) → pos 1 ≤ℤ scale → Overlap A B F (place_point scale e) (place_point scale l) ↔ Inner (difference A B F) (gap scale e l)
overlap_at_gap A B F scale e l one =
    let p = place_point scale e in
    let r = place_point scale l in
    let is : IsPoint (gap scale e l) = record { positive = one } in
    let at : IsPoint p = record { positive = one } in
    let place : IsPoint r = record { positive = one } in (
      λ o. mean_of_same (pos 1) (difference A B F) (minus r p) (gap scale e l) is (record { x = back l.x e.x scale; y = back l.y e.y scale }) (inner_of_overlap A B F p r at o),
      λ m. overlap_of_inner A B F p r at place (mean_of_same (pos 1) (difference A B F) (gap scale e l) (minus r p) (minus_is_point r p place at) (record { x = there l.x e.x scale; y = there l.y e.y scale }) m),
    )

-- ---- hits
abbrev Numbers : Type 0
Numbers = ℕ × (ℕ × (ℕ × (ℕ × ℕ)))

abbrev numbers_of : Hit → Numbers
numbers_of h = (h.earlier, (h.later, (h.b, (h.c, h.part))))

hit_of : (scene : Scene) (scale : ℤ) (places : List Place) (s : Numbers) → pos 1 ≤ℤ scale → HitsAt scene scale places s → IsHit scene scale places (hit_by s)
hit_of scene scale places s one h =
    let after = h.1 in
    let later = after.2 in
    let earlier = later.1 in
    let part = earlier.1 in
    record {
      in_order = after.0;
      stands = after.1;
      band_of_later = later.0;
      band_of_earlier = earlier.0;
      part_of_scene = part.0;
      meets = part.1;
      overlap = (overlap_at_gap _ _ _ scale (nth places s.0) (nth places s.1.0) one).1 part.2;
    }

numbers_hit : (scene : Scene) (scale : ℤ) (places : List Place) (h : Hit) → pos 1 ≤ℤ scale → IsHit scene scale places h → HitsAt scene scale places (numbers_of h)
numbers_hit scene scale places h one is =
    let a = is.in_order in
    let b = is.stands in
    (omega (arith, a, b), (a, b, (is.band_of_later, (is.band_of_earlier, (is.part_of_scene, is.meets, (overlap_at_gap _ _ _ scale (nth places h.earlier) (nth places h.later) one).0 is.overlap)))))

pub first_hit_some : (scene : Scene) (scale scale' : ℤ) (places : List Place) (s : Numbers) → pos 1 ≤ℤ scale → scale' ≡ scale → IsFirst (HitsAt scene scale' places) (Sooner (Sooner (Sooner (Sooner Less)))) (Some s)
    → FirstHit scene scale places (Some (hit_by s))
first_hit_some scene scale scale' places s one same f =
    let g = subst (λ t. IsFirst (HitsAt scene t places) (Sooner (Sooner (Sooner (Sooner Less)))) (Some s)) same f in
    (hit_of scene scale places s one g.0, λ h k b. g.1 (numbers_of h) (numbers_hit scene scale places h one k) b)

pub first_hit_none : (scene : Scene) (scale scale' : ℤ) (places : List Place) → pos 1 ≤ℤ scale → scale' ≡ scale → IsFirst (HitsAt scene scale' places) (Sooner (Sooner (Sooner (Sooner Less)))) None
    → FirstHit scene scale places None
first_hit_none scene scale scale' places one same f =
    λ h k. subst (λ t. IsFirst (HitsAt scene t places) (Sooner (Sooner (Sooner (Sooner Less)))) None) same f (numbers_of h) (numbers_hit scene scale places h one k)

pub clear : {P : Type 0} {b : Bool} → b ≡ false → (b ≡ true) ↔ P → P → ⊥
clear {P} {b} e law p = let y : b ≡ true = law.1 p in cc
