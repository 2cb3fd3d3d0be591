-- An object's low and high are the spans of its scene.
--
--   corner_zone, zone_corner a corner of the zones is one of a zone's, by the zone's number
--   corners_some       an object has corners
--   between            each corner of an object lies from its low to its high
--   least_at, greatest_at    some corner reaches the least number, and some the greatest
--   object_spans       so these are the spans of the scene of the job
use Rattle.std.proofs.Common.{◌≡◌, ℕ, zero, suc, ◌<◌, ◌≤◌, List, [], ◌∷◌, length, get_or, map, fold, refl, sym, subst, ap, ◌∙◌, arith, ℤ, ◌≤ℤ◌, ◌⊎◌, inl, inr, All, Contains, Option, Some, None}
use Rattle.std.proofs.lemmas.Int.{fold-int_min_bounds, fold-int_min_reached}
use Rattle.std.specs.Int.{int_min}
use Rattle.std.specs.Prelude.{find}
use Rattle.integer_laws.specs.Extremes.{least, greatest}
use Rattle.integer_laws.specs.Laws.Extremes.{greatest_is}
use Rattle.integer_laws.specs.Members.{In}
use Rattle.integer_laws.specs.Laws.Members.{In-from_contains, Contains-from_in, In-append_left, In-append_right, In-append_cases, In-map, In-map_cases, All-in, All-from_in}
use Rattle.model_laws.specs.Laws.Collisions.{find_some, sound_object, sound_zone, spots_of_zone, below_bands}
use Rattle.seq_model.specs.Jobs.{bands_of, no_zone, object_at, zone_at, holds_band, corners_or_none, scene_of_job}
use Rattle.seq_model.specs.Scenes.{Between, SomeSpot, Spans}
use Rattle.seq_model.specs.Soundness.{corners_of}
use Rattle.seq_model.specs.declared.job.Job.{Job}
use Rattle.seq_model.specs.declared.job.Zone.{Zone}
use Rattle.seq_model.specs.declared.printer.Spot.{Spot}

-- ---- the least
record IsLeast (f : Spot → ℤ) (S : List Spot) (g : ℤ) : Type 0 where
  bound : (s : Spot) → In s S → g ≤ℤ f s
  at : Spot
  member : In at S
  reached : f at ≡ g

least_is : (f : Spot → ℤ) (x : Spot) (xs : List Spot) → IsLeast f (x ∷ xs) (least (map f (x ∷ xs)))
least_is f x xs = by (fold-int_min_reached (f x) (map f xs) g refl)
  where
    g : ℤ
    g = fold int_min (f x) (map f xs)

    most : (g ≤ℤ f x) × All (λ v. g ≤ℤ v) (map f xs)
    most = fold-int_min_bounds (f x) (map f xs) g refl

    bound : (y : Spot) → In y (x ∷ xs) → g ≤ℤ f y
    bound y (inl e) = subst (λ t. g ≤ℤ f t) (sym e) most.0
    bound y (inr i) = All-in (λ v. g ≤ℤ v) (map f xs) (f y) most.1 (In-map f xs y i)

    by : (g ≡ f x) ⊎ Contains (map f xs) g → IsLeast f (x ∷ xs) g
    by (inl e) = record { bound = bound; at = x; member = inl refl; reached = sym e }
    by (inr c) =
        let m = In-map_cases f xs g (In-from_contains (map f xs) g c) in
        record { bound = bound; at = m.0; member = inr m.1; reached = sym m.2 }

-- ---- corners by the number of their zone
abbrev pub InZone : List Zone → Spot → Type 0
InZone zones s = (k : ℕ) × (k < length zones) × In s (get_or zones k no_zone).corners

pub corner_zone : (zones : List Zone) (s : Spot) → In s (corners_of zones) → InZone zones s
corner_zone [] s i = absurd i
corner_zone (z ∷ zones) s i = by (In-append_cases z.corners (corners_of zones) s i) (λ j. corner_zone zones s j)
  where
    by : In s z.corners ⊎ In s (corners_of zones) → (In s (corners_of zones) → InZone zones s) → InZone (z ∷ zones) s
    by (inl j) rest = (0, omega arith, j)
    by (inr j) rest = let r = rest j in (suc r.0, omega (arith, r.1), r.2)

pub zone_corner : (zones : List Zone) (k : ℕ) (s : Spot) → k < length zones → In s (get_or zones k no_zone).corners → In s (corners_of zones)
zone_corner [] k s l i = absurd (omega (arith, l))
zone_corner (z ∷ zones) zero s l i = In-append_left z.corners (corners_of zones) s i
zone_corner (z ∷ zones) (suc k) s l i = In-append_right z.corners (corners_of zones) s (zone_corner zones k s (omega (arith, l)) i)

-- a spot of a band is a corner of a zone
spot_corner : (job : Job) (o b : ℕ) (s : Spot) → In s ((scene_of_job job).spots o b) → In s (corners_of (object_at job o).zones)
spot_corner job o b s i = by (find (holds_band b) (object_at job o).zones) refl i
  where
    by : (z : Option Zone) → find (holds_band b) (object_at job o).zones ≡ z → In s (corners_or_none z) → In s (corners_of (object_at job o).zones)
    by None e i = absurd i
    by (Some z) e i =
        let f = find_some b (object_at job o).zones z e in
        zone_corner (object_at job o).zones f.place s f.in_list (subst (λ (y : Zone). In s y.corners) (sym (f.is no_zone)) i)

-- ---- an object with zones has corners
pub record SomeCorner (S : List Spot) : Type 0 where
  pub first : Spot
  pub rest : List Spot
  pub are : S ≡ first ∷ rest

some_corner : (S : List Spot) (s : Spot) → In s S → SomeCorner S
some_corner [] s i = absurd i
some_corner (x ∷ xs) s i = record { first = x; rest = xs; are = refl }

pub corners_some : (job : Job) (o : ℕ) → o < length job.objects → SomeCorner (corners_of (object_at job o).zones)
corners_some job o l =
    let sound = sound_object job o l in
    let zone = sound_zone job o 0 l (omega (arith, sound.zones.some)) in
    let c = in_first (zone_at job o 0).corners zone.area in
    some_corner (corners_of (object_at job o).zones) c.0 (zone_corner (object_at job o).zones 0 c.0 (omega (arith, sound.zones.some)) c.1)
  where
    in_first : (S : List Spot) → 3 ≤ length S → (s : Spot) × In s S
    in_first [] h = absurd (omega (arith, h))
    in_first (x ∷ xs) h = (x, inl refl)

pub between : (job : Job) (o : ℕ) (s : Spot) → o < length job.objects → In s (corners_of (object_at job o).zones) → Between (object_at job o).low (object_at job o).high s
between job o s l i =
    let x = (sound_object job o l).extremes in
    let c = corners_some job o l in
    let S = corners_of (object_at job o).zones in
    let low_x = subst (λ t. IsLeast (λ s. s.x) t (least (map (λ (s : Spot). s.x) t))) (sym c.are) (least_is (λ s. s.x) c.first c.rest) in
    let low_y = subst (λ t. IsLeast (λ s. s.y) t (least (map (λ (s : Spot). s.y) t))) (sym c.are) (least_is (λ s. s.y) c.first c.rest) in
    let high_x = (subst (λ t. (s : Spot) → In s t → s.x ≤ℤ greatest (map (λ (s : Spot). s.x) t)) (sym c.are) (greatest_is (λ (s : Spot). s.x) c.first c.rest).bound) s i in
    let high_y = (subst (λ t. (s : Spot) → In s t → s.y ≤ℤ greatest (map (λ (s : Spot). s.y) t)) (sym c.are) (greatest_is (λ (s : Spot). s.y) c.first c.rest).bound) s i in
    record {
      west = subst (λ t. t ≤ℤ s.x) (sym x.west) (low_x.bound s i);
      east = subst (λ t. s.x ≤ℤ t) (sym x.east) high_x;
      south = subst (λ t. t ≤ℤ s.y) (sym x.south) (low_y.bound s i);
      north = subst (λ t. s.y ≤ℤ t) (sym x.north) high_y;
    }

-- ---- a corner is a spot of the first band of its zone
abbrev pub Reaching : List Spot → (Spot → Type 0) → Type 0
Reaching S IsSo = (s : Spot) × In s S × IsSo s

some_spot : (job : Job) (o : ℕ) (IsSo : Spot → Type 0) → o < length job.objects → Reaching (corners_of (object_at job o).zones) IsSo → SomeSpot (bands_of job o) ((scene_of_job job).spots o) IsSo
some_spot job o IsSo l r =
    let z = corner_zone (object_at job o).zones r.0 r.1 in
    let zone = sound_zone job o z.0 l z.1 in
    let first = (zone_at job o z.0).first in
    record {
      band = first;
      spot = r.0;
      below_count = below_bands job o z.0 first l z.1 zone.rises;
      member = Contains-from_in ((scene_of_job job).spots o first) r.0 (subst (In r.0) (sym (spots_of_zone job o z.0 first l z.1 (omega arith) zone.rises)) z.2);
      so = r.2;
    }

pub least_at : (f : Spot → ℤ) (S : List Spot) (g : ℤ) → SomeCorner S → g ≡ least (map f S) → Reaching S (λ s. f s ≡ g)
least_at f S g c e =
    let m = least_is f c.first c.rest in
    subst (λ t. Reaching t (λ s. f s ≡ g)) (sym c.are) (m.at, m.member, m.reached ∙ sym (e ∙ ap (λ t. least (map f t)) c.are))

pub greatest_at : (f : Spot → ℤ) (S : List Spot) (g : ℤ) → SomeCorner S → g ≡ greatest (map f S) → Reaching S (λ s. f s ≡ g)
greatest_at f S g c e =
    let m = greatest_is f c.first c.rest in
    subst (λ t. Reaching t (λ s. f s ≡ g)) (sym c.are) (m.at, m.member, m.reached ∙ sym (e ∙ ap (λ t. greatest (map f t)) c.are))

pub object_spans : (job : Job) (o : ℕ) → o < length job.objects → Spans (bands_of job o) ((scene_of_job job).spots o) (object_at job o).low (object_at job o).high
object_spans job o l =
    let x = (sound_object job o l).extremes in
    let c = corners_some job o l in
    let low = (object_at job o).low in
    let high = (object_at job o).high in
    let S = corners_of (object_at job o).zones in
    record {
      holds = λ b h. All-from_in (Between low high) ((scene_of_job job).spots o b) (λ s i. between job o s l (spot_corner job o b s i));
      west = some_spot job o (λ s. s.x ≡ low.x) l (least_at (λ s. s.x) S low.x c x.west);
      east = some_spot job o (λ s. s.x ≡ high.x) l (greatest_at (λ s. s.x) S high.x c x.east);
      south = some_spot job o (λ s. s.y ≡ low.y) l (least_at (λ s. s.y) S low.y c x.south);
      north = some_spot job o (λ s. s.y ≡ high.y) l (greatest_at (λ s. s.y) S high.y c x.north);
    }
