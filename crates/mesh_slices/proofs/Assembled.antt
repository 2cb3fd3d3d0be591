-- The object of a mesh, from its zones and its extremes.
use Rattle.std.proofs.Common.{◌≡◌, ◌≢◌, ℕ, suc, ◌<◌, ◌≤◌, ℤ, pos, neg_ℤ, ◌+ℤ◌, ◌*ℤ◌, ◌≤ℤ◌, ◌<ℤ◌, List, [], ◌∷◌, length, map, All, Contains, refl, sym, subst, ◌∙◌, arith, inl, inr}
use Rattle.std.proofs.lemmas.Int.{ints}
use Rattle.std.specs.List.{AllPairs}
use Rattle.integer_laws.specs.Members.{In}
use Rattle.integer_laws.specs.Laws.Members.{In-from_contains, Contains-from_in, All-in, All-from_in, In-map, In-map_cases}
use Rattle.seq_model.specs.declared.job.Object.{Object}
use Rattle.seq_model.specs.declared.job.Zone.{Zone}
use Rattle.seq_model.specs.declared.mesh.Facet.{Facet}
use Rattle.seq_model.specs.declared.printer.Printer.{Printer}
use Rattle.seq_model.specs.declared.printer.Spot.{Spot}
use Rattle.seq_model.specs.Bands.{corner_points, least_z, height_of, band_count}
use Rattle.seq_model.specs.Bounds.{IsNearFacet, IsNearSpot}
use Rattle.seq_model.specs.Outlines.{Within}
use Rattle.seq_model.specs.Scenes.{Between, SomeSpot, Spans}
use Rattle.seq_model.specs.Soundness.{IsSoundZone, AreSoundZones, AreExtremes, corners_of}
use Rattle.integer_laws.specs.Extremes.{least, greatest}
use Rattle.seq_model.specs.Points.{at_spot}
use Rattle.outline_laws.specs.Laws.Means.{within_at_most}
use Rattle.mesh_slices.specs.Objects.{spots_in, IsOutlineOf, HoldsBand, LiesInOneZone, AreZonesOf, IsObjectOf}
use Rattle.mesh_slices.specs.Runs.{IsRunOf, Holds, AreRunsOf}
use Rattle.mesh_slices.proofs.Grown.{no_corners}
use Rattle.mesh_slices.proofs.Nearness.{spots_near, points_positive}
use Rattle.mesh_slices.proofs.Outlines.{near_members}
use Rattle.mesh_slices.proofs.Polygons.{outline_has_area}
use Rattle.mesh_slices.proofs.Members.{to_flat, all_flat}
use Rattle.mesh_slices.proofs.Running.{least_below, greatest_above, least_reached, greatest_reached}

-- ---- exactly one zone
pub first_pairs : (R : Zone → Zone → Type 0) (x : Zone) (xs : List Zone) → AllPairs R (x ∷ xs) → All (R x) xs
first_pairs R x xs all k d h = all 0 (suc k) d (omega arith) (omega arith)

pub rest_pairs : (R : Zone → Zone → Type 0) (x : Zone) (xs : List Zone) → AllPairs R (x ∷ xs) → AllPairs R xs
rest_pairs R x xs all i j d p q = all (suc i) (suc j) d (omega arith) (omega arith)

abbrev pub Rise : Zone → Zone → Type 0
Rise y z = y.last < z.first

apart : (y z : Zone) (b : ℕ) → Rise y z → HoldsBand b y → HoldsBand b z → ⊥
apart y z b r h k = let p = h.to in let q = k.from in absurd (omega arith)

one_zone : (zones : List Zone) → AllPairs Rise zones → (b : ℕ) (y z : Zone) → In y zones → In z zones → HoldsBand b y → HoldsBand b z → y ≡ z
one_zone [] r b y z i j h k = absurd i
one_zone (x ∷ xs) r b y z (inl e) (inl f) h k = e ∙ sym f
one_zone (x ∷ xs) r b y z (inl e) (inr j) h k = absurd (apart x z b (All-in (Rise x) xs z (first_pairs Rise x xs r) j) (subst (HoldsBand b) e h) k)
one_zone (x ∷ xs) r b y z (inr i) (inl f) h k = absurd (apart x y b (All-in (Rise x) xs y (first_pairs Rise x xs r) i) (subst (HoldsBand b) f k) h)
one_zone (x ∷ xs) r b y z (inr i) (inr j) h k = one_zone xs (rest_pairs Rise x xs r) b y z i j h k

zones_are : (S : ℕ → List Spot) (n : ℕ) (zones : List Zone) → AreRunsOf S n zones → AreZonesOf S n zones
zones_are S n zones r = record { with_spots = with_spots; without_spots = without_spots; longest = r.longest }
  where
    with_spots : (b : ℕ) → b < n → S b ≢ [] → LiesInOneZone (S b) zones b
    with_spots b h some =
        let held = r.held b h some in
        record {
          zone = held.zone;
          member = Contains-from_in zones held.zone held.member;
          holds = held.holds;
          outline = (All-in (IsRunOf S n) zones held.zone r.each held.member).outline b held.holds;
          only = All-from_in (λ z. HoldsBand b z → z ≡ held.zone) zones (λ z i k. one_zone zones r.rise b z held.zone i held.member k held.holds);
        }

    without_spots : (b : ℕ) → b < n → S b ≡ [] → All (λ z. HoldsBand b z → ⊥) zones
    without_spots b h e = All-from_in (λ z. HoldsBand b z → ⊥) zones (λ z i k. let run = All-in (IsRunOf S n) zones z r.each i in run.some (no_corners z.corners (subst (λ l. IsOutlineOf l z.corners) e (run.outline b k))))

-- ---- sound zones
first_band : (S : ℕ → List Spot) (n : ℕ) (z : Zone) → IsRunOf S n z → IsOutlineOf (S z.first) z.corners
first_band S n z r = let h = r.rises in r.outline z.first (record { from = omega arith; to = h })

sound_zone : (printer : Printer) (facets : List Facet) (n : ℕ) (z : Zone) → All IsNearFacet facets → IsRunOf (spots_in printer facets) n z → IsSoundZone z
sound_zone printer facets n z near r =
    let p = printer.ranged in
    let S = spots_in printer facets z.first in
    let o = first_band (spots_in printer facets) n z r in
    let low = least_z facets +ℤ printer.step *ℤ pos z.first in
    let margin : pos 0 ≤ℤ printer.margin = omega (arith, ints, p.margin_low) in
    let grain : pos 0 <ℤ printer.grain = omega (arith, ints, p.grain_low) in
    record {
      corners = o.corners;
      area = outline_has_area printer.grain printer.margin (corner_points facets printer.step z.first) z.corners grain p.margin_low (points_positive low (low +ℤ printer.step) facets near) (λ e. r.some (no_corners z.corners (subst (λ l. IsOutlineOf l z.corners) e o))) o;
      near = near_members (IsNearSpot 1_001_000) S z.corners (spots_near printer.grain printer.margin low (low +ℤ printer.step) facets p.grain_low margin p.margin_high near) o.members;
      rises = r.rises;
    }

some_zone : (zones : List Zone) (b : ℕ) → Holds zones b → 1 ≤ length zones
some_zone [] b h = absurd h.member
some_zone (z ∷ zones) b h = omega arith

filled : (S : List Spot) (s : Spot) → Contains S s → S ≢ []
filled S s c e = In-from_contains [] s (subst (λ l. Contains l s) e c)

-- ---- extremes
some_of : (ns : List ℤ) (m : ℤ) → In m ns → 0 < length ns
some_of [] m i = absurd i
some_of (n ∷ ns) m i = omega arith

is_least : (ns : List ℤ) (n m : ℤ) → In m ns → ((k : ℤ) → In k ns → n ≤ℤ k) → least ns ≤ℤ n → n ≡ least ns
is_least ns n m i below h = let g = below (least ns) (least_reached ns (some_of ns m i)) in omega (arith, ints)

is_greatest : (ns : List ℤ) (n m : ℤ) → In m ns → ((k : ℤ) → In k ns → k ≤ℤ n) → n ≤ℤ greatest ns → n ≡ greatest ns
is_greatest ns n m i above h = let g = above (greatest ns) (greatest_reached ns (some_of ns m i)) in omega (arith, ints)

-- the first of some corners
some_corner : (C : List Spot) → C ≢ [] → (c : Spot) × In c C
some_corner [] some = absurd (some refl)
some_corner (c ∷ C) some = (c, inl refl)

abbrev AllCorners : (Spot → Type 0) → List Zone → Type 0
AllCorners P zones = All (λ (z : Zone). All P z.corners) zones

low_x : (n : ℤ) (C : List Spot) (s : Spot) → ((c : Spot) → In c C → n ≤ℤ c.x) → Within C (at_spot s) → n ≤ℤ s.x
low_x n C s f w = let m = within_at_most (neg_ℤ (pos 1)) (pos 0) (neg_ℤ n) C (at_spot s) (λ c i. let h = f c i in omega (arith, ints)) w in omega (arith, ints)

low_y : (n : ℤ) (C : List Spot) (s : Spot) → ((c : Spot) → In c C → n ≤ℤ c.y) → Within C (at_spot s) → n ≤ℤ s.y
low_y n C s f w = let m = within_at_most (pos 0) (neg_ℤ (pos 1)) (neg_ℤ n) C (at_spot s) (λ c i. let h = f c i in omega (arith, ints)) w in omega (arith, ints)

high_x : (n : ℤ) (C : List Spot) (s : Spot) → ((c : Spot) → In c C → c.x ≤ℤ n) → Within C (at_spot s) → s.x ≤ℤ n
high_x n C s f w = let m = within_at_most (pos 1) (pos 0) n C (at_spot s) (λ c i. let h = f c i in omega (arith, ints)) w in omega (arith, ints)

high_y : (n : ℤ) (C : List Spot) (s : Spot) → ((c : Spot) → In c C → c.y ≤ℤ n) → Within C (at_spot s) → s.y ≤ℤ n
high_y n C s f w = let m = within_at_most (pos 0) (pos 1) n C (at_spot s) (λ c i. let h = f c i in omega (arith, ints)) w in omega (arith, ints)

module _ (printer : Printer) (facets : List Facet) (n : ℕ) (zones : List Zone) (low high : Spot) (count : n ≡ band_count facets printer.step) (runs : AreRunsOf (spots_in printer facets) n zones)
    (spans : Spans n (spots_in printer facets) low high) where
  abbrev S : ℕ → List Spot
  S = spots_in printer facets

  -- each corner lies between the extremes
  corner_between : (z : Zone) → In z zones → (s : Spot) → In s z.corners → Between low high s
  corner_between z i s j =
      let run = All-in (IsRunOf S n) zones z runs.each i in
      let o = first_band S n z run in
      let p = run.rises in
      let q = run.below_count in
      let h : z.first < n = omega arith in
      All-in (Between low high) (S z.first) s (spans.holds z.first h) (In-from_contains (S z.first) s (All-in (Contains (S z.first)) z.corners s o.members j))

  corners_between : (P : Spot → Type 0) → ((s : Spot) → Between low high s → P s) → AllCorners P zones
  corners_between P f = All-from_in (λ z. All P z.corners) zones (λ z i. All-from_in P z.corners (λ s j. f s (corner_between z i s j)))

  -- a spot that is so lies within the corners of a zone
  record Seen (P : Spot → Type 0) : Type 0 where
    spot : Spot
    zone : Zone
    member : In zone zones
    band : ℕ
    holds : HoldsBand band zone
    within : Within zone.corners (at_spot spot)
    so : P spot

  seen : (P : Spot → Type 0) → SomeSpot n S P → Seen P
  seen P w =
      let held = runs.held w.band w.below_count (filled (S w.band) w.spot w.member) in
      let o = (All-in (IsRunOf S n) zones held.zone runs.each held.member).outline w.band held.holds in
      record {
        spot = w.spot;
        zone = held.zone;
        member = held.member;
        band = w.band;
        holds = held.holds;
        within = All-in (λ t. Within held.zone.corners (at_spot t)) (S w.band) w.spot o.within (In-from_contains (S w.band) w.spot w.member);
        so = w.so;
      }

  -- a corner's coordinate is one of those of all corners
  in_corners : (coordinate : Spot → ℤ) (z : Zone) → In z zones → (c : Spot) → In c z.corners → In (coordinate c) (map coordinate (corners_of zones))
  in_corners coordinate z i c j = In-map coordinate (corners_of zones) c (In-from_contains (corners_of zones) c (to_flat (λ y. y.corners) c z zones i (Contains-from_in z.corners c j)))

  -- what holds of all corners between the extremes holds of all coordinates
  each_one : (coordinate : Spot → ℤ) (Q : ℤ → Type 0) → ((s : Spot) → Between low high s → Q (coordinate s)) → (k : ℤ) → In k (map coordinate (corners_of zones)) → Q k
  each_one coordinate Q f k i =
      let m = In-map_cases coordinate (corners_of zones) k i in
      subst Q (sym m.2) (All-in (λ s. Q (coordinate s)) (corners_of zones) m.0 (all_flat (λ z. All (λ s. Q (coordinate s)) z.corners) (λ s. Q (coordinate s)) (λ z. z.corners) (λ z a. a) zones (corners_between (λ s. Q (coordinate s)) f)) m.1)

  some_coordinate : (P : Spot → Type 0) (coordinate : Spot → ℤ) → Seen P → (m : ℤ) × In m (map coordinate (corners_of zones))
  some_coordinate P coordinate w =
      let c = some_corner w.zone.corners (All-in (IsRunOf S n) zones w.zone runs.each w.member).some in
      (coordinate c.0, in_corners coordinate w.zone w.member c.0 c.1)

  extremes_are : AreExtremes low high zones
  extremes_are =
      let xs = map (λ s. s.x) (corners_of zones) in
      let ys = map (λ s. s.y) (corners_of zones) in
      let west = seen (λ s. s.x ≡ low.x) spans.west in
      let east = seen (λ s. s.x ≡ high.x) spans.east in
      let south = seen (λ s. s.y ≡ low.y) spans.south in
      let north = seen (λ s. s.y ≡ high.y) spans.north in
      let w = some_coordinate (λ s. s.x ≡ low.x) (λ s. s.x) west in
      let e = some_coordinate (λ s. s.x ≡ high.x) (λ s. s.x) east in
      let u = some_coordinate (λ s. s.y ≡ low.y) (λ s. s.y) south in
      let v = some_coordinate (λ s. s.y ≡ high.y) (λ s. s.y) north in
      record {
        west = is_least xs low.x w.0 w.1 (each_one (λ s. s.x) (λ k. low.x ≤ℤ k) (λ s b. b.west))
            (subst (λ x. least xs ≤ℤ x) west.so (low_x (least xs) west.zone.corners west.spot (λ c i. All-in (λ k. least xs ≤ℤ k) xs c.x (least_below xs) (in_corners (λ s. s.x) west.zone west.member c i)) west.within));
        east = is_greatest xs high.x e.0 e.1 (each_one (λ s. s.x) (λ k. k ≤ℤ high.x) (λ s b. b.east))
            (subst (λ x. x ≤ℤ greatest xs) east.so (high_x (greatest xs) east.zone.corners east.spot (λ c i. All-in (λ k. k ≤ℤ greatest xs) xs c.x (greatest_above xs) (in_corners (λ s. s.x) east.zone east.member c i)) east.within));
        south = is_least ys low.y u.0 u.1 (each_one (λ s. s.y) (λ k. low.y ≤ℤ k) (λ s b. b.south))
            (subst (λ y. least ys ≤ℤ y) south.so (low_y (least ys) south.zone.corners south.spot (λ c i. All-in (λ k. least ys ≤ℤ k) ys c.y (least_below ys) (in_corners (λ s. s.y) south.zone south.member c i)) south.within));
        north = is_greatest ys high.y v.0 v.1 (each_one (λ s. s.y) (λ k. k ≤ℤ high.y) (λ s b. b.north))
            (subst (λ y. y ≤ℤ greatest ys) north.so (high_y (greatest ys) north.zone.corners north.spot (λ c i. All-in (λ k. k ≤ℤ greatest ys) ys c.y (greatest_above ys) (in_corners (λ s. s.y) north.zone north.member c i)) north.within));
      }

  sound_zones : All IsNearFacet facets → AreSoundZones n zones
  sound_zones near =
      let west = seen (λ s. s.x ≡ low.x) spans.west in
      record {
        some = some_zone zones west.band (record { zone = west.zone; member = west.member; holds = west.holds });
        each = All-from_in IsSoundZone zones (λ z i. sound_zone printer facets n z near (All-in (IsRunOf S n) zones z runs.each i));
        rise = runs.rise;
        end = All-from_in (λ z. z.last < n) zones (λ z i. (All-in (IsRunOf S n) zones z runs.each i).below_count);
      }

-- ---- the object
pub object_is : (printer : Printer) (facets : List Facet) (name : List ℕ) (o : Object) → All IsNearFacet facets → o.name ≡ name → o.height ≡ height_of facets → o.bands ≡ band_count facets printer.step → o.bands ≤ 200
    → AreRunsOf (spots_in printer facets) o.bands o.zones → Spans o.bands (spots_in printer facets) o.low o.high → IsObjectOf name facets printer o
object_is printer facets name o near named height bands few runs spans = record {
  named = named;
  height = height;
  bands = bands;
  zones = zones_are (spots_in printer facets) o.bands o.zones runs;
  spans = spans;
  sound = record {
    few_bands = few;
    zones = sound_zones printer facets o.bands o.zones o.low o.high bands runs spans near;
    extremes = extremes_are printer facets o.bands o.zones o.low o.high bands runs spans;
  };
}
