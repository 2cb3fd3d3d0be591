-- The spots of near facets are near.
use Rattle.std.proofs.Common.{ℤ, pos, neg_ℤ, ◌*ℤ◌, ◌≤ℤ◌, ◌<ℤ◌, List, All, arith, flat_map}
use Rattle.std.proofs.lemmas.Int.{ints}
use Rattle.integer_laws.specs.Laws.Members.{All-in, All-from_in}
use Rattle.integer_laws.specs.Quotients.{floor}
use Rattle.integer_laws.specs.Laws.Quotients.{floor_is, least_quotient}
use Rattle.seq_model.specs.declared.mesh.Point3.{Point3}
use Rattle.seq_model.specs.declared.mesh.Facet.{Facet}
use Rattle.seq_model.specs.declared.printer.Spot.{Spot}
use Rattle.seq_model.specs.Bands.{facet_corners}
use Rattle.seq_model.specs.Bounds.{IsNear, IsNearFacet, IsNearSpot}
use Rattle.seq_model.specs.Outlines.{four_spots, spots}
use Rattle.seq_model.specs.Scenes.{Between}
use Rattle.outline_laws.specs.Corners as Corners
use Rattle.mesh_slices.proofs.Members.{all_flat}
use Rattle.mesh_slices.proofs.Holding.{Around, AroundFacet, AroundPoint, spot_below, spot_above, of_facet, of_four}

abbrev far_low : Point3
far_low = record { x = neg_ℤ (pos 10_000_000); y = neg_ℤ (pos 10_000_000); z = pos 0 }

abbrev far_high : Point3
far_high = record { x = pos 10_000_000; y = pos 10_000_000; z = pos 0 }

around : (p : Point3) → IsNear p → Around far_low far_high p
around p n = let x = n.x in let y = n.y in record { west = omega (arith, ints); east = omega (arith, ints); south = omega (arith, ints); north = omega (arith, ints) }

around_facet : (f : Facet) → IsNearFacet f → AroundFacet far_low far_high f
around_facet f n = record { a = around f.a n.a; b = around f.b n.b; c = around f.c n.c }

-- ten metres are at most a million grains of at least 10 µm
floor_far : (grain : ℤ) → pos 10 ≤ℤ grain → neg_ℤ (pos 1_000_000) ≤ℤ floor (neg_ℤ (pos 10_000_000)) grain
floor_far grain g =
    let p : pos 0 <ℤ grain = omega (arith, ints) in
    let f = floor_is (neg_ℤ (pos 10_000_000)) grain p in
    let e : (grain *ℤ neg_ℤ (pos 1_000_000)) ≤ℤ neg_ℤ (pos 10_000_000) = omega (arith, ints) in
    let high = f.high in
    least_quotient grain (neg_ℤ (pos 1_000_000)) (floor (neg_ℤ (pos 10_000_000)) grain) p (omega (arith, ints))

near_between : (grain margin : ℤ) (s : Spot) → pos 10 ≤ℤ grain → margin ≤ℤ pos 1_000 → Between (spot_below grain margin far_low) (spot_above grain margin far_high) s → IsNearSpot 1_001_000 s
near_between grain margin s g m b =
    let f = floor_far grain g in
    let west = b.west in
    let east = b.east in
    let south = b.south in
    let north = b.north in
    record { x = omega (arith, ints); y = omega (arith, ints) }

pub spots_near : (grain margin from to : ℤ) (facets : List Facet) → pos 10 ≤ℤ grain → pos 0 ≤ℤ margin → margin ≤ℤ pos 1_000 → All IsNearFacet facets
    → All (IsNearSpot 1_001_000) (spots grain margin (flat_map (facet_corners from to) facets))
spots_near grain margin from to facets g m n near =
    let low = spot_below grain margin far_low in
    let high = spot_above grain margin far_high in
    let all = all_flat (AroundPoint far_low far_high) (Between low high) (four_spots grain margin) (λ p a. of_four grain margin far_low far_high p (omega (arith, ints)) m a) (flat_map (facet_corners from to) facets)
    (all_flat IsNearFacet (AroundPoint far_low far_high) (facet_corners from to) (λ f k. of_facet far_low far_high from to f (around_facet f k)) facets near) in
    All-from_in (IsNearSpot 1_001_000) (spots grain margin (flat_map (facet_corners from to) facets)) (λ s i. near_between grain margin s g n (All-in (Between low high) (spots grain margin (flat_map (facet_corners from to) facets)) s all i))

pub facet_near : (grain margin from to : ℤ) (f : Facet) → pos 10 ≤ℤ grain → pos 0 ≤ℤ margin → margin ≤ℤ pos 1_000 → IsNearFacet f
    → All (IsNearSpot 1_001_000) (spots grain margin (facet_corners from to f))
facet_near grain margin from to f g m n near =
    let low = spot_below grain margin far_low in
    let high = spot_above grain margin far_high in
    let all = all_flat (AroundPoint far_low far_high) (Between low high) (four_spots grain margin) (λ p a. of_four grain margin far_low far_high p (omega (arith, ints)) m a) (facet_corners from to f) (of_facet far_low far_high from to f (around_facet f near)) in
    All-from_in (IsNearSpot 1_001_000) (spots grain margin (facet_corners from to f)) (λ s i. near_between grain margin s g n (All-in (Between low high) (spots grain margin (facet_corners from to f)) s all i))

pub points_positive : (from to : ℤ) (facets : List Facet) → All IsNearFacet facets → All (λ p. pos 0 <ℤ p.d) (flat_map (facet_corners from to) facets)
points_positive from to facets near =
    let points = flat_map (facet_corners from to) facets in
    let all = all_flat IsNearFacet (AroundPoint far_low far_high) (facet_corners from to) (λ f k. of_facet far_low far_high from to f (around_facet f k)) facets near in
    All-from_in (λ p. pos 0 <ℤ p.d) points (λ p i. (All-in (AroundPoint far_low far_high) points p all i).over)

pub near_enough : (S : List Spot) → All (IsNearSpot 1_001_000) S → All Corners.IsNarrow S
near_enough S all = All-from_in Corners.IsNarrow S (λ s i. near s (All-in (IsNearSpot 1_001_000) S s all i))
  where
    near : (s : Spot) → IsNearSpot 1_001_000 s → Corners.IsNarrow s
    near s n = let x = n.x in let y = n.y in (omega (arith, ints), omega (arith, ints))
