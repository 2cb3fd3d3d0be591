-- Every spot of every band lies between the spots round the extremes of the vertices.
use Rattle.std.proofs.Common.{◌≡◌, ℕ, ℤ, pos, ◌+ℤ◌, ◌-ℤ◌, ◌*ℤ◌, ◌≤ℤ◌, ◌<ℤ◌, List, [], ◌∷◌, ◌++◌, All, ◌&&◌, arith}
use Rattle.std.proofs.lemmas.Int.{ints}
use Rattle.std.proofs.lemmas.List.Elements.{All-nil, All-cons, All-append}
use Rattle.std.specs.Int.Signed.{lt_z, le_z}
use Rattle.std.proofs.lemmas.Bool.{and_parts}
use Rattle.integer_laws.specs.Laws.Order.{mul_le, mul_positive, add_le, le_from}
use Rattle.integer_laws.specs.Laws.Ring.{expand}
use Rattle.integer_laws.specs.Laws.Quotients.{floor_below, ceil_above, floor_le_ceil}
use Rattle.seq_model.specs.declared.mesh.Point3.{Point3}
use Rattle.seq_model.specs.declared.mesh.Facet.{Facet}
use Rattle.seq_model.specs.declared.printer.Spot.{Spot}
use Rattle.seq_model.specs.Bands.{vertex_in, crossing_up, crossing, crossings, facet_corners, corner_points, least_z}
use Rattle.seq_model.specs.Outlines.{below, above, four_spots, spots}
use Rattle.seq_model.specs.Points.{Point}
use Rattle.seq_model.specs.Scenes.{Between}
use Rattle.mesh_slices.proofs.Members.{all_flat, all_if}
use borrow.Author.Differences.{product_is, lt-true}

-- a vertex lies between the corners low and high, in x and in y
pub record Around (low high p : Point3) : Type 0 where
  pub west : low.x ≤ℤ p.x
  pub east : p.x ≤ℤ high.x
  pub south : low.y ≤ℤ p.y
  pub north : p.y ≤ℤ high.y

pub record AroundFacet (low high : Point3) (f : Facet) : Type 0 where
  pub a : Around low high f.a
  pub b : Around low high f.b
  pub c : Around low high f.c

-- so does a corner point, over its denominator
pub record AroundPoint (low high : Point3) (p : Point) : Type 0 where
  pub over : pos 0 <ℤ p.d
  pub west : (p.d *ℤ low.x) ≤ℤ p.x
  pub east : p.x ≤ℤ (p.d *ℤ high.x)
  pub south : (p.d *ℤ low.y) ≤ℤ p.y
  pub north : p.y ≤ℤ (p.d *ℤ high.y)

of_vertex : (low high : Point3) (from to : ℤ) (p : Point3) → Around low high p → All (AroundPoint low high) (vertex_in from to p)
of_vertex low high from to p a =
    all_if (AroundPoint low high) (le_z from p.z && le_z p.z to) (record { x = p.x; y = p.y; d = pos 1 }) (λ t. record {
      over = omega (arith, ints);
      west = omega (arith, ints, product_is, a.west);
      east = omega (arith, ints, product_is, a.east);
      south = omega (arith, ints, product_is, a.south);
      north = omega (arith, ints, product_is, a.north);
    })

-- a mean of two numbers lies where both lie
mean_above : (w a b x y d : ℤ) → pos 0 ≤ℤ x → pos 0 ≤ℤ y → d ≡ x +ℤ y → w ≤ℤ a → w ≤ℤ b → (d *ℤ w) ≤ℤ (a *ℤ x +ℤ b *ℤ y)
mean_above w a b x y d hx hy e ha hb = rw e (le_from (add_le (mul_le x hx ha) (mul_le y hy hb)) (simp expand (omega (arith, ints))))

mean_below : (w a b x y d : ℤ) → pos 0 ≤ℤ x → pos 0 ≤ℤ y → d ≡ x +ℤ y → a ≤ℤ w → b ≤ℤ w → (a *ℤ x +ℤ b *ℤ y) ≤ℤ (d *ℤ w)
mean_below w a b x y d hx hy e ha hb = rw e (le_from (add_le (mul_le x hx ha) (mul_le y hy hb)) (simp expand (omega (arith, ints))))

of_crossing_up : (low high : Point3) (h : ℤ) (p q : Point3) → Around low high p → Around low high q → All (AroundPoint low high) (crossing_up h p q)
of_crossing_up low high h p q a b =
    all_if (AroundPoint low high) (lt_z p.z h && lt_z h q.z) (record { x = p.x *ℤ (q.z -ℤ h) +ℤ q.x *ℤ (h -ℤ p.z); y = p.y *ℤ (q.z -ℤ h) +ℤ q.y *ℤ (h -ℤ p.z); d = q.z -ℤ p.z }) (λ t.
    let c = and_parts (lt_z p.z h) (lt_z h q.z) t in
    let under = lt-true p.z h c.0 in
    let over = lt-true h q.z c.1 in
    let x : pos 0 ≤ℤ (q.z -ℤ h) = omega (arith, ints, under, over) in
    let y : pos 0 ≤ℤ (h -ℤ p.z) = omega (arith, ints, under, over) in
    let d : q.z -ℤ p.z ≡ (q.z -ℤ h) +ℤ (h -ℤ p.z) = omega (arith, ints) in
    record {
      over = omega (arith, ints, under, over);
      west = mean_above low.x p.x q.x _ _ _ x y d a.west b.west;
      east = mean_below high.x p.x q.x _ _ _ x y d a.east b.east;
      south = mean_above low.y p.y q.y _ _ _ x y d a.south b.south;
      north = mean_below high.y p.y q.y _ _ _ x y d a.north b.north;
    })

of_crossing : (low high : Point3) (h : ℤ) (p q : Point3) → Around low high p → Around low high q → All (AroundPoint low high) (crossing h p q)
of_crossing low high h p q a b =
    All-append (AroundPoint low high) (crossing_up h p q) (crossing_up h q p) (of_crossing_up low high h p q a b) (of_crossing_up low high h q p b a)

of_crossings : (low high : Point3) (h : ℤ) (f : Facet) → AroundFacet low high f → All (AroundPoint low high) (crossings h f)
of_crossings low high h f a =
    let P : Point → Type 0 = AroundPoint low high in
    All-append P (crossing h f.a f.b) (crossing h f.b f.c ++ crossing h f.c f.a) (of_crossing low high h f.a f.b a.a a.b)
    (All-append P (crossing h f.b f.c) (crossing h f.c f.a) (of_crossing low high h f.b f.c a.b a.c) (of_crossing low high h f.c f.a a.c a.a))

pub of_facet : (low high : Point3) (from to : ℤ) (f : Facet) → AroundFacet low high f → All (AroundPoint low high) (facet_corners from to f)
of_facet low high from to f a =
    let P : Point → Type 0 = AroundPoint low high in
    All-append P (vertex_in from to f.a ++ (vertex_in from to f.b ++ vertex_in from to f.c)) (crossings from f ++ crossings to f)
    (All-append P (vertex_in from to f.a) (vertex_in from to f.b ++ vertex_in from to f.c) (of_vertex low high from to f.a a.a)
    (All-append P (vertex_in from to f.b) (vertex_in from to f.c) (of_vertex low high from to f.b a.b) (of_vertex low high from to f.c a.c)))
    (All-append P (crossings from f) (crossings to f) (of_crossings low high from f a) (of_crossings low high to f a))

all_of_corners : (P : Spot → Type 0) (a b c d : Spot) → P a → P b → P c → P d → All P (a ∷ b ∷ c ∷ d ∷ [])
all_of_corners P a b c d pa pb pc pd = All-cons P a (b ∷ c ∷ d ∷ []) pa (All-cons P b (c ∷ d ∷ []) pb (All-cons P c (d ∷ []) pc (All-cons P d [] pd (All-nil P))))

-- the spots below and above the corners of the vertices
abbrev pub spot_below : ℤ → ℤ → Point3 → Spot
spot_below grain margin p = record { x = below margin p.x grain; y = below margin p.y grain }

abbrev pub spot_above : ℤ → ℤ → Point3 → Spot
spot_above grain margin p = record { x = above margin p.x grain; y = above margin p.y grain }

pub of_four : (grain margin : ℤ) (low high : Point3) (p : Point) → pos 0 <ℤ grain → pos 0 ≤ℤ margin → AroundPoint low high p → All (Between (spot_below grain margin low) (spot_above grain margin high)) (four_spots grain margin p)
of_four grain margin low high p g m a =
    let d = p.d *ℤ grain in
    let one = mul_positive p.d grain a.over g in
    let west : below margin low.x grain ≤ℤ below margin p.x d = omega (arith, ints, floor_below p.x p.d grain low.x a.over g a.west) in
    let east : above margin p.x d ≤ℤ above margin high.x grain = omega (arith, ints, ceil_above p.x p.d grain high.x a.over g a.east) in
    let south : below margin low.y grain ≤ℤ below margin p.y d = omega (arith, ints, floor_below p.y p.d grain low.y a.over g a.south) in
    let north : above margin p.y d ≤ℤ above margin high.y grain = omega (arith, ints, ceil_above p.y p.d grain high.y a.over g a.north) in
    let wide : below margin p.x d ≤ℤ above margin p.x d = omega (arith, ints, floor_le_ceil p.x d one, m) in
    let deep : below margin p.y d ≤ℤ above margin p.y d = omega (arith, ints, floor_le_ceil p.y d one, m) in
    all_of_corners (Between (spot_below grain margin low) (spot_above grain margin high))
    (record { x = below margin p.x d; y = below margin p.y d })
    (record { x = above margin p.x d; y = below margin p.y d })
    (record { x = below margin p.x d; y = above margin p.y d })
    (record { x = above margin p.x d; y = above margin p.y d })
    (record { west = west; east = omega (arith, ints, wide, east); south = south; north = omega (arith, ints, deep, north) })
    (record { west = omega (arith, ints, wide, west); east = east; south = south; north = omega (arith, ints, deep, north) })
    (record { west = west; east = omega (arith, ints, wide, east); south = omega (arith, ints, deep, south); north = north })
    (record { west = omega (arith, ints, wide, west); east = east; south = omega (arith, ints, deep, south); north = north })

pub all_between : (grain step margin : ℤ) (low high : Point3) (facets : List Facet) (b : ℕ) → pos 0 <ℤ grain → pos 0 ≤ℤ margin → All (AroundFacet low high) facets
    → All (Between (spot_below grain margin low) (spot_above grain margin high)) (spots grain margin (corner_points facets step b))
all_between grain step margin low high facets b g m around =
    let from = least_z facets +ℤ step *ℤ pos b in
    all_flat (AroundPoint low high) (Between (spot_below grain margin low) (spot_above grain margin high)) (four_spots grain margin) (λ p a. of_four grain margin low high p g m a) (corner_points facets step b)
    (all_flat (AroundFacet low high) (AroundPoint low high) (facet_corners from (from +ℤ step)) (λ f a. of_facet low high from (from +ℤ step) f a) facets around)
