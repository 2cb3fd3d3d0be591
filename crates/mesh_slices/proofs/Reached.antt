-- The extremes of the spots are the spots round the extremes of the vertices.
use Rattle.std.proofs.Common.{◌≡◌, ℕ, Bool, true, false, ◌<◌, ℤ, pos, ◌+ℤ◌, ◌-ℤ◌, ◌*ℤ◌, ◌≤ℤ◌, ◌<ℤ◌, List, [], ◌∷◌, ◌++◌, length, Contains, All, refl, sym, ap, ◌∙◌, subst, arith, inl, inr}
use Rattle.std.proofs.lemmas.Int.{ints}
use Rattle.std.proofs.lemmas.List.Elements.{Contains-append_left, Contains-append_right}
use Rattle.std.specs.Int.Signed.{le_z}
use Rattle.integer_laws.specs.Laws.Ring.{one-mul}
use Rattle.seq_model.specs.declared.mesh.Point3.{Point3}
use Rattle.seq_model.specs.declared.mesh.Facet.{Facet}
use Rattle.seq_model.specs.declared.printer.Spot.{Spot}
use Rattle.seq_model.specs.declared.printer.Printer.{Printer}
use Rattle.seq_model.specs.Bands.{vertices, vertex_in, crossings, facet_corners, corner_points, heights, least_z, height_of, band_count}
use Rattle.seq_model.specs.Bounds.{IsPrinter}
use Rattle.integer_laws.specs.Extremes.{least, greatest}
use Rattle.seq_model.specs.Outlines.{below, above, four_spots, spots}
use Rattle.seq_model.specs.Points.{Point}
use Rattle.seq_model.specs.Scenes.{SomeSpot, Spans}
use Rattle.integer_laws.specs.Members.{In}
use Rattle.integer_laws.specs.Laws.Members.{In-from_contains, In-map, All-in, All-from_in}
use Rattle.mesh_slices.specs.Objects.{spots_in}
use Rattle.mesh_slices.specs.Cover.{vertices_of}
use Rattle.mesh_slices.proofs.Members.{at_head, to_flat}
use Rattle.mesh_slices.proofs.Running.{at, Running, reaches_least, reaches_greatest, least_below, greatest_above}
use Rattle.mesh_slices.proofs.InBand.{band_of}
use Rattle.mesh_slices.proofs.Holding.{Around, AroundFacet, spot_below, spot_above, all_between}
use Rattle.std.proofs.Math.Dec.{T}

-- a vertex is a corner of a facet, and the corners of a facet are vertices
pub record CornerOf (v : Point3) (facets : List Facet) : Type 0 where
  pub facet : Facet
  pub member : In facet facets
  pub corner : In v (vertices_of facet)

later : (v : Point3) (f : Facet) (facets : List Facet) → CornerOf v facets → CornerOf v (f ∷ facets)
later v f facets c = record { facet = c.facet; member = inr c.member; corner = c.corner }

corner_of : (v : Point3) (facets : List Facet) → In v (vertices facets) → CornerOf v facets
corner_of v [] h = elim h [ ]
corner_of v (f ∷ fs) (inl e) = record { facet = f; member = inl refl; corner = inl e }
corner_of v (f ∷ fs) (inr (inl e)) = record { facet = f; member = inl refl; corner = inr (inl e) }
corner_of v (f ∷ fs) (inr (inr (inl e))) = record { facet = f; member = inl refl; corner = inr (inr (inl e)) }
corner_of v (f ∷ fs) (inr (inr (inr h))) = later v f fs (corner_of v fs h)

vertex_from : (v : Point3) (f : Facet) (facets : List Facet) → In f facets → In v (vertices_of f) → In v (vertices facets)
vertex_from v f [] h k = elim h [ ]
vertex_from v f (g ∷ gs) (inl e) k = ahead (subst (λ t. In v (vertices_of t)) e k)
  where
    ahead : In v (vertices_of g) → In v (vertices (g ∷ gs))
    ahead (inl e) = inl e
    ahead (inr (inl e)) = inr (inl e)
    ahead (inr (inr (inl e))) = inr (inr (inl e))
    ahead (inr (inr (inr h))) = elim h [ ]
vertex_from v f (g ∷ gs) (inr h) k = inr (inr (inr (vertex_from v f gs h k)))

-- the extremes are round each vertex
around : (facets : List Facet) (low high v : Point3) → Running facets [] low high → In v (vertices facets) → Around low high v
around facets low high v kept m =
    let x = In-map (λ (p : Point3). p.x) (vertices facets) v m in
    let y = In-map (λ (p : Point3). p.y) (vertices facets) v m in
    record {
      west = rw (kept.x.low_so_far) (All-in (λ n. least (at (λ p. p.x) facets) ≤ℤ n) _ _ (least_below (at (λ p. p.x) facets)) x);
      east = rw (kept.x.high_so_far) (All-in (λ n. n ≤ℤ greatest (at (λ p. p.x) facets)) _ _ (greatest_above (at (λ p. p.x) facets)) x);
      south = rw (kept.y.low_so_far) (All-in (λ n. least (at (λ p. p.y) facets) ≤ℤ n) _ _ (least_below (at (λ p. p.y) facets)) y);
      north = rw (kept.y.high_so_far) (All-in (λ n. n ≤ℤ greatest (at (λ p. p.y) facets)) _ _ (greatest_above (at (λ p. p.y) facets)) y);
    }

around_facets : (facets : List Facet) (low high : Point3) → Running facets [] low high → All (AroundFacet low high) facets
around_facets facets low high kept = All-from_in (AroundFacet low high) facets (λ f m. record {
  a = around facets low high f.a kept (vertex_from f.a f facets m (inl refl));
  b = around facets low high f.b kept (vertex_from f.b f facets m (inr (inl refl)));
  c = around facets low high f.c kept (vertex_from f.c f facets m (inr (inr (inl refl))));
})

-- the corner point of a vertex
abbrev point_of : Point3 → Point
point_of v = record { x = v.x; y = v.y; d = pos 1 }

passes : (b : Bool) → T b → b ≡ true
passes true h = refl
passes false h = elim h [ ]

vertex_there : (from to : ℤ) (v : Point3) → from ≤ℤ v.z → v.z ≤ℤ to → Contains (vertex_in from to v) (point_of v)
vertex_there from to v h k = rw (passes (le_z from v.z) h.le, passes (le_z v.z to) k.le) (at_head (point_of v) [])

facet_there : (from to : ℤ) (v : Point3) (f : Facet) → In v (vertices_of f) → from ≤ℤ v.z → v.z ≤ℤ to → Contains (facet_corners from to f) (point_of v)
facet_there from to v f m h k =
    Contains-append_left (vertex_in from to f.a ++ (vertex_in from to f.b ++ vertex_in from to f.c)) (crossings from f ++ crossings to f) (point_of v) (which m)
  where
    moved : (w : Point3) → v ≡ w → Contains (vertex_in from to w) (point_of v)
    moved w e = subst (λ t. Contains (vertex_in from to t) (point_of v)) e (vertex_there from to v h k)

    which : In v (vertices_of f) → Contains (vertex_in from to f.a ++ (vertex_in from to f.b ++ vertex_in from to f.c)) (point_of v)
    which (inl e) = Contains-append_left (vertex_in from to f.a) _ _ (moved f.a e)
    which (inr (inl e)) = Contains-append_right (vertex_in from to f.a) _ _ (Contains-append_left (vertex_in from to f.b) _ _ (moved f.b e))
    which (inr (inr (inl e))) = Contains-append_right (vertex_in from to f.a) _ _ (Contains-append_right (vertex_in from to f.b) _ _ (moved f.c e))
    which (inr (inr (inr h))) = elim h [ ]

-- a vertex is a corner point of some band, and its four spots are spots of that band
pub record Seen (grain step margin : ℤ) (facets : List Facet) (v : Point3) : Type 0 where
  pub band : ℕ
  pub below_count : band < band_count facets step
  pub four : (s : Spot) → Contains (four_spots grain margin (point_of v)) s → Contains (spots grain margin (corner_points facets step band)) s

seen : (grain step margin : ℤ) (facets : List Facet) (v : Point3) → pos 0 <ℤ step → In v (vertices facets) → Seen grain step margin facets v
seen grain step margin facets v p m =
    let z = In-map (λ (q : Point3). q.z) (vertices facets) v m in
    let low : least_z facets ≤ℤ v.z = All-in (λ n. least (heights facets) ≤ℤ n) _ _ (least_below (heights facets)) z in
    let high : v.z ≤ℤ greatest (heights facets) = All-in (λ n. n ≤ℤ greatest (heights facets)) _ _ (greatest_above (heights facets)) z in
    let b = band_of step (v.z -ℤ least_z facets) (height_of facets) p (omega (arith, ints, low)) (omega (arith, ints, high)) in
    let from = least_z facets +ℤ step *ℤ pos b.band in
    let o = corner_of v facets m in
    let there = to_flat (facet_corners from (from +ℤ step)) (point_of v) o.facet facets o.member (facet_there from (from +ℤ step) v o.facet o.corner (omega (arith, ints, b.from)) (omega (arith, ints, b.to))) in
    record {
      band = b.band;
      below_count = b.below_count;
      four = λ s c. to_flat (four_spots grain margin) s (point_of v) (corner_points facets step b.band) (In-from_contains (corner_points facets step b.band) (point_of v) there) c;
    }

-- the first and the last of the four
first_spot : (grain margin : ℤ) (v : Point3) → Contains (four_spots grain margin (point_of v)) (spot_below (pos 1 *ℤ grain) margin v)
first_spot grain margin v = (0, omega arith, refl)

last_spot : (grain margin : ℤ) (v : Point3) → Contains (four_spots grain margin (point_of v)) (spot_above (pos 1 *ℤ grain) margin v)
last_spot grain margin v = (3, omega arith, refl)

-- the spots round a vertex, at the least and at the greatest corner of the four
some_below : (printer : Printer) (facets : List Facet) (v : Point3) → pos 0 <ℤ printer.step → In v (vertices facets)
    → SomeSpot (band_count facets printer.step) (spots_in printer facets) (λ s. s ≡ spot_below printer.grain printer.margin v)
some_below printer facets v p m =
    let s = seen printer.grain printer.step printer.margin facets v p m in
    record { band = s.band; spot = spot_below (pos 1 *ℤ printer.grain) printer.margin v; below_count = s.below_count; member = s.four (spot_below (pos 1 *ℤ printer.grain) printer.margin v) (first_spot printer.grain printer.margin v); so = ap (λ g. spot_below g printer.margin v) (one-mul printer.grain) }

some_above : (printer : Printer) (facets : List Facet) (v : Point3) → pos 0 <ℤ printer.step → In v (vertices facets)
    → SomeSpot (band_count facets printer.step) (spots_in printer facets) (λ s. s ≡ spot_above printer.grain printer.margin v)
some_above printer facets v p m =
    let s = seen printer.grain printer.step printer.margin facets v p m in
    record { band = s.band; spot = spot_above (pos 1 *ℤ printer.grain) printer.margin v; below_count = s.below_count; member = s.four (spot_above (pos 1 *ℤ printer.grain) printer.margin v) (last_spot printer.grain printer.margin v); so = ap (λ g. spot_above g printer.margin v) (one-mul printer.grain) }

-- what one spot is, so is what follows from it
so_too : (bands : ℕ) (S : ℕ → List Spot) (P Q : Spot → Type 0) → ((s : Spot) → P s → Q s) → SomeSpot bands S P → SomeSpot bands S Q
so_too bands S P Q f h = record { band = h.band; spot = h.spot; below_count = h.below_count; member = h.member; so = f h.spot h.so }

pub spans : (printer : Printer) (facets : List Facet) (low high : Point3) → pos 0 <ℤ printer.grain → pos 0 ≤ℤ printer.margin → pos 0 <ℤ printer.step → 0 < length facets → Running facets [] low high
    → Spans (band_count facets printer.step) (spots_in printer facets) (spot_below printer.grain printer.margin low) (spot_above printer.grain printer.margin high)
spans printer facets low high g m p some kept =
    let bands = band_count facets printer.step in
    let S = spots_in printer facets in
    let grain = printer.grain in
    let margin = printer.margin in
    let wx = reaches_least (λ p. p.x) facets some in
    let ex = reaches_greatest (λ p. p.x) facets some in
    let sy = reaches_least (λ p. p.y) facets some in
    let ny = reaches_greatest (λ p. p.y) facets some in
    record {
      holds = λ b h. all_between grain printer.step margin low high facets b g m (around_facets facets low high kept);
      west = so_too bands S (λ s. s ≡ spot_below grain margin wx.vertex) (λ s. s.x ≡ below margin low.x grain) (λ s e. ap (λ (t : Spot). t.x) e ∙ ap (λ x. below margin x grain) (wx.is ∙ sym kept.x.low_so_far)) (some_below printer facets wx.vertex p wx.member);
      east = so_too bands S (λ s. s ≡ spot_above grain margin ex.vertex) (λ s. s.x ≡ above margin high.x grain) (λ s e. ap (λ (t : Spot). t.x) e ∙ ap (λ x. above margin x grain) (ex.is ∙ sym kept.x.high_so_far)) (some_above printer facets ex.vertex p ex.member);
      south = so_too bands S (λ s. s ≡ spot_below grain margin sy.vertex) (λ s. s.y ≡ below margin low.y grain) (λ s e. ap (λ (t : Spot). t.y) e ∙ ap (λ x. below margin x grain) (sy.is ∙ sym kept.y.low_so_far)) (some_below printer facets sy.vertex p sy.member);
      north = so_too bands S (λ s. s ≡ spot_above grain margin ny.vertex) (λ s. s.y ≡ above margin high.y grain) (λ s e. ap (λ (t : Spot). t.y) e ∙ ap (λ x. above margin x grain) (ny.is ∙ sym kept.y.high_so_far)) (some_above printer facets ny.vertex p ny.member);
    }

spot_is : (s : Spot) (x y : ℤ) → s.x ≡ x → s.y ≡ y → record { x = x; y = y } ≡ s
spot_is s x y e f = rw (← e, ← f) refl

-- the spots that the code computes, each coordinate by itself
pub spans_of : (printer : Printer) (facets : List Facet) (low high : Point3) (west_south east_north : Spot) → IsPrinter printer.grain printer.width printer.depth printer.step printer.margin printer.grid → 0 < length facets → Running facets [] low high
    → west_south.x ≡ below printer.margin low.x printer.grain → west_south.y ≡ below printer.margin low.y printer.grain
    → east_north.x ≡ above printer.margin high.x printer.grain → east_north.y ≡ above printer.margin high.y printer.grain
    → Spans (band_count facets printer.step) (spots_in printer facets) west_south east_north
spans_of printer facets low high ws en ranged some kept wx wy ex ey =
    let s = spans printer facets low high (omega (arith, ints, ranged.grain_low)) (omega (arith, ints, ranged.margin_low)) (omega (arith, ints, ranged.step_low)) some kept in
    let bands = band_count facets printer.step in
    let S = spots_in printer facets in
    subst (λ a. Spans bands S a en) (spot_is ws _ _ wx wy) (subst (λ b. Spans bands S (spot_below printer.grain printer.margin low) b) (spot_is en _ _ ex ey) s)
