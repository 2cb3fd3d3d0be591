-- The outline of a band covers the points of the mesh in that band.
--
--   edge_in             an edge whose ends in the slab and crossings are members of a list is in its cone
--   has_denominator     a corner point has a positive denominator
--   facing              the corners of a facet face its corner points
--   point_in_slab       a point of a facet in the slab is in the cone of the facet's corner points
--   spots_cover         the spots of a band cover it
--   outline_covers      and so does what has the spots within it
--   zones_cover         a point of the mesh in a band lies within the corners of a zone that holds the band
use Rattle.std.proofs.Common.{◌≡◌, ◌<◌, ℕ, Bool, true, false, T, ◌&&◌, if◌then◌else◌, List, [], ◌∷◌, ◌++◌, All, Contains, refl, sym, subst, arith, ℤ, pos, ◌+ℤ◌, ◌-ℤ◌, ◌*ℤ◌, ◌≤ℤ◌, ◌<ℤ◌, inl, inr}
use Rattle.std.specs.Int.Signed.{le_z, lt_z, lt_z_yes}
use Rattle.std.proofs.lemmas.Int.{ints}
use Rattle.std.proofs.lemmas.Bool.{and_parts}
use Rattle.integer_laws.specs.Laws.Ring.{expand}
use Rattle.integer_laws.specs.Laws.Order.{le_from, same_from, le_of_same, add_le, mul_le, mul_positive, cancel_le}
use Rattle.integer_laws.specs.Weights.{AreWeights, weigh, total}
use Rattle.integer_laws.specs.Members.{In}
use Rattle.integer_laws.specs.Laws.Members.{In-from_contains, In-append_left, In-append_right, In-append_cases}
use Rattle.seq_model.specs.declared.job.Object.{Object}
use Rattle.seq_model.specs.declared.mesh.Facet.{Facet}
use Rattle.seq_model.specs.declared.mesh.Point3.{Point3}
use Rattle.seq_model.specs.declared.printer.Printer.{Printer}
use Rattle.seq_model.specs.declared.printer.Spot.{Spot}
use Rattle.seq_model.specs.Bands.{vertex_in, crossing_up, crossing, crossings, facet_corners, corner_points, least_z}
use Rattle.seq_model.specs.Outlines.{spots, Within}
use Rattle.seq_model.specs.Points.{Point, at_spot}
use Rattle.mesh_slices.specs.Agreement.{HasZonesOf}
use Rattle.mesh_slices.specs.Cover.{SpacePoint, vertices_of, LiesOn, LiesInBand, in_grains, Covers, LiesInZone, ZonesCover}
use Rattle.mesh_slices.specs.Laws.Covering.{InCone, cone_part, cone_member, within_cone, within_within}
use Rattle.mesh_slices.specs.Laws.CoveringSpots.{in_flat, in_spots}
use Rattle.mesh_slices.specs.Laws.CoveringEdges.{Edge, edge, edge_back}
use Rattle.mesh_slices.specs.Laws.CoveringFacets.{Facing, triangle}
use Rattle.mesh_slices.specs.Objects.{spots_in}

-- ---- what is a corner point
passes : (b : Bool) → T b → b ≡ true
passes true h = refl
passes false h = absurd h

passed : (b : Bool) → b ≡ true → T b
passed b e = subst T (sym e) tt

abbrev vertex_at : Point3 → Point
vertex_at p = record { x = p.x; y = p.y; d = pos 1 }

abbrev crossing_at : ℤ → Point3 → Point3 → Point
crossing_at h p q = record { x = p.x *ℤ (q.z -ℤ h) +ℤ q.x *ℤ (h -ℤ p.z); y = p.y *ℤ (q.z -ℤ h) +ℤ q.y *ℤ (h -ℤ p.z); d = q.z -ℤ p.z }

in_vertex : (low high : ℤ) (p : Point3) → low ≤ℤ p.z → p.z ≤ℤ high → In (vertex_at p) (vertex_in low high p)
in_vertex low high p h k = rw (passes (le_z low p.z) h.le, passes (le_z p.z high) k.le) (inl refl)

in_crossing_up : (h : ℤ) (p q : Point3) → p.z <ℤ h → h <ℤ q.z → In (crossing_at h p q) (crossing_up h p q)
in_crossing_up h p q k l = rw (passes (lt_z p.z h) k.lt, passes (lt_z h q.z) l.lt) (inl refl)

pub edge_in : (C : List Point) (low high : ℤ) (p q : Point3) → low <ℤ high → ((r : Point) → In r (vertex_in low high p) → In r C) → ((r : Point) → In r (vertex_in low high q) → In r C)
    → ((r : Point) → In r (crossing low p q) → In r C) → ((r : Point) → In r (crossing high p q) → In r C) → Edge C low high p q
edge_in C low high p q slab at_p at_q at_low at_high =
    edge C low high p q slab
    (λ h k. cone_member C (vertex_at p) (at_p (vertex_at p) (in_vertex low high p h k)))
    (λ h k. cone_member C (vertex_at q) (at_q (vertex_at q) (in_vertex low high q h k)))
    (λ h k. cone_member C (crossing_at low p q) (at_low (crossing_at low p q) (up low h k)))
    (λ h k. cone_member C (crossing_at high p q) (at_high (crossing_at high p q) (up high h k)))
    (λ h k. cone_member C (crossing_at low q p) (at_low (crossing_at low q p) (down low h k)))
    (λ h k. cone_member C (crossing_at high q p) (at_high (crossing_at high q p) (down high h k)))
  where
    up : (n : ℤ) → p.z <ℤ n → n <ℤ q.z → In (crossing_at n p q) (crossing n p q)
    up n h k = In-append_left (crossing_up n p q) (crossing_up n q p) (crossing_at n p q) (in_crossing_up n p q h k)

    down : (n : ℤ) → q.z <ℤ n → n <ℤ p.z → In (crossing_at n q p) (crossing n p q)
    down n h k = In-append_right (crossing_up n p q) (crossing_up n q p) (crossing_at n q p) (in_crossing_up n q p h k)

-- ---- denominators
one_of : {A : Type 0} (t : Bool) (x y : A) → In y (if t then x ∷ [] else []) → (y ≡ x) × (t ≡ true)
one_of true x y (inl e) = (e, refl)
one_of true x y (inr i) = absurd i
one_of false x y i = absurd i

rises : {a b c : ℤ} → a <ℤ b → b <ℤ c → pos 0 <ℤ (c -ℤ a)
rises h k = omega (arith, ints)

vertex_has : (low high : ℤ) (p : Point3) (r : Point) → In r (vertex_in low high p) → pos 0 <ℤ r.d
vertex_has low high p r i = subst (λ t. pos 0 <ℤ t.d) (sym (one_of (le_z low p.z && le_z p.z high) (vertex_at p) r i).0) (omega (arith, ints))

crossing_up_has : (h : ℤ) (p q : Point3) (r : Point) → In r (crossing_up h p q) → pos 0 <ℤ r.d
crossing_up_has h p q r i =
    let one = one_of (lt_z p.z h && lt_z h q.z) (crossing_at h p q) r i in
    let tests = and_parts (lt_z p.z h) (lt_z h q.z) one.1 in
    let from : p.z <ℤ h = lt_z_yes (passed (lt_z p.z h) tests.0) in
    let to : h <ℤ q.z = lt_z_yes (passed (lt_z h q.z) tests.1) in
    subst (λ t. pos 0 <ℤ t.d) (sym one.0) (rises from to)

-- what each member of two lists is, each member of the joined list is
joined : (P : Point → Type 0) (xs ys : List Point) → ((r : Point) → In r xs → P r) → ((r : Point) → In r ys → P r) → (r : Point) → In r (xs ++ ys) → P r
joined P xs ys h k r i = elim (In-append_cases xs ys r i) [ inl j ↦ h r j | inr j ↦ k r j ]

abbrev Has : Point → Type 0
Has r = pos 0 <ℤ r.d

crossing_has : (h : ℤ) (p q : Point3) (r : Point) → In r (crossing h p q) → pos 0 <ℤ r.d
crossing_has h p q = joined Has (crossing_up h p q) (crossing_up h q p) (crossing_up_has h p q) (crossing_up_has h q p)

crossings_have : (h : ℤ) (f : Facet) (r : Point) → In r (crossings h f) → pos 0 <ℤ r.d
crossings_have h f = joined Has (crossing h f.a f.b) (crossing h f.b f.c ++ crossing h f.c f.a) (crossing_has h f.a f.b) (joined Has (crossing h f.b f.c) (crossing h f.c f.a) (crossing_has h f.b f.c) (crossing_has h f.c f.a))

abbrev ends : ℤ → ℤ → Facet → List Point
ends low high f = vertex_in low high f.a ++ (vertex_in low high f.b ++ vertex_in low high f.c)

ends_have : (low high : ℤ) (f : Facet) (r : Point) → In r (ends low high f) → pos 0 <ℤ r.d
ends_have low high f = joined Has (vertex_in low high f.a) (vertex_in low high f.b ++ vertex_in low high f.c) (vertex_has low high f.a) (joined Has (vertex_in low high f.b) (vertex_in low high f.c) (vertex_has low high f.b) (vertex_has low high f.c))

pub has_denominator : (low high : ℤ) (f : Facet) (r : Point) → In r (facet_corners low high f) → pos 0 <ℤ r.d
has_denominator low high f = joined Has (ends low high f) (crossings low f ++ crossings high f) (ends_have low high f) (joined Has (crossings low f) (crossings high f) (crossings_have low f) (crossings_have high f))

-- ---- one facet
pub facing : (low high : ℤ) (f : Facet) (u v w : ℤ) → low <ℤ high → pos 0 ≤ℤ u → pos 0 ≤ℤ v → pos 0 ≤ℤ w → pos 0 <ℤ (u +ℤ (v +ℤ w))
    → (low *ℤ (u +ℤ (v +ℤ w))) ≤ℤ (u *ℤ f.a.z +ℤ (v *ℤ f.b.z +ℤ w *ℤ f.c.z)) → (u *ℤ f.a.z +ℤ (v *ℤ f.b.z +ℤ w *ℤ f.c.z)) ≤ℤ (high *ℤ (u +ℤ (v +ℤ w)))
    → Facing (facet_corners low high f) low high f.a f.b f.c u v w (u +ℤ (v +ℤ w)) (u *ℤ f.a.z +ℤ (v *ℤ f.b.z +ℤ w *ℤ f.c.z))
facing low high f u v w slab hu hv hw some from to = record {
  ab = edge_in (facet_corners low high f) low high f.a f.b slab at_a at_b (λ r i. at_low r (ab low r i)) (λ r i. at_high r (ab high r i));
  ac = edge_back (facet_corners low high f) low high f.c f.a (edge_in (facet_corners low high f) low high f.c f.a slab at_c at_a (λ r i. at_low r (ca low r i)) (λ r i. at_high r (ca high r i)));
  bc = edge_in (facet_corners low high f) low high f.b f.c slab at_b at_c (λ r i. at_low r (bc low r i)) (λ r i. at_high r (bc high r i));
  u_least = hu;
  v_least = hv;
  w_least = hw;
  some = some;
  from = from;
  to = to;
  sum = refl;
  height = refl;
}
  where
    at_end : (r : Point) → In r (ends low high f) → In r (facet_corners low high f)
    at_end r i = In-append_left (ends low high f) (crossings low f ++ crossings high f) r i

    at_a : (r : Point) → In r (vertex_in low high f.a) → In r (facet_corners low high f)
    at_a r i = at_end r (In-append_left (vertex_in low high f.a) (vertex_in low high f.b ++ vertex_in low high f.c) r i)

    at_b : (r : Point) → In r (vertex_in low high f.b) → In r (facet_corners low high f)
    at_b r i = at_end r (In-append_right (vertex_in low high f.a) (vertex_in low high f.b ++ vertex_in low high f.c) r (In-append_left (vertex_in low high f.b) (vertex_in low high f.c) r i))

    at_c : (r : Point) → In r (vertex_in low high f.c) → In r (facet_corners low high f)
    at_c r i = at_end r (In-append_right (vertex_in low high f.a) (vertex_in low high f.b ++ vertex_in low high f.c) r (In-append_right (vertex_in low high f.b) (vertex_in low high f.c) r i))

    at_low : (r : Point) → In r (crossings low f) → In r (facet_corners low high f)
    at_low r i = In-append_right (ends low high f) (crossings low f ++ crossings high f) r (In-append_left (crossings low f) (crossings high f) r i)

    at_high : (r : Point) → In r (crossings high f) → In r (facet_corners low high f)
    at_high r i = In-append_right (ends low high f) (crossings low f ++ crossings high f) r (In-append_right (crossings low f) (crossings high f) r i)

    ab : (h : ℤ) (r : Point) → In r (crossing h f.a f.b) → In r (crossings h f)
    ab h r i = In-append_left (crossing h f.a f.b) (crossing h f.b f.c ++ crossing h f.c f.a) r i

    bc : (h : ℤ) (r : Point) → In r (crossing h f.b f.c) → In r (crossings h f)
    bc h r i = In-append_right (crossing h f.a f.b) (crossing h f.b f.c ++ crossing h f.c f.a) r (In-append_left (crossing h f.b f.c) (crossing h f.c f.a) r i)

    ca : (h : ℤ) (r : Point) → In r (crossing h f.c f.a) → In r (crossings h f)
    ca h r i = In-append_right (crossing h f.a f.b) (crossing h f.b f.c ++ crossing h f.c f.a) r (In-append_right (crossing h f.b f.c) (crossing h f.c f.a) r i)

-- a point with weights of the corners that are written out, over the sum of them
scaled : (C : List Point) (d x y u v w ax bx cx ay yb cy : ℤ) → pos 0 ≤ℤ d → pos 0 <ℤ (u +ℤ (v +ℤ w))
    → d *ℤ (u *ℤ ax +ℤ (v *ℤ bx +ℤ w *ℤ cx)) ≡ x *ℤ (u +ℤ (v +ℤ w)) → d *ℤ (u *ℤ ay +ℤ (v *ℤ yb +ℤ w *ℤ cy)) ≡ y *ℤ (u +ℤ (v +ℤ w))
    → InCone C (u *ℤ ax +ℤ (v *ℤ bx +ℤ w *ℤ cx)) (u *ℤ ay +ℤ (v *ℤ yb +ℤ w *ℤ cy)) (u +ℤ (v +ℤ w)) → InCone C x y d
scaled C d x y u v w ax bx cx ay yb cy h some ex ey m =
    cone_part C (u +ℤ (v +ℤ w)) d (u *ℤ ax +ℤ (v *ℤ bx +ℤ w *ℤ cx)) (u *ℤ ay +ℤ (v *ℤ yb +ℤ w *ℤ cy)) (u +ℤ (v +ℤ w)) x y d some h m (swap (u +ℤ (v +ℤ w)) x (u *ℤ ax +ℤ (v *ℤ bx +ℤ w *ℤ cx)) ex) (swap (u +ℤ (v +ℤ w)) y (u *ℤ ay +ℤ (v *ℤ yb +ℤ w *ℤ cy)) ey) (turned (u +ℤ (v +ℤ w)) d)
  where
    swap : (s x r : ℤ) → d *ℤ r ≡ x *ℤ s → s *ℤ x ≡ d *ℤ r
    swap s x r e = omega (arith, ints)

    turned : (s d : ℤ) → s *ℤ d ≡ d *ℤ s
    turned s d = omega (arith, ints)

pub point_in_slab : (low high : ℤ) (f : Facet) (q : SpacePoint) → low <ℤ high → LiesOn f q → (low *ℤ q.d) ≤ℤ q.z → q.z ≤ℤ (high *ℤ q.d) → InCone (facet_corners low high f) q.x q.y q.d
point_in_slab low high f q slab on from to = by on.w on.weights on.some on.x on.y on.z
  where
    nonneg : {n : ℤ} → pos 0 <ℤ n → pos 0 ≤ℤ n
    nonneg h = omega (arith, ints)

    positive : pos 0 <ℤ q.d
    positive = let d = on.positive in omega (arith, ints)

    some_is : (u v w : ℤ) → pos 1 ≤ℤ (u *ℤ pos 1 +ℤ (v *ℤ pos 1 +ℤ (w *ℤ pos 1 +ℤ pos 0))) → pos 0 <ℤ (u +ℤ (v +ℤ w))
    some_is u v w h = omega (arith, ints)

    trim : (d x u v w r s t : ℤ) → d *ℤ (r +ℤ (s +ℤ (t +ℤ pos 0))) ≡ x *ℤ (u *ℤ pos 1 +ℤ (v *ℤ pos 1 +ℤ (w *ℤ pos 1 +ℤ pos 0))) → d *ℤ (r +ℤ (s +ℤ t)) ≡ x *ℤ (u +ℤ (v +ℤ w))
    trim d x u v w r s t e = same_from e (simp expand (omega (arith, ints)))

    from_low : (d z l n h : ℤ) → pos 0 <ℤ d → pos 0 ≤ℤ n → d *ℤ h ≡ z *ℤ n → (l *ℤ d) ≤ℤ z → (l *ℤ n) ≤ℤ h
    from_low d z l n h p k e below = cancel_le d p (le_from (add_le (mul_le n k below) (le_of_same (sym e))) (simp expand (omega (arith, ints))))

    to_high : (d z l n h : ℤ) → pos 0 <ℤ d → pos 0 ≤ℤ n → d *ℤ h ≡ z *ℤ n → z ≤ℤ (l *ℤ d) → h ≤ℤ (l *ℤ n)
    to_high d z l n h p k e above = cancel_le d p (le_from (add_le (mul_le n k above) (le_of_same e)) (simp expand (omega (arith, ints))))

    by : (w : List ℤ) → AreWeights (pos 0) (vertices_of f) w → pos 1 ≤ℤ total (vertices_of f) w → q.d *ℤ weigh (λ p. p.x) (vertices_of f) w ≡ q.x *ℤ total (vertices_of f) w → q.d *ℤ weigh (λ p. p.y) (vertices_of f) w ≡ q.y *ℤ total (vertices_of f) w
        → q.d *ℤ weigh (λ p. p.z) (vertices_of f) w ≡ q.z *ℤ total (vertices_of f) w → InCone (facet_corners low high f) q.x q.y q.d
    by [] a s ex ey ez = absurd a
    by (u ∷ []) a s ex ey ez = absurd a.1
    by (u ∷ v ∷ []) a s ex ey ez = absurd a.1.1
    by (u ∷ v ∷ w ∷ []) a s ex ey ez =
        let Z = u *ℤ f.a.z +ℤ (v *ℤ f.b.z +ℤ w *ℤ f.c.z) in
        let some = some_is u v w s in
        let height = trim q.d q.z u v w (u *ℤ f.a.z) (v *ℤ f.b.z) (w *ℤ f.c.z) ez in
        let face = facing low high f u v w slab a.0 a.1.0 a.1.1.0 some (from_low q.d q.z low (u +ℤ (v +ℤ w)) Z positive (nonneg some) height from) (to_high q.d q.z high (u +ℤ (v +ℤ w)) Z positive (nonneg some) height to) in
        scaled (facet_corners low high f) q.d q.x q.y u v w f.a.x f.b.x f.c.x f.a.y f.b.y f.c.y (nonneg positive) some
        (trim q.d q.x u v w (u *ℤ f.a.x) (v *ℤ f.b.x) (w *ℤ f.c.x) ex) (trim q.d q.y u v w (u *ℤ f.a.y) (v *ℤ f.b.y) (w *ℤ f.c.y) ey)
        (triangle (facet_corners low high f) low high f.a f.b f.c u v w (u +ℤ (v +ℤ w)) Z face)
    by (u ∷ v ∷ w ∷ k ∷ ks) a s ex ey ez = absurd a.1.1.1

-- ---- a mesh
pub spots_cover : (facets : List Facet) (grain step margin : ℤ) (b : ℕ) → pos 1 ≤ℤ grain → pos 1 ≤ℤ step → pos 1 ≤ℤ margin → Covers facets grain step b (spots grain margin (corner_points facets step b))
spots_cover facets grain step margin b g h m = record { each = each }
  where
    low : ℤ
    low = least_z facets +ℤ step *ℤ pos b

    higher : (a s : ℤ) → pos 1 ≤ℤ s → a <ℤ (a +ℤ s)
    higher a s h = omega (arith, ints)

    positive : {n : ℤ} → pos 1 ≤ℤ n → pos 0 <ℤ n
    positive h = omega (arith, ints)

    least : {n : ℤ} → pos 0 <ℤ n → pos 1 ≤ℤ n
    least h = omega (arith, ints)

    each : (f : Facet) (q : SpacePoint) → Contains facets f → LiesOn f q → LiesInBand facets step b q → Within (spots grain margin (corner_points facets step b)) (in_grains grain q)
    each f q c on band =
        let from = least_z facets +ℤ step *ℤ pos b in
        let to = from +ℤ step in
        let cone = point_in_slab from to f q (higher from step h) on band.from band.to in
        within_cone (spots grain margin (corner_points facets step b)) (in_grains grain q) (record { positive = least (mul_positive q.d grain (positive on.positive) (positive g)) })
        (in_spots grain margin (facet_corners from to f) (corner_points facets step b) q.x q.y q.d (positive g) m (has_denominator from to f) (λ p i. in_flat (facet_corners from to) f p facets (In-from_contains facets f c) i) cone)

pub outline_covers : (facets : List Facet) (grain step : ℤ) (b : ℕ) (S C : List Spot) → Covers facets grain step b S → All (λ s. Within C (at_spot s)) S → Covers facets grain step b C
outline_covers facets grain step b S C covers within = record { each = λ f q c on band. within_within S C (in_grains grain q) within (covers.each f q c on band) }

none_within : (q : Point) → Within [] q → ⊥
none_within q v = let some = v.some in omega (arith, ints)

pub zones_cover : (printer : Printer) (facets : List Facet) (o : Object) → HasZonesOf printer facets o → ZonesCover printer facets o
zones_cover printer facets o has = record { each = each }
  where
    at_least_one : {n : ℤ} → pos 10 ≤ℤ n → pos 1 ≤ℤ n
    at_least_one h = omega (arith, ints)

    each : (b : ℕ) → b < o.bands → (f : Facet) (q : SpacePoint) → Contains facets f → LiesOn f q → LiesInBand facets printer.step b q → LiesInZone o.zones b (in_grains printer.grain q)
    each b h f q c on band =
        let ranged = printer.ranged in
        let S = spots_in printer facets b in
        let v = (spots_cover facets printer.grain printer.step printer.margin b (at_least_one ranged.grain_low) (at_least_one ranged.step_low) ranged.margin_low).each f q c on band in
        let one = has.zones.with_spots b h (λ e. none_within (in_grains printer.grain q) (subst (λ T. Within T (in_grains printer.grain q)) e v)) in
        record { zone = one.zone; member = one.member; holds = one.holds; within = within_within S one.zone.corners (in_grains printer.grain q) one.outline.within v }
