-- A corner point lies within its own four spots, and what corner points cover their spots cover.
--
--   Beside x d w e     x / d lies from w to e, and w lies below e
--   beside             so it does between its floor less the margin, and its ceiling with the margin
--   in_four_spots      a corner point, in grains, lies in the cone of its four spots
--   in_flat            a member of what a member gives is one of what all give
--   in_spots           what lies in the cone of corner points lies, in grains, in the cone of their spots
use Rattle.std.proofs.Common.{◌≡◌, List, [], ◌∷◌, map, flat_map, arith, ℤ, pos, ◌+ℤ◌, ◌-ℤ◌, ◌*ℤ◌, ◌≤ℤ◌, ◌<ℤ◌, inl, inr, subst, sym}
use Rattle.std.proofs.lemmas.Int.{ints}
use Rattle.integer_laws.specs.Laws.Ring.{expand}
use Rattle.integer_laws.specs.Laws.Order.{le_from, add_le, mul_nonneg, mul_positive}
use Rattle.integer_laws.specs.Quotients.{floor, ceil}
use Rattle.integer_laws.specs.Laws.Quotients.{floor_is, ceil_is, floor_le_ceil}
use Rattle.integer_laws.specs.Members.{In}
use Rattle.integer_laws.specs.Laws.Members.{In-append_left, In-append_right, In-map, In-map_cases}
use Rattle.seq_model.specs.Outlines.{below, above, four_spots, spots}
use Rattle.seq_model.specs.Points.{Point, at_spot}
use Rattle.mesh_slices.specs.Laws.Covering.{InCone, cone_subset, cone_through}

pub record Beside (x d w e : ℤ) : Type 0 where
  pub from : (d *ℤ w) ≤ℤ x
  pub to : x ≤ℤ (d *ℤ e)
  pub apart : w <ℤ e

pub beside : (margin x d : ℤ) → pos 0 <ℤ d → pos 1 ≤ℤ margin → Beside x d (below margin x d) (above margin x d)
beside margin x d p m =
    let f = floor_is x d p in
    let c = ceil_is x d p in
    let le = floor_le_ceil x d p in
    record {
      from = lower d (floor x d) margin x (nonneg p) (omega (arith, ints)) f.low;
      to = higher d (ceil x d) margin x (nonneg p) (omega (arith, ints)) c.high;
      apart = omega (arith, ints);
    }
  where
    nonneg : {n : ℤ} → pos 0 <ℤ n → pos 0 ≤ℤ n
    nonneg h = omega (arith, ints)

    lower : (d f m x : ℤ) → pos 0 ≤ℤ d → pos 0 ≤ℤ m → (d *ℤ f) ≤ℤ x → (d *ℤ (f -ℤ m)) ≤ℤ x
    lower d f m x p k h = le_from (add_le (mul_nonneg d m p k) h) (simp expand (omega (arith, ints)))

    higher : (d c m x : ℤ) → pos 0 ≤ℤ d → pos 0 ≤ℤ m → x ≤ℤ (d *ℤ c) → x ≤ℤ (d *ℤ (c +ℤ m))
    higher d c m x p k h = le_from (add_le (mul_nonneg d m p k) h) (simp expand (omega (arith, ints)))

-- the weight of each of the four is the product of the distances from the two opposite sides
pub in_four : (x y d w e s n : ℤ) → pos 0 <ℤ d → Beside x d w e → Beside y d s n
    → InCone (map at_spot (record { x = w; y = s } ∷ record { x = e; y = s } ∷ record { x = w; y = n } ∷ record { x = e; y = n } ∷ [])) x y d
in_four x y d w e s n p h k = record {
  m = d *ℤ ((e -ℤ w) *ℤ (n -ℤ s));
  positive = mul_positive d ((e -ℤ w) *ℤ (n -ℤ s)) p (mul_positive (e -ℤ w) (n -ℤ s) (less h.apart) (less k.apart));
  w = ((d *ℤ e -ℤ x) *ℤ (d *ℤ n -ℤ y)) ∷ ((x -ℤ d *ℤ w) *ℤ (d *ℤ n -ℤ y)) ∷ ((d *ℤ e -ℤ x) *ℤ (y -ℤ d *ℤ s)) ∷ ((x -ℤ d *ℤ w) *ℤ (y -ℤ d *ℤ s)) ∷ [];
  weights = (mul_nonneg _ _ (at_least h.to) (at_least k.to), (mul_nonneg _ _ (at_least h.from) (at_least k.to), (mul_nonneg _ _ (at_least h.to) (at_least k.from), (mul_nonneg _ _ (at_least h.from) (at_least k.from), tt))));
  at_x = sum_x d x y w e s n;
  at_y = sum_y d x y w e s n;
  at_t = sum_t d x y w e s n;
}
  where
    less : {a b : ℤ} → a <ℤ b → pos 0 <ℤ (b -ℤ a)
    less h = omega (arith, ints)

    at_least : {a b : ℤ} → a ≤ℤ b → pos 0 ≤ℤ (b -ℤ a)
    at_least h = omega (arith, ints)

    sum_x : (d x y w e s n : ℤ) → (d *ℤ ((e -ℤ w) *ℤ (n -ℤ s))) *ℤ x ≡ ((d *ℤ e -ℤ x) *ℤ (d *ℤ n -ℤ y)) *ℤ w +ℤ (((x -ℤ d *ℤ w) *ℤ (d *ℤ n -ℤ y)) *ℤ e +ℤ (((d *ℤ e -ℤ x) *ℤ (y -ℤ d *ℤ s)) *ℤ w +ℤ (((x -ℤ d *ℤ w) *ℤ (y -ℤ d *ℤ s)) *ℤ e +ℤ pos 0)))
    sum_x d x y w e s n = simp expand (omega (arith, ints))

    sum_y : (d x y w e s n : ℤ) → (d *ℤ ((e -ℤ w) *ℤ (n -ℤ s))) *ℤ y ≡ ((d *ℤ e -ℤ x) *ℤ (d *ℤ n -ℤ y)) *ℤ s +ℤ (((x -ℤ d *ℤ w) *ℤ (d *ℤ n -ℤ y)) *ℤ s +ℤ (((d *ℤ e -ℤ x) *ℤ (y -ℤ d *ℤ s)) *ℤ n +ℤ (((x -ℤ d *ℤ w) *ℤ (y -ℤ d *ℤ s)) *ℤ n +ℤ pos 0)))
    sum_y d x y w e s n = simp expand (omega (arith, ints))

    sum_t : (d x y w e s n : ℤ) → (d *ℤ ((e -ℤ w) *ℤ (n -ℤ s))) *ℤ d ≡ ((d *ℤ e -ℤ x) *ℤ (d *ℤ n -ℤ y)) *ℤ pos 1 +ℤ (((x -ℤ d *ℤ w) *ℤ (d *ℤ n -ℤ y)) *ℤ pos 1 +ℤ (((d *ℤ e -ℤ x) *ℤ (y -ℤ d *ℤ s)) *ℤ pos 1 +ℤ (((x -ℤ d *ℤ w) *ℤ (y -ℤ d *ℤ s)) *ℤ pos 1 +ℤ pos 0)))
    sum_t d x y w e s n = simp expand (omega (arith, ints))

pub in_four_spots : (grain margin : ℤ) (p : Point) → pos 0 <ℤ grain → pos 1 ≤ℤ margin → pos 0 <ℤ p.d → InCone (map at_spot (four_spots grain margin p)) p.x p.y (p.d *ℤ grain)
in_four_spots grain margin p g m d =
    let D = p.d *ℤ grain in
    let positive = mul_positive p.d grain d g in
    in_four p.x p.y D (below margin p.x D) (above margin p.x D) (below margin p.y D) (above margin p.y D) positive (beside margin p.x D positive m) (beside margin p.y D positive m)

-- ---- all spots
pub in_flat : {A B : Type 0} (f : A → List B) (x : A) (y : B) (xs : List A) → In x xs → In y (f x) → In y (flat_map f xs)
in_flat f x y [] i j = absurd i
in_flat f x y (z ∷ zs) (inl e) j = In-append_left (f z) (flat_map f zs) y (subst (λ t. In y (f t)) e j)
in_flat f x y (z ∷ zs) (inr i) j = In-append_right (f z) (flat_map f zs) y (in_flat f x y zs i j)

pub in_spots : (grain margin : ℤ) (some all : List Point) (x y t : ℤ) → pos 0 <ℤ grain → pos 1 ≤ℤ margin → ((p : Point) → In p some → pos 0 <ℤ p.d) → ((p : Point) → In p some → In p all)
    → InCone some x y t → InCone (map at_spot (spots grain margin all)) x y (t *ℤ grain)
in_spots grain margin some all x y t g m positive sub i =
    cone_through some (map at_spot (spots grain margin all)) grain x y t
    (λ p k. cone_subset (map at_spot (four_spots grain margin p)) (map at_spot (spots grain margin all)) p.x p.y (p.d *ℤ grain) (λ q j. among p q (sub p k) j) (in_four_spots grain margin p g m (positive p k))) i
  where
    among : (p q : Point) → In p all → In q (map at_spot (four_spots grain margin p)) → In q (map at_spot (spots grain margin all))
    among p q k j =
        let c = In-map_cases at_spot (four_spots grain margin p) q j in
        subst (λ r. In r (map at_spot (spots grain margin all))) (sym c.2) (In-map at_spot (spots grain margin all) c.0 (in_flat (four_spots grain margin) p c.0 all k c.1))
