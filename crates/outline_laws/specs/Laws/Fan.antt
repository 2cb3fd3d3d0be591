-- A point to the right of no edge of a convex polygon is a mean of three of its corners: of o and of the two between which it
-- stands, seen from o. All corners are taken less the point.
--
--   Fan o v vs          the origin is right of no edge along v and vs, which go counterclockwise about o, and it isn't beyond the last
--   Balanced o vs       weights of o and vs that balance at the origin
--   fan                 a fan has such weights
--   mean_of             so the point is within the corners
use Rattle.std.proofs.Common.{◌≡◌, List, [], ◌∷◌, map, sym, ◌∙◌, arith, ℤ, pos, neg_ℤ, ◌+ℤ◌, ◌-ℤ◌, ◌*ℤ◌, ◌≤ℤ◌, ◌<ℤ◌}
use Rattle.std.proofs.lemmas.Int.{ints, by_lt_z}
use Rattle.seq_model.specs.declared.printer.Spot.{Spot}
use Rattle.integer_laws.specs.Laws.Ring.{expand}
use Rattle.integer_laws.specs.Laws.Order.{same_of_difference}
use Rattle.integer_laws.specs.Weights.{weigh, total, AreWeights}
use Rattle.integer_laws.specs.Laws.Weights.{weigh-map, weights_map}
use Rattle.seq_model.specs.Points.{Point, IsPoint}
use Rattle.seq_model.specs.Outlines.{Within}
use Rattle.outline_laws.specs.Laws.Vectors.{cross}
use Rattle.outline_laws.specs.Laws.Means.{zeros, weights_zeros, weigh_zeros}
use Rattle.outline_laws.specs.Laws.Wachspress.{from, weigh_from}

-- ---- the fan at c0: corners are taken less the point
abbrev pub Fan : Spot → Spot → List Spot → Type 0
Fan o v [] = cross o v ≤ℤ pos 0
Fan o v (w ∷ vs) = (pos 0 ≤ℤ cross v w) × (pos 0 <ℤ ((cross o v +ℤ cross v w) -ℤ cross o w)) × Fan o w vs

-- weights on v and the list, and one on o, that balance at the point
pub record Balanced (o : Spot) (vs : List Spot) : Type 0 where
  pub k : ℤ
  pub w : List ℤ
  pub k_is : pos 0 ≤ℤ k
  pub w_are : AreWeights (pos 0) vs w
  pub some : pos 0 <ℤ (k +ℤ total vs w)
  pub x : k *ℤ o.x +ℤ weigh (λ s. s.x) vs w ≡ pos 0
  pub y : k *ℤ o.y +ℤ weigh (λ s. s.y) vs w ≡ pos 0

three_x : (ox oy vx vy wx wy z : ℤ) → z ≡ pos 0 → (vx *ℤ wy -ℤ vy *ℤ wx) *ℤ ox +ℤ (neg_ℤ (ox *ℤ wy -ℤ oy *ℤ wx) *ℤ vx +ℤ ((ox *ℤ vy -ℤ oy *ℤ vx) *ℤ wx +ℤ z)) ≡ pos 0
three_x ox oy vx vy wx wy z e = rw e (simp expand (omega (arith, ints)))

three_y : (ox oy vx vy wx wy z : ℤ) → z ≡ pos 0 → (vx *ℤ wy -ℤ vy *ℤ wx) *ℤ oy +ℤ (neg_ℤ (ox *ℤ wy -ℤ oy *ℤ wx) *ℤ vy +ℤ ((ox *ℤ vy -ℤ oy *ℤ vx) *ℤ wy +ℤ z)) ≡ pos 0
three_y ox oy vx vy wx wy z e = rw e (simp expand (omega (arith, ints)))

here : (o v w : Spot) (vs : List Spot) → pos 0 ≤ℤ cross o v → Fan o v (w ∷ vs) → cross o w ≤ℤ pos 0 → Balanced o (v ∷ w ∷ vs)
here o v w vs h f down =
    let z = weigh_zeros (λ s. pos 1) vs in
    let t = f.1 in
    record {
      k = cross v w;
      w = neg_ℤ (cross o w) ∷ cross o v ∷ zeros vs;
      k_is = f.0;
      w_are = (omega (arith, ints), (h, weights_zeros vs));
      some = some_is (cross v w) (cross o w) (cross o v) _ z t;
      x = three_x o.x o.y v.x v.y w.x w.y _ (weigh_zeros (λ s. s.x) vs);
      y = three_y o.x o.y v.x v.y w.x w.y _ (weigh_zeros (λ s. s.y) vs);
    }
  where
    some_is : (a b c z : ℤ) → z ≡ pos 0 → pos 0 <ℤ ((c +ℤ a) -ℤ b) → pos 0 <ℤ (a +ℤ (neg_ℤ b *ℤ pos 1 +ℤ (c *ℤ pos 1 +ℤ z)))
    some_is a b c z e h = rw e (simp expand (omega (arith, ints)))

later : (o v : Spot) (vs : List Spot) → Balanced o vs → Balanced o (v ∷ vs)
later o v vs b =
    let some = b.some in
    let x = b.x in
    let y = b.y in
    record { k = b.k; w = pos 0 ∷ b.w; k_is = b.k_is; w_are = (omega (arith, ints), b.w_are); some = omega (arith, ints); x = omega (arith, ints); y = omega (arith, ints) }

pub fan : (o v w : Spot) (vs : List Spot) → pos 0 ≤ℤ cross o v → Fan o v (w ∷ vs) → Balanced o (v ∷ w ∷ vs)
fan o v w [] h f = here o v w [] h f f.2
fan o v w (u ∷ us) h f =
    by_lt_z (pos 0) (cross o w) (λ up. later o v (w ∷ u ∷ us) (fan o w u us (omega (arith, ints)) f.2)) (λ down. here o v w (u ∷ us) h f down)

-- back to the corners themselves
pub mean_of : (q : Point) → IsPoint q → (o : Spot) (vs : List Spot) → Balanced (from q o) (map (from q) vs) → Within (o ∷ vs) q
mean_of q is o vs b =
    let w = b.k ∷ b.w in
    let tot = weigh-map (λ s. pos 1) (from q) vs b.w in
    let some = b.some in
    let sum_x = sym (weigh-map (λ s. s.x) (from q) (o ∷ vs) w) ∙ b.x in
    let sum_y = sym (weigh-map (λ s. s.y) (from q) (o ∷ vs) w) ∙ b.y in
    let eq_x = sym (weigh_from q.d q.x (λ s. s.x) (o ∷ vs) w) ∙ sum_x in
    let eq_y = sym (weigh_from q.d q.y (λ s. s.y) (o ∷ vs) w) ∙ sum_y in
    record { point = is; w = w; weights = (b.k_is, weights_map (pos 0) (from q) vs b.w b.w_are); some = omega (arith, ints); x = same_of_difference eq_x; y = same_of_difference eq_y }
