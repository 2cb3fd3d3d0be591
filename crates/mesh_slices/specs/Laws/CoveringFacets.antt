-- A point of a facet whose height lies in a slab is a mean of the facet's corner points there. At the point's own height the
-- facet is a segment between two of its edges, or a vertex, or level: so it is a mean of points of edges at that height.
--
--   Facing ..          the corners a, b, c of a facet whose edges lie in a cone, weights of them, the sum S of these and the
--                      height Z / S of the mean
--   at_level           a point of an edge at that height is in the cone
--   both_above         the mean is in the cone, if b and c lie no lower than it
--   both_below         or no higher
--   triangle           and so it always is
use Rattle.std.proofs.Common.{◌≡◌, List, sym, arith, ℤ, pos, neg_ℤ, ◌+ℤ◌, ◌-ℤ◌, ◌*ℤ◌, ◌≤ℤ◌, ◌<ℤ◌}
use Rattle.std.proofs.lemmas.Int.{ints, by_lt_z}
use Rattle.integer_laws.specs.Laws.Ring.{expand}
use Rattle.integer_laws.specs.Laws.Order.{le_from, same_from, le_of_same, add_le, add_same, mul_le, mul_same, mul_nonneg, cancel_le}
use Rattle.seq_model.specs.declared.mesh.Point3.{Point3}
use Rattle.seq_model.specs.Points.{Point}
use Rattle.mesh_slices.specs.Laws.Covering.{InCone, cone_sum, cone_part}
use Rattle.mesh_slices.specs.Laws.CoveringEdges.{Edge, edge_back}

pub record Facing (C : List Point) (low high : ℤ) (a b c : Point3) (u v w S Z : ℤ) : Type 0 where
  pub ab : Edge C low high a b
  pub ac : Edge C low high a c
  pub bc : Edge C low high b c
  pub u_least : pos 0 ≤ℤ u
  pub v_least : pos 0 ≤ℤ v
  pub w_least : pos 0 ≤ℤ w
  pub some : pos 0 <ℤ S
  pub from : (low *ℤ S) ≤ℤ Z
  pub to : Z ≤ℤ (high *ℤ S)
  pub sum : S ≡ u +ℤ (v +ℤ w)
  pub height : Z ≡ u *ℤ a.z +ℤ (v *ℤ b.z +ℤ w *ℤ c.z)

abbrev pub Mean : List Point → Point3 → Point3 → Point3 → ℤ → ℤ → ℤ → Type 0
Mean C a b c u v w = InCone C (u *ℤ a.x +ℤ (v *ℤ b.x +ℤ w *ℤ c.x)) (u *ℤ a.y +ℤ (v *ℤ b.y +ℤ w *ℤ c.y)) (u +ℤ (v +ℤ w))

sum_least : {a b : ℤ} → pos 0 ≤ℤ a → pos 0 ≤ℤ b → pos 0 ≤ℤ (a +ℤ b)
sum_least h k = omega (arith, ints)

at_least : {a b : ℤ} → a ≤ℤ b → pos 0 ≤ℤ (b -ℤ a)
at_least h = omega (arith, ints)

less : {a b : ℤ} → a <ℤ b → pos 0 <ℤ (b -ℤ a)
less h = omega (arith, ints)

le_of : {a b : ℤ} → a <ℤ b → a ≤ℤ b
le_of h = omega (arith, ints)

-- a point of an edge at the height Z / S
at_level : (C : List Point) (low high : ℤ) (p q : Point3) (S Z u w : ℤ) → Edge C low high p q → pos 0 <ℤ S → (low *ℤ S) ≤ℤ Z → Z ≤ℤ (high *ℤ S) → pos 0 ≤ℤ u → pos 0 ≤ℤ w
    → S *ℤ (u *ℤ p.z +ℤ w *ℤ q.z) ≡ Z *ℤ (u +ℤ w) → InCone C (u *ℤ p.x +ℤ w *ℤ q.x) (u *ℤ p.y +ℤ w *ℤ q.y) (u +ℤ w)
at_level C low high p q S Z u w edge some from to hu hw e =
    edge u w hu hw
    (cancel_le S some (le_from (add_le (mul_le (u +ℤ w) (sum_least hu hw) from) (le_of_same (sym e))) (simp expand (omega (arith, ints)))))
    (cancel_le S some (le_from (add_le (mul_le (u +ℤ w) (sum_least hu hw) to) (le_of_same e)) (simp expand (omega (arith, ints)))))

-- two points of the edges at a, by the distances of the corners from their height
apex : (C : List Point) (a b c : Point3) (i j k u v w : ℤ) → pos 0 <ℤ i → pos 0 ≤ℤ v → pos 0 ≤ℤ w → i *ℤ u ≡ j *ℤ v +ℤ k *ℤ w
    → InCone C (j *ℤ a.x +ℤ i *ℤ b.x) (j *ℤ a.y +ℤ i *ℤ b.y) (j +ℤ i) → InCone C (k *ℤ a.x +ℤ i *ℤ c.x) (k *ℤ a.y +ℤ i *ℤ c.y) (k +ℤ i) → Mean C a b c u v w
apex C a b c i j k u v w p hv hw e mb mc =
    cone_sum C i v w (j *ℤ a.x +ℤ i *ℤ b.x) (j *ℤ a.y +ℤ i *ℤ b.y) (j +ℤ i) (k *ℤ a.x +ℤ i *ℤ c.x) (k *ℤ a.y +ℤ i *ℤ c.y) (k +ℤ i)
    (u *ℤ a.x +ℤ (v *ℤ b.x +ℤ w *ℤ c.x)) (u *ℤ a.y +ℤ (v *ℤ b.y +ℤ w *ℤ c.y)) (u +ℤ (v +ℤ w)) p hv hw mb mc (at a.x b.x c.x) (at a.y b.y c.y) share
  where
    at : (r s t : ℤ) → i *ℤ (u *ℤ r +ℤ (v *ℤ s +ℤ w *ℤ t)) ≡ v *ℤ (j *ℤ r +ℤ i *ℤ s) +ℤ w *ℤ (k *ℤ r +ℤ i *ℤ t)
    at r s t = same_from (mul_same r e) (simp expand (omega (arith, ints)))

    share : i *ℤ (u +ℤ (v +ℤ w)) ≡ v *ℤ (j +ℤ i) +ℤ w *ℤ (k +ℤ i)
    share = same_from e (simp expand (omega (arith, ints)))

-- the mean is at the height of each corner that has weight
flat : (C : List Point) (low high : ℤ) (a b c : Point3) (u v w S Z : ℤ) → Facing C low high a b c u v w S Z → u *ℤ (S *ℤ a.z -ℤ Z) ≡ pos 0 → v *ℤ (S *ℤ b.z -ℤ Z) ≡ pos 0 → w *ℤ (S *ℤ c.z -ℤ Z) ≡ pos 0 → Mean C a b c u v w
flat C low high a b c u v w S Z f ea eb ec =
    cone_sum C (pos 1) (pos 1) (pos 1) (u *ℤ a.x +ℤ v *ℤ b.x) (u *ℤ a.y +ℤ v *ℤ b.y) (u +ℤ v) (pos 0 *ℤ a.x +ℤ w *ℤ c.x) (pos 0 *ℤ a.y +ℤ w *ℤ c.y) (pos 0 +ℤ w)
    (u *ℤ a.x +ℤ (v *ℤ b.x +ℤ w *ℤ c.x)) (u *ℤ a.y +ℤ (v *ℤ b.y +ℤ w *ℤ c.y)) (u +ℤ (v +ℤ w)) (omega (arith, ints)) (omega (arith, ints)) (omega (arith, ints))
    (at_level C low high a b S Z u v f.ab f.some f.from f.to f.u_least f.v_least (two u v a.z b.z ea eb))
    (at_level C low high a c S Z (pos 0) w f.ac f.some f.from f.to (omega (arith, ints)) f.w_least (one w a.z c.z ec))
    (at u v w a.x b.x c.x) (at u v w a.y b.y c.y) (share u v w)
  where
    two : (u v r s : ℤ) → u *ℤ (S *ℤ r -ℤ Z) ≡ pos 0 → v *ℤ (S *ℤ s -ℤ Z) ≡ pos 0 → S *ℤ (u *ℤ r +ℤ v *ℤ s) ≡ Z *ℤ (u +ℤ v)
    two u v r s e g = same_from (add_same e g) (simp expand (omega (arith, ints)))

    one : (w r s : ℤ) → w *ℤ (S *ℤ s -ℤ Z) ≡ pos 0 → S *ℤ (pos 0 *ℤ r +ℤ w *ℤ s) ≡ Z *ℤ (pos 0 +ℤ w)
    one w r s e = same_from e (simp expand (omega (arith, ints)))

    at : (u v w r s t : ℤ) → pos 1 *ℤ (u *ℤ r +ℤ (v *ℤ s +ℤ w *ℤ t)) ≡ pos 1 *ℤ (u *ℤ r +ℤ v *ℤ s) +ℤ pos 1 *ℤ (pos 0 *ℤ r +ℤ w *ℤ t)
    at u v w r s t = simp expand (omega (arith, ints))

    share : (u v w : ℤ) → pos 1 *ℤ (u +ℤ (v +ℤ w)) ≡ pos 1 *ℤ (u +ℤ v) +ℤ pos 1 *ℤ (pos 0 +ℤ w)
    share u v w = omega (arith, ints)

-- the weighted distances from the mean's height sum to nothing
balance : (C : List Point) (low high : ℤ) (a b c : Point3) (u v w S Z : ℤ) → Facing C low high a b c u v w S Z → u *ℤ (S *ℤ a.z -ℤ Z) +ℤ (v *ℤ (S *ℤ b.z -ℤ Z) +ℤ w *ℤ (S *ℤ c.z -ℤ Z)) ≡ pos 0
balance C low high a b c u v w S Z f = same_from (add_same (mul_same S (sym f.height)) (mul_same Z f.sum)) (simp expand (omega (arith, ints)))

all_zero : (x y z : ℤ) → pos 0 ≤ℤ x → pos 0 ≤ℤ y → pos 0 ≤ℤ z → x +ℤ (y +ℤ z) ≡ pos 0 → (x ≡ pos 0) × (y ≡ pos 0) × (z ≡ pos 0)
all_zero x y z h k l e = (omega (arith, ints), omega (arith, ints), omega (arith, ints))

none_below : (C : List Point) (low high : ℤ) (a b c : Point3) (u v w S Z : ℤ) → Facing C low high a b c u v w S Z → Z ≤ℤ (S *ℤ a.z) → Z ≤ℤ (S *ℤ b.z) → Z ≤ℤ (S *ℤ c.z) → Mean C a b c u v w
none_below C low high a b c u v w S Z f ha hb hc =
    let zero = all_zero (u *ℤ (S *ℤ a.z -ℤ Z)) (v *ℤ (S *ℤ b.z -ℤ Z)) (w *ℤ (S *ℤ c.z -ℤ Z)) (mul_nonneg u (S *ℤ a.z -ℤ Z) f.u_least (at_least ha)) (mul_nonneg v (S *ℤ b.z -ℤ Z) f.v_least (at_least hb)) (mul_nonneg w (S *ℤ c.z -ℤ Z) f.w_least (at_least hc))
    (balance C low high a b c u v w S Z f) in
    flat C low high a b c u v w S Z f zero.0 zero.1 zero.2

none_above : (C : List Point) (low high : ℤ) (a b c : Point3) (u v w S Z : ℤ) → Facing C low high a b c u v w S Z → (S *ℤ a.z) ≤ℤ Z → (S *ℤ b.z) ≤ℤ Z → (S *ℤ c.z) ≤ℤ Z → Mean C a b c u v w
none_above C low high a b c u v w S Z f ha hb hc =
    let zero = all_zero (u *ℤ (Z -ℤ S *ℤ a.z)) (v *ℤ (Z -ℤ S *ℤ b.z)) (w *ℤ (Z -ℤ S *ℤ c.z)) (mul_nonneg u (Z -ℤ S *ℤ a.z) f.u_least (at_least ha)) (mul_nonneg v (Z -ℤ S *ℤ b.z) f.v_least (at_least hb)) (mul_nonneg w (Z -ℤ S *ℤ c.z) f.w_least (at_least hc))
    (same_from (mul_same (neg_ℤ (pos 1)) (balance C low high a b c u v w S Z f)) (simp expand (omega (arith, ints)))) in
    flat C low high a b c u v w S Z f (turned u a.z zero.0) (turned v b.z zero.1) (turned w c.z zero.2)
  where
    turned : (u r : ℤ) → u *ℤ (Z -ℤ S *ℤ r) ≡ pos 0 → u *ℤ (S *ℤ r -ℤ Z) ≡ pos 0
    turned u r e = same_from (mul_same (neg_ℤ (pos 1)) e) (simp expand (omega (arith, ints)))

-- b and c on one side of the mean
both_above : (C : List Point) (low high : ℤ) (a b c : Point3) (u v w S Z : ℤ) → Facing C low high a b c u v w S Z → Z ≤ℤ (S *ℤ b.z) → Z ≤ℤ (S *ℤ c.z) → Mean C a b c u v w
both_above C low high a b c u v w S Z f hb hc =
    by_lt_z (S *ℤ a.z) Z
    (λ h. apex C a b c (Z -ℤ S *ℤ a.z) (S *ℤ b.z -ℤ Z) (S *ℤ c.z -ℤ Z) u v w (less h) f.v_least f.w_least
    (same_from (add_same (mul_same S f.height) (mul_same Z (sym f.sum))) (simp expand (omega (arith, ints))))
    (at_level C low high a b S Z (S *ℤ b.z -ℤ Z) (Z -ℤ S *ℤ a.z) f.ab f.some f.from f.to (at_least hb) (at_least (le_of h)) (on a.z b.z))
    (at_level C low high a c S Z (S *ℤ c.z -ℤ Z) (Z -ℤ S *ℤ a.z) f.ac f.some f.from f.to (at_least hc) (at_least (le_of h)) (on a.z c.z)))
    (λ h. none_below C low high a b c u v w S Z f h hb hc)
  where
    on : (r s : ℤ) → S *ℤ ((S *ℤ s -ℤ Z) *ℤ r +ℤ (Z -ℤ S *ℤ r) *ℤ s) ≡ Z *ℤ ((S *ℤ s -ℤ Z) +ℤ (Z -ℤ S *ℤ r))
    on r s = simp expand (omega (arith, ints))

both_below : (C : List Point) (low high : ℤ) (a b c : Point3) (u v w S Z : ℤ) → Facing C low high a b c u v w S Z → (S *ℤ b.z) ≤ℤ Z → (S *ℤ c.z) ≤ℤ Z → Mean C a b c u v w
both_below C low high a b c u v w S Z f hb hc =
    by_lt_z Z (S *ℤ a.z)
    (λ h. apex C a b c (S *ℤ a.z -ℤ Z) (Z -ℤ S *ℤ b.z) (Z -ℤ S *ℤ c.z) u v w (less h) f.v_least f.w_least
    (same_from (add_same (mul_same S (sym f.height)) (mul_same Z f.sum)) (simp expand (omega (arith, ints))))
    (at_level C low high a b S Z (Z -ℤ S *ℤ b.z) (S *ℤ a.z -ℤ Z) f.ab f.some f.from f.to (at_least hb) (at_least (le_of h)) (on a.z b.z))
    (at_level C low high a c S Z (Z -ℤ S *ℤ c.z) (S *ℤ a.z -ℤ Z) f.ac f.some f.from f.to (at_least hc) (at_least (le_of h)) (on a.z c.z)))
    (λ h. none_above C low high a b c u v w S Z f h hb hc)
  where
    on : (r s : ℤ) → S *ℤ ((Z -ℤ S *ℤ s) *ℤ r +ℤ (S *ℤ r -ℤ Z) *ℤ s) ≡ Z *ℤ ((Z -ℤ S *ℤ s) +ℤ (S *ℤ r -ℤ Z))
    on r s = simp expand (omega (arith, ints))

-- ---- each of the three corners in turn
turned : (C : List Point) (low high : ℤ) (a b c : Point3) (u v w S Z : ℤ) → Facing C low high a b c u v w S Z → Facing C low high b c a v w u S Z
turned C low high a b c u v w S Z f = record {
  ab = f.bc;
  ac = edge_back C low high a b f.ab;
  bc = edge_back C low high a c f.ac;
  u_least = f.v_least;
  v_least = f.w_least;
  w_least = f.u_least;
  some = f.some;
  from = f.from;
  to = f.to;
  sum = last S u v w f.sum;
  height = last Z (u *ℤ a.z) (v *ℤ b.z) (w *ℤ c.z) f.height;
}
  where
    last : (n r s t : ℤ) → n ≡ r +ℤ (s +ℤ t) → n ≡ s +ℤ (t +ℤ r)
    last n r s t e = omega (arith, ints)

mean_back : (C : List Point) (a b c : Point3) (u v w : ℤ) → Mean C b c a v w u → Mean C a b c u v w
mean_back C a b c u v w m =
    cone_part C (pos 1) (pos 1) (v *ℤ b.x +ℤ (w *ℤ c.x +ℤ u *ℤ a.x)) (v *ℤ b.y +ℤ (w *ℤ c.y +ℤ u *ℤ a.y)) (v +ℤ (w +ℤ u)) (u *ℤ a.x +ℤ (v *ℤ b.x +ℤ w *ℤ c.x)) (u *ℤ a.y +ℤ (v *ℤ b.y +ℤ w *ℤ c.y)) (u +ℤ (v +ℤ w))
    (omega (arith, ints)) (omega (arith, ints)) m (first (u *ℤ a.x) (v *ℤ b.x) (w *ℤ c.x)) (first (u *ℤ a.y) (v *ℤ b.y) (w *ℤ c.y)) (first u v w)
  where
    first : (r s t : ℤ) → pos 1 *ℤ (r +ℤ (s +ℤ t)) ≡ pos 1 *ℤ (s +ℤ (t +ℤ r))
    first r s t = omega (arith, ints)

-- two of three corners lie on one side of the mean
pub triangle : (C : List Point) (low high : ℤ) (a b c : Point3) (u v w S Z : ℤ) → Facing C low high a b c u v w S Z → Mean C a b c u v w
triangle C low high a b c u v w S Z f =
    let g = turned C low high a b c u v w S Z f in
    let h = turned C low high b c a v w u S Z g in
    let by_b : Mean C b c a v w u → Mean C a b c u v w = mean_back C a b c u v w in
    let by_c : Mean C c a b w u v → Mean C a b c u v w = λ m. mean_back C a b c u v w (mean_back C b c a v w u m) in
    by_lt_z Z (S *ℤ b.z)
    (λ b_above. by_lt_z Z (S *ℤ c.z)
    (λ c_above. both_above C low high a b c u v w S Z f (le_of b_above) (le_of c_above))
    (λ c_below. by_lt_z Z (S *ℤ a.z)
    (λ a_above. by_c (both_above C low high c a b w u v S Z h (le_of a_above) (le_of b_above)))
    (λ a_below. by_b (both_below C low high b c a v w u S Z g c_below a_below))))
    (λ b_below. by_lt_z Z (S *ℤ c.z)
    (λ c_above. by_lt_z Z (S *ℤ a.z)
    (λ a_above. by_b (both_above C low high b c a v w u S Z g (le_of c_above) (le_of a_above)))
    (λ a_below. by_c (both_below C low high c a b w u v S Z h a_below b_below)))
    (λ c_below. both_below C low high a b c u v w S Z f b_below c_below))
