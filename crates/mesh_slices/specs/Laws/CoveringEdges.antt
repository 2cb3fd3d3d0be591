-- A point of an edge whose height lies in a slab is a mean of the edge's corner points there: the ends in the slab, and the
-- crossings with its two planes. Lists are seen as cones: weights u and w of the ends p and q give the vector
-- (u * p.x + w * q.x, u * p.y + w * q.y, u + w).
--
--   Vertex C low high p      p is in the cone of C, if it lies in the slab
--   Crossing C h p q         and so is the crossing with the height h, if p lies below h and q above it
--   Edge C low high p q      and so is each point of the edge that lies in the slab
--   edge                     an edge is one, if its ends and its crossings are
use Rattle.std.proofs.Common.{◌≡◌, List, sym, arith, ℤ, pos, ◌+ℤ◌, ◌-ℤ◌, ◌*ℤ◌, ◌≤ℤ◌, ◌<ℤ◌}
use Rattle.std.proofs.lemmas.Int.{ints, by_lt_z}
use Rattle.integer_laws.specs.Laws.Ring.{expand}
use Rattle.integer_laws.specs.Laws.Order.{le_from, lt_from, same_from, le_of_same, add_le, add_lt_le, add_le_lt, add_same, mul_le, mul_lt, mul_same, mul_positive, cancel_le}
use Rattle.seq_model.specs.declared.mesh.Point3.{Point3}
use Rattle.seq_model.specs.Points.{Point}
use Rattle.mesh_slices.specs.Laws.Covering.{InCone, cone_zero, cone_sum, cone_part}

abbrev pub Vertex : List Point → ℤ → ℤ → Point3 → Type 0
Vertex C low high p = low ≤ℤ p.z → p.z ≤ℤ high → InCone C p.x p.y (pos 1)

-- the point of the edge at a height, times the rise of the edge
abbrev pub AtHeight : List Point → ℤ → Point3 → Point3 → Type 0
AtHeight C h p q = InCone C (p.x *ℤ (q.z -ℤ h) +ℤ q.x *ℤ (h -ℤ p.z)) (p.y *ℤ (q.z -ℤ h) +ℤ q.y *ℤ (h -ℤ p.z)) (q.z -ℤ p.z)

abbrev pub Crossing : List Point → ℤ → Point3 → Point3 → Type 0
Crossing C h p q = p.z <ℤ h → h <ℤ q.z → AtHeight C h p q

abbrev pub Edge : List Point → ℤ → ℤ → Point3 → Point3 → Type 0
Edge C low high p q =
    (u w : ℤ) → pos 0 ≤ℤ u → pos 0 ≤ℤ w → (low *ℤ (u +ℤ w)) ≤ℤ (u *ℤ p.z +ℤ w *ℤ q.z) → (u *ℤ p.z +ℤ w *ℤ q.z) ≤ℤ (high *ℤ (u +ℤ w))
    → InCone C (u *ℤ p.x +ℤ w *ℤ q.x) (u *ℤ p.y +ℤ w *ℤ q.y) (u +ℤ w)

less : {a b : ℤ} → a <ℤ b → pos 0 <ℤ (b -ℤ a)
less h = omega (arith, ints)

at_least : {a b : ℤ} → a ≤ℤ b → pos 0 ≤ℤ (b -ℤ a)
at_least h = omega (arith, ints)

le_of : {a b : ℤ} → a <ℤ b → a ≤ℤ b
le_of h = omega (arith, ints)

pub edge_back : (C : List Point) (low high : ℤ) (p q : Point3) → Edge C low high p q → Edge C low high q p
edge_back C low high p q e u w h k from to =
    cone_part C (pos 1) (pos 1) (w *ℤ p.x +ℤ u *ℤ q.x) (w *ℤ p.y +ℤ u *ℤ q.y) (w +ℤ u) (u *ℤ q.x +ℤ w *ℤ p.x) (u *ℤ q.y +ℤ w *ℤ p.y) (u +ℤ w) (omega (arith, ints)) (omega (arith, ints))
    (e w u k h (le_from from (simp expand (omega (arith, ints)))) (le_from to (simp expand (omega (arith, ints))))) (turned u w p.x q.x) (turned u w p.y q.y) (omega (arith, ints))
  where
    turned : (u w a b : ℤ) → pos 1 *ℤ (u *ℤ b +ℤ w *ℤ a) ≡ pos 1 *ℤ (w *ℤ a +ℤ u *ℤ b)
    turned u w a b = simp expand (omega (arith, ints))

-- ---- only one end has weight
at_end : (C : List Point) (p q : Point3) (u w : ℤ) → pos 0 ≤ℤ u → w ≡ pos 0 → (pos 0 <ℤ u → InCone C p.x p.y (pos 1)) → InCone C (u *ℤ p.x +ℤ w *ℤ q.x) (u *ℤ p.y +ℤ w *ℤ q.y) (u +ℤ w)
at_end C p q u w h e vertex =
    by_lt_z (pos 0) u
    (λ some. cone_part C (pos 1) u p.x p.y (pos 1) (u *ℤ p.x +ℤ w *ℤ q.x) (u *ℤ p.y +ℤ w *ℤ q.y) (u +ℤ w) (omega (arith, ints)) h (vertex some) (alone p.x q.x) (alone p.y q.y) (omega (arith, ints)))
    (λ none. let z : u ≡ pos 0 = omega (arith, ints) in
    cone_part C (pos 1) (pos 1) (pos 0) (pos 0) (pos 0) (u *ℤ p.x +ℤ w *ℤ q.x) (u *ℤ p.y +ℤ w *ℤ q.y) (u +ℤ w) (omega (arith, ints)) (omega (arith, ints)) (cone_zero C) (nothing p.x q.x z) (nothing p.y q.y z) (omega (arith, ints)))
  where
    alone : (a b : ℤ) → pos 1 *ℤ (u *ℤ a +ℤ w *ℤ b) ≡ u *ℤ a
    alone a b = same_from (mul_same b e) (simp expand (omega (arith, ints)))

    nothing : (a b : ℤ) → u ≡ pos 0 → pos 1 *ℤ (u *ℤ a +ℤ w *ℤ b) ≡ pos 1 *ℤ pos 0
    nothing a b z = same_from (add_same (mul_same a z) (mul_same b e)) (simp expand (omega (arith, ints)))

-- ---- an edge that rises from p to q
-- q lies no higher than the slab's low plane
under : (C : List Point) (low high : ℤ) (p q : Point3) → low <ℤ high → p.z <ℤ q.z → q.z ≤ℤ low → Vertex C low high q → Edge C low high q p
under C low high p q slab rise h vertex u w hu hw from to =
    at_end C q p u w hu none (λ some. vertex (by_lt_z q.z low (λ below. absurd (both (add_lt_le (mul_lt u some below) (mul_le w hw (le_of (before rise h)))))) (λ r. r)) (le_of (past h slab)))
  where
    past : {a b c : ℤ} → a ≤ℤ b → b <ℤ c → a <ℤ c
    past h k = omega (arith, ints)

    before : {a b c : ℤ} → a <ℤ b → b ≤ℤ c → a <ℤ c
    before h k = omega (arith, ints)

    zero : pos 0 <ℤ pos 0 → ⊥
    zero h = omega (arith, ints)

    both : (u *ℤ q.z +ℤ w *ℤ p.z) <ℤ (u *ℤ low +ℤ w *ℤ low) → ⊥
    both f = zero (lt_from (add_lt_le f from) (simp expand (omega (arith, ints))))

    none : w ≡ pos 0
    none = by_lt_z (pos 0) w (λ some. absurd (both (add_le_lt (mul_le u hu h) (mul_lt w some (before rise h))))) (λ r. omega (arith, ints))

-- p lies no lower than its high plane
over : (C : List Point) (low high : ℤ) (p q : Point3) → low <ℤ high → p.z <ℤ q.z → high ≤ℤ p.z → Vertex C low high p → Edge C low high p q
over C low high p q slab rise h vertex u w hu hw from to =
    at_end C p q u w hu none (λ some. vertex (omega (arith, ints)) (by_lt_z high p.z (λ above. absurd (both (add_lt_le (mul_lt u some above) (mul_le w hw (le_of (past h rise)))))) (λ r. r)))
  where
    past : {a b c : ℤ} → a ≤ℤ b → b <ℤ c → a <ℤ c
    past h k = omega (arith, ints)

    zero : pos 0 <ℤ pos 0 → ⊥
    zero h = omega (arith, ints)

    both : (u *ℤ high +ℤ w *ℤ high) <ℤ (u *ℤ p.z +ℤ w *ℤ q.z) → ⊥
    both f = zero (lt_from (add_lt_le f to) (simp expand (omega (arith, ints))))

    none : w ≡ pos 0
    none = by_lt_z (pos 0) w (λ some. absurd (both (add_le_lt (mul_le u hu h) (mul_lt w some (past h rise))))) (λ r. omega (arith, ints))

-- the lower end of the part in the slab
record Lower (C : List Point) (low high : ℤ) (p q : Point3) : Type 0 where
  pub level : ℤ
  pub below_high : level <ℤ high
  pub below_end : level <ℤ q.z
  pub reached : (u w : ℤ) → pos 0 ≤ℤ w → (low *ℤ (u +ℤ w)) ≤ℤ (u *ℤ p.z +ℤ w *ℤ q.z) → (level *ℤ (u +ℤ w)) ≤ℤ (u *ℤ p.z +ℤ w *ℤ q.z)
  pub point : AtHeight C level p q

lower : (C : List Point) (low high : ℤ) (p q : Point3) → low <ℤ high → p.z <ℤ q.z → p.z <ℤ high → low <ℤ q.z → Vertex C low high p → Crossing C low p q → Lower C low high p q
lower C low high p q slab rise below above vertex crossing =
    by_lt_z p.z low
    (λ h. record { level = low; below_high = slab; below_end = above; reached = λ u w k from. from; point = crossing h above })
    (λ h. record {
      level = p.z;
      below_high = below;
      below_end = rise;
      reached = λ u w k from. le_from (mul_le w k (le_of rise)) (simp expand (omega (arith, ints)));
      point = cone_part C (pos 1) (q.z -ℤ p.z) p.x p.y (pos 1) (p.x *ℤ (q.z -ℤ p.z) +ℤ q.x *ℤ (p.z -ℤ p.z)) (p.y *ℤ (q.z -ℤ p.z) +ℤ q.y *ℤ (p.z -ℤ p.z)) (q.z -ℤ p.z) (omega (arith, ints)) (at_least (le_of rise)) (vertex h (le_of below))
          (alone p.x q.x p.z q.z) (alone p.y q.y p.z q.z) (rise_is p.z q.z);
    })
  where
    alone : (a b r s : ℤ) → pos 1 *ℤ (a *ℤ (s -ℤ r) +ℤ b *ℤ (r -ℤ r)) ≡ (s -ℤ r) *ℤ a
    alone a b r s = simp expand (omega (arith, ints))

    rise_is : (r s : ℤ) → pos 1 *ℤ (s -ℤ r) ≡ (s -ℤ r) *ℤ pos 1
    rise_is r s = omega (arith, ints)

-- and the upper end
record Upper (C : List Point) (low high : ℤ) (p q : Point3) : Type 0 where
  pub level : ℤ
  pub above : (n : ℤ) → n <ℤ high → n <ℤ q.z → n <ℤ level
  pub reached : (u w : ℤ) → pos 0 ≤ℤ u → (u *ℤ p.z +ℤ w *ℤ q.z) ≤ℤ (high *ℤ (u +ℤ w)) → (u *ℤ p.z +ℤ w *ℤ q.z) ≤ℤ (level *ℤ (u +ℤ w))
  pub point : AtHeight C level p q

upper : (C : List Point) (low high : ℤ) (p q : Point3) → p.z <ℤ q.z → p.z <ℤ high → low <ℤ q.z → Vertex C low high q → Crossing C high p q → Upper C low high p q
upper C low high p q rise below above vertex crossing =
    by_lt_z high q.z
    (λ h. record { level = high; above = λ n k m. k; reached = λ u w k to. to; point = crossing below h })
    (λ h. record {
      level = q.z;
      above = λ n k m. m;
      reached = λ u w k to. le_from (mul_le u k (le_of rise)) (simp expand (omega (arith, ints)));
      point = cone_part C (pos 1) (q.z -ℤ p.z) q.x q.y (pos 1) (p.x *ℤ (q.z -ℤ q.z) +ℤ q.x *ℤ (q.z -ℤ p.z)) (p.y *ℤ (q.z -ℤ q.z) +ℤ q.y *ℤ (q.z -ℤ p.z)) (q.z -ℤ p.z) (omega (arith, ints)) (at_least (le_of rise)) (vertex (le_of above) h)
          (alone p.x q.x p.z q.z) (alone p.y q.y p.z q.z) (rise_is p.z q.z);
    })
  where
    alone : (a b r s : ℤ) → pos 1 *ℤ (a *ℤ (s -ℤ s) +ℤ b *ℤ (s -ℤ r)) ≡ (s -ℤ r) *ℤ b
    alone a b r s = simp expand (omega (arith, ints))

    rise_is : (r s : ℤ) → pos 1 *ℤ (s -ℤ r) ≡ (s -ℤ r) *ℤ pos 1
    rise_is r s = omega (arith, ints)

-- a point between the two ends is a mean of them, by its distances from the other one's height
between : (C : List Point) (low high : ℤ) (p q : Point3) → p.z <ℤ q.z → Lower C low high p q → Upper C low high p q → Edge C low high p q
between C low high p q rise l h u w hu hw from to =
    let Z = u *ℤ p.z +ℤ w *ℤ q.z in
    cone_sum C ((h.level -ℤ l.level) *ℤ (q.z -ℤ p.z)) (h.level *ℤ (u +ℤ w) -ℤ Z) (Z -ℤ l.level *ℤ (u +ℤ w))
    (p.x *ℤ (q.z -ℤ l.level) +ℤ q.x *ℤ (l.level -ℤ p.z)) (p.y *ℤ (q.z -ℤ l.level) +ℤ q.y *ℤ (l.level -ℤ p.z)) (q.z -ℤ p.z)
    (p.x *ℤ (q.z -ℤ h.level) +ℤ q.x *ℤ (h.level -ℤ p.z)) (p.y *ℤ (q.z -ℤ h.level) +ℤ q.y *ℤ (h.level -ℤ p.z)) (q.z -ℤ p.z)
    (u *ℤ p.x +ℤ w *ℤ q.x) (u *ℤ p.y +ℤ w *ℤ q.y) (u +ℤ w)
    (mul_positive (h.level -ℤ l.level) (q.z -ℤ p.z) (less (h.above l.level l.below_high l.below_end)) (less rise))
    (at_least (h.reached u w hu to)) (at_least (l.reached u w hw from)) l.point h.point
    (mean h.level l.level u w p.z q.z p.x q.x) (mean h.level l.level u w p.z q.z p.y q.y) (share h.level l.level u w p.z q.z)
  where
    part : (h l u w r s : ℤ) → ((h -ℤ l) *ℤ (s -ℤ r)) *ℤ u ≡ (h *ℤ (u +ℤ w) -ℤ (u *ℤ r +ℤ w *ℤ s)) *ℤ (s -ℤ l) +ℤ ((u *ℤ r +ℤ w *ℤ s) -ℤ l *ℤ (u +ℤ w)) *ℤ (s -ℤ h)
    part h l u w r s = simp expand (omega (arith, ints))

    rest : (h l u w r s : ℤ) → ((h -ℤ l) *ℤ (s -ℤ r)) *ℤ w ≡ (h *ℤ (u +ℤ w) -ℤ (u *ℤ r +ℤ w *ℤ s)) *ℤ (l -ℤ r) +ℤ ((u *ℤ r +ℤ w *ℤ s) -ℤ l *ℤ (u +ℤ w)) *ℤ (h -ℤ r)
    rest h l u w r s = simp expand (omega (arith, ints))

    both : (m u w i j v1 v2 v3 v4 a b : ℤ) → m *ℤ u ≡ i *ℤ v1 +ℤ j *ℤ v2 → m *ℤ w ≡ i *ℤ v3 +ℤ j *ℤ v4 → m *ℤ (u *ℤ a +ℤ w *ℤ b) ≡ i *ℤ (a *ℤ v1 +ℤ b *ℤ v3) +ℤ j *ℤ (a *ℤ v2 +ℤ b *ℤ v4)
    both m u w i j v1 v2 v3 v4 a b e f = same_from (add_same (mul_same a e) (mul_same b f)) (simp expand (omega (arith, ints)))

    mean : (h l u w r s a b : ℤ) → ((h -ℤ l) *ℤ (s -ℤ r)) *ℤ (u *ℤ a +ℤ w *ℤ b)
        ≡ (h *ℤ (u +ℤ w) -ℤ (u *ℤ r +ℤ w *ℤ s)) *ℤ (a *ℤ (s -ℤ l) +ℤ b *ℤ (l -ℤ r)) +ℤ ((u *ℤ r +ℤ w *ℤ s) -ℤ l *ℤ (u +ℤ w)) *ℤ (a *ℤ (s -ℤ h) +ℤ b *ℤ (h -ℤ r))
    mean h l u w r s a b = both ((h -ℤ l) *ℤ (s -ℤ r)) u w (h *ℤ (u +ℤ w) -ℤ (u *ℤ r +ℤ w *ℤ s)) ((u *ℤ r +ℤ w *ℤ s) -ℤ l *ℤ (u +ℤ w)) (s -ℤ l) (s -ℤ h) (l -ℤ r) (h -ℤ r) a b (part h l u w r s) (rest h l u w r s)

    share : (h l u w r s : ℤ) → ((h -ℤ l) *ℤ (s -ℤ r)) *ℤ (u +ℤ w) ≡ (h *ℤ (u +ℤ w) -ℤ (u *ℤ r +ℤ w *ℤ s)) *ℤ (s -ℤ r) +ℤ ((u *ℤ r +ℤ w *ℤ s) -ℤ l *ℤ (u +ℤ w)) *ℤ (s -ℤ r)
    share h l u w r s = simp expand (omega (arith, ints))

rising : (C : List Point) (low high : ℤ) (p q : Point3) → low <ℤ high → p.z <ℤ q.z → Vertex C low high p → Vertex C low high q → Crossing C low p q → Crossing C high p q → Edge C low high p q
rising C low high p q slab rise vp vq cl ch =
    by_lt_z low q.z
    (λ above. by_lt_z p.z high (λ below. between C low high p q rise (lower C low high p q slab rise below above vp cl) (upper C low high p q rise below above vq ch)) (λ h. over C low high p q slab rise h vp))
    (λ h. edge_back C low high q p (under C low high p q slab rise h vq))

-- ---- a level edge
level : (C : List Point) (low high : ℤ) (p q : Point3) → p.z ≡ q.z → Vertex C low high p → Vertex C low high q → Edge C low high p q
level C low high p q e vp vq u w hu hw from to =
    by_lt_z (pos 0) (u +ℤ w) some
    (λ none. let zero : w ≡ pos 0 = omega (arith, ints) in at_end C p q u w hu zero (λ more. absurd (omega (arith, ints))))
  where
    sum : (u w a b : ℤ) → pos 1 *ℤ (u *ℤ a +ℤ w *ℤ b) ≡ u *ℤ a +ℤ w *ℤ b
    sum u w a b = simp expand

    some : pos 0 <ℤ (u +ℤ w) → InCone C (u *ℤ p.x +ℤ w *ℤ q.x) (u *ℤ p.y +ℤ w *ℤ q.y) (u +ℤ w)
    some more =
        let from_low : low ≤ℤ p.z = cancel_le (u +ℤ w) more (le_from (add_le from (le_of_same (mul_same w (sym e)))) (simp expand (omega (arith, ints)))) in
        let to_high : p.z ≤ℤ high = cancel_le (u +ℤ w) more (le_from (add_le to (le_of_same (mul_same w e))) (simp expand (omega (arith, ints)))) in
        cone_sum C (pos 1) u w p.x p.y (pos 1) q.x q.y (pos 1) (u *ℤ p.x +ℤ w *ℤ q.x) (u *ℤ p.y +ℤ w *ℤ q.y) (u +ℤ w) (omega (arith, ints)) hu hw (vp from_low to_high) (vq (omega (arith, ints)) (omega (arith, ints)))
        (sum u w p.x q.x) (sum u w p.y q.y) (omega (arith, ints))

-- ---- any edge
pub edge : (C : List Point) (low high : ℤ) (p q : Point3) → low <ℤ high → Vertex C low high p → Vertex C low high q
    → Crossing C low p q → Crossing C high p q → Crossing C low q p → Crossing C high q p → Edge C low high p q
edge C low high p q slab vp vq lu hu ld hd =
    by_lt_z p.z q.z (λ rise. rising C low high p q slab rise vp vq lu hu)
    (λ h. by_lt_z q.z p.z (λ fall. edge_back C low high q p (rising C low high q p slab fall vq vp ld hd)) (λ k. level C low high p q (omega (arith, ints)) vp vq))
