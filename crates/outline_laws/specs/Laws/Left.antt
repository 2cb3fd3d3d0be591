-- A point is inner to the corners of an outline with area exactly where it lies to the left of each edge.
--
--   is_left q u v          whether the point lies to the left of the way from u to v
--   all_left q u vs        of each edge from u along vs
--   inner_where_left       three corners or more
--   is_at q c              whether it is the corner
--   is_between q u v       whether it lies on the line of two corners, strictly between them
--   is_inner_to q C        of any corners
--   inner_where            it is inner to them exactly there
use Rattle.std.proofs.Common.{◌≡◌, ◌≤◌, length, List, [], ◌∷◌, refl, ap, ap₂, sym, subst, ◌∙◌, arith, ℤ, pos, neg_ℤ, ◌+ℤ◌, ◌-ℤ◌, ◌*ℤ◌, ◌≤ℤ◌, ◌<ℤ◌, ◌↔◌, inl, inr, Bool, true, false, ◌&&◌}
use Rattle.std.specs.Prelude.{int_lt}
use Rattle.std.specs.Ordering.{int_eq}
use Rattle.std.proofs.lemmas.Int.{ints, by_lt_z}
use Rattle.std.proofs.lemmas.Bool.Decides.{nat_tests}
use Rattle.std.proofs.lemmas.Bool.{and_parts}
use Rattle.integer_laws.specs.Laws.Ring.{expand}
use Rattle.integer_laws.specs.Laws.Order.{same_from, lt_from}
use Rattle.integer_laws.specs.Members.{In}
use Rattle.seq_model.specs.Outlines.{Inner}
use Rattle.seq_model.specs.Points.{Point, IsPoint}
use Rattle.seq_model.specs.Sides.{along}
use Rattle.seq_model.specs.declared.printer.Spot.{Spot}
use Rattle.seq_model.specs.declared.tree.Dir.{Dir}
use Rattle.model_laws.specs.Laws.Turning.{left_by_list}
use Rattle.outline_laws.specs.Corners.{turn, turn_at, AreCorners, IsBefore}
use Rattle.outline_laws.specs.Laws.Edges.{square_nonneg, square_positive}
use Rattle.outline_laws.specs.Laws.Keeping.{mean_of_ends, on_segment}
use Rattle.outline_laws.specs.Laws.Means.{inner_below, inner_level}
use Rattle.outline_laws.specs.Laws.Vectors.{height, opposite}
use Rattle.outline_laws.specs.Laws.Polygons.{last_of, IsLeft}
use Rattle.outline_laws.specs.Beyond.{IsLeftOfEachEdge}
use Rattle.outline_laws.specs.Laws.Within.{left_of_polygon, inner_polygon}
use Rattle.outline_laws.specs.Laws.Ahead.{raw, no_truth}
use Rattle.outline_laws.specs.Laws.Loops.{last_in_list}

abbrev pub is_left : Point → Spot → Spot → Bool
is_left q u v = int_lt ((raw u v).x *ℤ q.x +ℤ (raw u v).y *ℤ q.y) (along (raw u v) u *ℤ q.d)

abbrev pub all_left : Point → Spot → List Spot → Bool
all_left q u [] = true
all_left q u (v ∷ vs) = is_left q u v && all_left q v vs

turn_is : (u v : Spot) (q : Point) → turn_at u v q ≡ along (raw u v) u *ℤ q.d -ℤ ((raw u v).x *ℤ q.x +ℤ (raw u v).y *ℤ q.y)
turn_is u v q = simp expand (omega (arith, ints))

left_true : (m n t : ℤ) → t ≡ n -ℤ m → int_lt m n ≡ true → pos 0 <ℤ t
left_true m n t f e = grind (arith, ints, nat_tests)

true_left : (m n t : ℤ) → t ≡ n -ℤ m → pos 0 <ℤ t → int_lt m n ≡ true
true_left m n t f h = grind (arith, ints, nat_tests)

left_steps : (q : Point) (u : Spot) (vs : List Spot) → all_left q u vs ≡ true → IsLeft q u vs
left_steps q u [] e = tt
left_steps q u (v ∷ vs) e =
    let both = and_parts (is_left q u v) (all_left q v vs) e in
    (left_true ((raw u v).x *ℤ q.x +ℤ (raw u v).y *ℤ q.y) (along (raw u v) u *ℤ q.d) (turn_at u v q) (turn_is u v q) both.0, left_steps q v vs both.1)

steps_left : (q : Point) (u : Spot) (vs : List Spot) → IsLeft q u vs → all_left q u vs ≡ true
steps_left q u [] s = refl
steps_left q u (v ∷ vs) s =
    ap₂ (λ a b. a && b) (true_left ((raw u v).x *ℤ q.x +ℤ (raw u v).y *ℤ q.y) (along (raw u v) u *ℤ q.d) (turn_at u v q) (turn_is u v q) s.0) (steps_left q v vs s.1)

pub inner_where_left : (C : List Spot) (q : Point) → AreCorners C → 3 ≤ length C → IsPoint q → (all_left q (last_in_list C) C ≡ true) ↔ Inner C q
inner_where_left [] q are h is = absurd (omega (arith, h))
inner_where_left (a ∷ []) q are h is = absurd (omega (arith, h))
inner_where_left (a ∷ b ∷ []) q are h is = absurd (omega (arith, h))
inner_where_left (a ∷ b ∷ c ∷ cs) q are h is =
    let t = left_by_list (a ∷ b ∷ c ∷ cs) are in
    (λ e. inner_polygon a b c cs t q is (left_steps q (last_of c cs) (a ∷ b ∷ c ∷ cs) e), λ m. steps_left q (last_of c cs) (a ∷ b ∷ c ∷ cs) (left_of_polygon a b c cs t q m))

-- ---- in words
pub left_of_inner_corners : (C : List Spot) (q : Point) → AreCorners C → 3 ≤ length C → IsPoint q → Inner C q → IsLeftOfEachEdge C q
left_of_inner_corners [] q are h is m = absurd (omega (arith, h))
left_of_inner_corners (a ∷ []) q are h is m = absurd (omega (arith, h))
left_of_inner_corners (a ∷ b ∷ []) q are h is m = absurd (omega (arith, h))
left_of_inner_corners (a ∷ b ∷ c ∷ cs) q are h is m = left_of_polygon a b c cs (left_by_list (a ∷ b ∷ c ∷ cs) are) q m

pub inner_corners_of_left : (C : List Spot) (q : Point) → AreCorners C → 3 ≤ length C → IsPoint q → IsLeftOfEachEdge C q → Inner C q
inner_corners_of_left [] q are h is m = absurd (omega (arith, h))
inner_corners_of_left (a ∷ []) q are h is m = absurd (omega (arith, h))
inner_corners_of_left (a ∷ b ∷ []) q are h is m = absurd (omega (arith, h))
inner_corners_of_left (a ∷ b ∷ c ∷ cs) q are h is m = inner_polygon a b c cs (left_by_list (a ∷ b ∷ c ∷ cs) are) q is m

-- ---- one corner, and two
abbrev pub is_at : Point → Spot → Bool
is_at q c = int_eq q.x (c.x *ℤ q.d) && int_eq q.y (c.y *ℤ q.d)

abbrev pub ahead : Spot → Spot → Dir
ahead u v = record { x = neg_ℤ (raw u v).y; y = (raw u v).x }

abbrev pub value : Dir → Point → ℤ
value dir q = dir.x *ℤ q.x +ℤ dir.y *ℤ q.y

abbrev pub is_between : Point → Spot → Spot → Bool
is_between q u v =
    int_eq (value (raw u v) q) (along (raw u v) u *ℤ q.d)
    && (int_lt (along (ahead u v) u *ℤ q.d) (value (ahead u v) q) && int_lt (value (ahead u v) q) (along (ahead u v) v *ℤ q.d))

abbrev pub is_inner_to : Point → List Spot → Bool
is_inner_to q [] = false
is_inner_to q (c ∷ []) = is_at q c
is_inner_to q (u ∷ v ∷ []) = is_between q u v
is_inner_to q (a ∷ b ∷ c ∷ cs) = all_left q (last_of c cs) (a ∷ b ∷ c ∷ cs)

eq_true : (m n : ℤ) → int_eq m n ≡ true → m ≡ n
eq_true m n e = grind (arith, ints, nat_tests)

true_eq : (m n : ℤ) → m ≡ n → int_eq m n ≡ true
true_eq m n e = grind (arith, ints, nat_tests)

lt_true : (m n : ℤ) → int_lt m n ≡ true → m <ℤ n
lt_true m n e = grind (arith, ints, nat_tests)

true_lt : (m n : ℤ) → m <ℤ n → int_lt m n ≡ true
true_lt m n h = grind (arith, ints, nat_tests)

inner_at : (c : Spot) (q : Point) → IsPoint q → is_at q c ≡ true → Inner (c ∷ []) q
inner_at c q is e =
    let both = and_parts (int_eq q.x (c.x *ℤ q.d)) (int_eq q.y (c.y *ℤ q.d)) e in
    record {
      point = is;
      w = pos 1 ∷ [];
      weights = (omega (arith, ints), tt);
      some = omega (arith, ints);
      x = of c.x q.x (eq_true q.x (c.x *ℤ q.d) both.0);
      y = of c.y q.y (eq_true q.y (c.y *ℤ q.d) both.1);
    }
  where
    of : (m n : ℤ) → n ≡ m *ℤ q.d → q.d *ℤ (pos 1 *ℤ m +ℤ pos 0) ≡ n *ℤ (pos 1 *ℤ pos 1 +ℤ pos 0)
    of m n h = same_from h (simp expand (omega (arith, ints)))

at_inner : (c : Spot) (q : Point) → Inner (c ∷ []) q → is_at q c ≡ true
at_inner c q m = ap₂ (λ a b. a && b) (true_eq q.x (c.x *ℤ q.d) (number q.x q.y c.x c.y (level (pos 1) (pos 0)))) (true_eq q.y (c.y *ℤ q.d) (other q.x q.y c.x c.y (level (pos 0) (pos 1))))
  where
    level : (x y : ℤ) → x *ℤ q.x +ℤ y *ℤ q.y ≡ (x *ℤ c.x +ℤ y *ℤ c.y) *ℤ q.d
    level x y = inner_level x y (x *ℤ c.x +ℤ y *ℤ c.y) (c ∷ []) q same m
      where
        same : (s : Spot) → In s (c ∷ []) → height x y s ≡ x *ℤ c.x +ℤ y *ℤ c.y
        same s (inl e) = ap (height x y) e
        same s (inr i) = absurd i

    number : (a b u v : ℤ) → pos 1 *ℤ a +ℤ pos 0 *ℤ b ≡ (pos 1 *ℤ u +ℤ pos 0 *ℤ v) *ℤ q.d → a ≡ u *ℤ q.d
    number a b u v h = same_from h (simp expand (omega (arith, ints)))

    other : (a b u v : ℤ) → pos 0 *ℤ a +ℤ pos 1 *ℤ b ≡ (pos 0 *ℤ u +ℤ pos 1 *ℤ v) *ℤ q.d → b ≡ v *ℤ q.d
    other a b u v h = same_from h (simp expand (omega (arith, ints)))

-- how far the second lies ahead of the first
length_ahead : (u v : Spot) → IsBefore u v → along (ahead u v) u <ℤ along (ahead u v) v
length_ahead u v h = lt_from (norm (v.x -ℤ u.x) (v.y -ℤ u.y) some) (simp expand (omega (arith, ints)))
  where
    some : v.x -ℤ u.x ≡ pos 0 → v.y -ℤ u.y ≡ pos 0 → ⊥
    some e f = let l = h.1 (omega (arith, ints)) in absurd (omega (arith, ints, l, f))

    norm : (x y : ℤ) → (x ≡ pos 0 → y ≡ pos 0 → ⊥) → pos 0 <ℤ (x *ℤ x +ℤ y *ℤ y)
    norm x y n = by_lt_z (pos 0) (x *ℤ x) (λ k. let l = square_nonneg y in omega (arith, ints, k, l)) (λ k. flat (square_zero k))
      where
        square_zero : (x *ℤ x) ≤ℤ pos 0 → x ≡ pos 0
        square_zero k = by_lt_z x (pos 0) (λ l. never (square_positive x (λ e. absurd (omega (arith, ints)))) k) (λ l. by_lt_z (pos 0) x (λ m. never (square_positive x (λ e. absurd (omega (arith, ints)))) k) (λ m. omega (arith, ints)))
          where
            never : {P : Type 0} {n : ℤ} → pos 0 <ℤ n → n ≤ℤ pos 0 → P
            never p q = absurd (omega (arith, ints, p, q))

        flat : x ≡ pos 0 → pos 0 <ℤ (x *ℤ x +ℤ y *ℤ y)
        flat e = let k = square_nonneg x in let l = square_positive y (n e) in omega (arith, ints, k, l)

inner_between : (u v : Spot) (q : Point) → IsPoint q → is_between q u v ≡ true → Inner (u ∷ v ∷ []) q
inner_between u v q is e =
    let t = ahead u v in
    let one = and_parts (int_eq (value (raw u v) q) (along (raw u v) u *ℤ q.d)) (int_lt (along (ahead u v) u *ℤ q.d) (value (ahead u v) q) && int_lt (value (ahead u v) q) (along (ahead u v) v *ℤ q.d)) e in
    let two = and_parts (int_lt (along (ahead u v) u *ℤ q.d) (value (ahead u v) q)) (int_lt (value (ahead u v) q) (along (ahead u v) v *ℤ q.d)) one.1 in
    let a = over _ _ (lt_true (along (ahead u v) u *ℤ q.d) (value (ahead u v) q) two.0) in
    let b = over _ _ (lt_true (value (ahead u v) q) (along (ahead u v) v *ℤ q.d) two.1) in
    mean_of_ends (pos 1) t.x t.y u v q is (level (eq_true (value (raw u v) q) (along (raw u v) u *ℤ q.d) one.0)) (sum _ _ b a) b a
  where
    over : (m n : ℤ) → m <ℤ n → pos 1 ≤ℤ (n -ℤ m)
    over m n h = omega (arith, ints)

    sum : (m n : ℤ) → pos 1 ≤ℤ m → pos 1 ≤ℤ n → pos 0 <ℤ (m +ℤ n)
    sum m n h k = omega (arith, ints)

    level : value (raw u v) q ≡ along (raw u v) u *ℤ q.d → turn_at u v q ≡ pos 0
    level f = turn_is u v q ∙ zero_of _ _ f
      where
        zero_of : (m n : ℤ) → m ≡ n → n -ℤ m ≡ pos 0
        zero_of m n h = omega (arith, ints)

between_inner : (u v : Spot) (q : Point) → IsBefore u v → Inner (u ∷ v ∷ []) q → is_between q u v ≡ true
between_inner u v q before m =
    ap₂ (λ a b. a && b) (true_eq (value (raw u v) q) (along (raw u v) u *ℤ q.d) level)
    (ap₂ (λ a b. a && b) (true_lt (along (ahead u v) u *ℤ q.d) (value (ahead u v) q) behind) (true_lt (value (ahead u v) q) (along (ahead u v) v *ℤ q.d) below))
  where
    longer : along (ahead u v) u <ℤ along (ahead u v) v
    longer = length_ahead u v before

    on_line : (s : Spot) → In s (u ∷ v ∷ []) → turn u v s ≡ pos 0
    on_line s (inl e) = subst (λ t. turn u v t ≡ pos 0) (sym e) at_u
      where
        at_u : turn u v u ≡ pos 0
        at_u = simp expand (omega (arith, ints))
    on_line s (inr (inl e)) = subst (λ t. turn u v t ≡ pos 0) (sym e) at_v
      where
        at_v : turn u v v ≡ pos 0
        at_v = simp expand (omega (arith, ints))
    on_line s (inr (inr i)) = absurd i

    level : value (raw u v) q ≡ along (raw u v) u *ℤ q.d
    level = same_of _ _ (sym (turn_is u v q) ∙ on_segment u v (u ∷ v ∷ []) q on_line m)
      where
        same_of : (m n : ℤ) → n -ℤ m ≡ pos 0 → m ≡ n
        same_of m n h = omega (arith, ints)

    below : value (ahead u v) q <ℤ (along (ahead u v) v *ℤ q.d)
    below = inner_below (ahead u v).x (ahead u v).y (along (ahead u v) v) (u ∷ v ∷ []) q most u (inl refl) longer m
      where
        most : (s : Spot) → In s (u ∷ v ∷ []) → height (ahead u v).x (ahead u v).y s ≤ℤ along (ahead u v) v
        most s (inl e) = subst (λ t. along (ahead u v) t ≤ℤ along (ahead u v) v) (sym e) (weak longer)
          where
            weak : {m n : ℤ} → m <ℤ n → m ≤ℤ n
            weak h = omega (arith, ints)
        most s (inr (inl e)) = subst (λ t. along (ahead u v) t ≤ℤ along (ahead u v) v) (sym e) (omega (arith, ints))
        most s (inr (inr i)) = absurd i

    behind : (along (ahead u v) u *ℤ q.d) <ℤ value (ahead u v) q
    behind = turned (ahead u v).x (ahead u v).y q.x q.y (along (ahead u v) u) q.d (inner_below nx ny (neg_ℤ (along (ahead u v) u)) (u ∷ v ∷ []) q most v (inr (inl refl)) (lower _ _ _ (opposite (ahead u v).x (ahead u v).y v) longer) m)
      where
        nx : ℤ
        nx = neg_ℤ (ahead u v).x

        ny : ℤ
        ny = neg_ℤ (ahead u v).y

        turned : (hx hy qx qy g d : ℤ) → (neg_ℤ hx *ℤ qx +ℤ neg_ℤ hy *ℤ qy) <ℤ (neg_ℤ g *ℤ d) → (g *ℤ d) <ℤ (hx *ℤ qx +ℤ hy *ℤ qy)
        turned hx hy qx qy g d h = lt_from h (simp expand (omega (arith, ints)))

        lower : (m n o : ℤ) → m ≡ neg_ℤ n → o <ℤ n → m <ℤ neg_ℤ o
        lower m n o e h = omega (arith, ints)

        falls : (m n o : ℤ) → m ≡ neg_ℤ n → o ≤ℤ n → m ≤ℤ neg_ℤ o
        falls m n o e h = omega (arith, ints)

        weak : {m n : ℤ} → m <ℤ n → m ≤ℤ n
        weak h = omega (arith, ints)

        most : (s : Spot) → In s (u ∷ v ∷ []) → height (neg_ℤ (ahead u v).x) (neg_ℤ (ahead u v).y) s ≤ℤ neg_ℤ (along (ahead u v) u)
        most s i = falls _ _ _ (opposite (ahead u v).x (ahead u v).y s) (least i)
          where
            least : In s (u ∷ v ∷ []) → along (ahead u v) u ≤ℤ along (ahead u v) s
            least (inl e) = subst (λ t. along (ahead u v) u ≤ℤ along (ahead u v) t) (sym e) (omega (arith, ints))
            least (inr (inl e)) = subst (λ t. along (ahead u v) u ≤ℤ along (ahead u v) t) (sym e) (weak longer)
            least (inr (inr j)) = absurd j

no_corner : (q : Point) → Inner [] q → false ≡ true
no_corner q m = absurd (never m.w m.some)
  where
    never : (w : List ℤ) → pos 1 ≤ℤ pos 0 → ⊥
    never w h = absurd (omega (arith, ints, h))

pub inner_where : (C : List Spot) (q : Point) → AreCorners C → IsPoint q → (is_inner_to q C ≡ true) ↔ Inner C q
inner_where [] q are is = ((λ e. no_truth e), no_corner q)
inner_where (c ∷ []) q are is = (inner_at c q is, at_inner c q)
inner_where (u ∷ v ∷ []) q are is = (inner_between u v q is, between_inner u v q (are.least 1 (omega arith) (omega arith)))
inner_where (a ∷ b ∷ c ∷ cs) q are is = inner_where_left (a ∷ b ∷ c ∷ cs) q are (omega arith) is
