-- The sides of a convex outline are the normals of its edges.
--
--   Edge u vs a b         a and b are neighbours on the way from u along vs
--   IsEdge C a b          neighbours on the closed way around C
--   HasNormal C dir       dir is the normal of an edge
--   side_of_normal        the normal of an edge of an outline is a side
--   normal_of_side        and each side is one
use Rattle.std.proofs.Common.{◌≡◌, List, [], ◌∷◌, refl, ap, ap₂, sym, subst, subst₂, ◌∙◌, arith, ℤ, pos, neg_ℤ, ◌+ℤ◌, ◌-ℤ◌, ◌*ℤ◌, ◌≤ℤ◌, ◌<ℤ◌, ◌⊎◌, inl, inr, unsigned_abs}
use Rattle.std.proofs.lemmas.Int.{ints, by_lt_z}
use Rattle.integer_laws.specs.Divisors.{IsPrimitive, AreCoprime, Reduces}
use Rattle.integer_laws.specs.Laws.Divisors.{reduced_unique}
use Rattle.integer_laws.specs.Members.{In}
use Rattle.integer_laws.specs.Laws.Members.{All-in, In-from_contains, Contains-from_in}
use Rattle.integer_laws.specs.Laws.Order.{le_from, lt_from, same_from, le_of_same, add_same, mul_same, mul_nonneg, mul_positive, cancel_same}
use Rattle.integer_laws.specs.Laws.Ring.{expand}
use Rattle.seq_model.specs.declared.printer.Spot.{Spot}
use Rattle.seq_model.specs.declared.tree.Dir.{Dir}
use Rattle.seq_model.specs.Points.{Point}
use Rattle.seq_model.specs.Sides.{along, greatest_along, Side, Beyond}
use Rattle.model_laws.specs.Laws.Turning.{left_by_list}
use Rattle.model_laws.specs.Turning.{TurnsLeft}
use Rattle.outline_laws.specs.Corners.{turn, turn_at, AreCorners, IsBefore, HasArea}
use Rattle.outline_laws.specs.Laws.Vectors.{turn_start, turn_end, turn_flipped}
use Rattle.outline_laws.specs.Laws.Polygons.{last_of, next_of, Steps, TurnsAlong, Seen, IsLeft}
use Rattle.outline_laws.specs.Laws.Within.{polygon_turns, polygon_sees, inner_polygon, no_three_on_a_line}
use Rattle.outline_laws.specs.Laws.EveryList.{Compared, compared}
use Rattle.outline_laws.specs.Laws.Sides.{greatest_of, not_both, some_below, IsNormal, Normal, normal_of, turn_value, side_of_edge, free_of_inner, last_in, apart_of_turn}

abbrev pub Edge : Spot → List Spot → Spot → Spot → Type 0
Edge u [] a b = ⊥
Edge u (v ∷ vs) a b = ((a ≡ u) × (b ≡ v)) ⊎ Edge v vs a b

abbrev pub IsEdge : List Spot → Spot → Spot → Type 0
IsEdge [] a b = ⊥
IsEdge (c ∷ cs) a b = Edge (last_of c cs) (c ∷ cs) a b

pub record HasNormal (C : List Spot) (dir : Dir) : Type 0 where
  pub a : Spot
  pub b : Spot
  pub edge : IsEdge C a b
  pub normal : IsNormal a b dir

-- ---- along the way
pub edge_step : (P : Spot → Spot → Type 0) (u : Spot) (vs : List Spot) (a b : Spot) → Steps P u vs → Edge u vs a b → P a b
edge_step P u [] a b s e = absurd e
edge_step P u (v ∷ vs) a b s (inl e) = subst (λ t. P t b) (sym e.0) (subst (λ t. P u t) (sym e.1) s.0)
edge_step P u (v ∷ vs) a b s (inr e) = edge_step P v vs a b s.1 e

pub edge_from : (u : Spot) (vs : List Spot) (a b : Spot) → Edge u vs a b → In a (u ∷ vs)
edge_from u [] a b e = absurd e
edge_from u (v ∷ vs) a b (inl e) = inl e.0
edge_from u (v ∷ vs) a b (inr e) = inr (edge_from v vs a b e)

pub edge_to : (u : Spot) (vs : List Spot) (a b : Spot) → Edge u vs a b → In b vs
edge_to u [] a b e = absurd e
edge_to u (v ∷ vs) a b (inl e) = inl e.1
edge_to u (v ∷ vs) a b (inr e) = inr (edge_to v vs a b e)

pub from_in : (C : List Spot) (a b : Spot) → IsEdge C a b → In a C
from_in [] a b e = absurd e
from_in (c ∷ cs) a b e = pick (edge_from (last_of c cs) (c ∷ cs) a b e)
  where
    pick : In a (last_of c cs ∷ c ∷ cs) → In a (c ∷ cs)
    pick (inl s) = subst (λ t. In t (c ∷ cs)) (sym s) (last_in c cs)
    pick (inr i) = i

pub to_in : (C : List Spot) (a b : Spot) → IsEdge C a b → In b C
to_in [] a b e = absurd e
to_in (c ∷ cs) a b e = edge_to (last_of c cs) (c ∷ cs) a b e

-- ---- an edge sees the outline
zero_nonneg : {n : ℤ} → n ≡ pos 0 → pos 0 ≤ℤ n
zero_nonneg e = omega (arith, ints)

pub outline_seen : (C : List Spot) → AreCorners C → (a b : Spot) → IsEdge C a b → Seen C a b
outline_seen [] are a b e = absurd e
outline_seen (c ∷ []) are a b e = λ s i. flat s (only (from_in (c ∷ []) a b e)) (only i)
  where
    only : {t : Spot} → In t (c ∷ []) → t ≡ c
    only (inl e) = e
    only (inr i) = absurd i

    flat : (s : Spot) → a ≡ c → s ≡ c → pos 0 ≤ℤ turn a b s
    flat s e f = subst (λ t. pos 0 ≤ℤ turn t b s) (sym e) (subst (λ t. pos 0 ≤ℤ turn c b t) (sym f) (zero_nonneg (turn_start c b)))
outline_seen (c ∷ d ∷ []) are a b e = edge_step (Seen (c ∷ d ∷ [])) d (c ∷ d ∷ []) a b (down, (up, tt)) e
  where
    down : Seen (c ∷ d ∷ []) d c
    down s (inl e) = subst (λ t. pos 0 ≤ℤ turn d c t) (sym e) (zero_nonneg (turn_end d c))
    down s (inr (inl e)) = subst (λ t. pos 0 ≤ℤ turn d c t) (sym e) (zero_nonneg (turn_start d c))
    down s (inr (inr i)) = absurd i

    up : Seen (c ∷ d ∷ []) c d
    up s (inl e) = subst (λ t. pos 0 ≤ℤ turn c d t) (sym e) (zero_nonneg (turn_start c d))
    up s (inr (inl e)) = subst (λ t. pos 0 ≤ℤ turn c d t) (sym e) (zero_nonneg (turn_end c d))
    up s (inr (inr i)) = absurd i
outline_seen (a ∷ b ∷ c ∷ cs) are u v e = edge_step (Seen (a ∷ b ∷ c ∷ cs)) (last_of c cs) (a ∷ b ∷ c ∷ cs) u v (polygon_sees a b c cs (left_by_list (a ∷ b ∷ c ∷ cs) are)) e

-- ---- a normal is of two different spots
pub normal_apart : (a b : Spot) (dir : Dir) → IsNormal a b dir → a ≡ b → ⊥
normal_apart a b dir n e = not_both dir.x dir.y n.primitive (zero n.k dir.x n.positive (sym n.x_is ∙ flat_y)) (zero n.k dir.y n.positive (sym n.y_is ∙ flat_x))
  where
    zero : (k x : ℤ) → pos 0 <ℤ k → k *ℤ x ≡ pos 0 → x ≡ pos 0
    zero k x h e = cancel_same k h (same_from e (simp expand (omega (arith, ints))))

    flat_y : b.y -ℤ a.y ≡ pos 0
    flat_y = let f = ap (λ (s : Spot). s.y) e in omega (arith, ints)

    flat_x : a.x -ℤ b.x ≡ pos 0
    flat_x = let f = ap (λ (s : Spot). s.x) e in omega (arith, ints)

pub side_of_normal : (C : List Spot) (dir : Dir) → AreCorners C → HasNormal C dir → Side C dir
side_of_normal C dir are h = side_of_edge C h.a h.b dir (from_in C h.a h.b h.edge) (to_in C h.a h.b h.edge) (normal_apart h.a h.b dir h.normal) (outline_seen C are h.a h.b h.edge) h.normal

-- ---- directions across one line
pub square_nonneg : (x : ℤ) → pos 0 ≤ℤ (x *ℤ x)
square_nonneg x = by_lt_z x (pos 0) (λ h. turned (mul_nonneg (neg_ℤ x) (neg_ℤ x) (omega (arith, ints)) (omega (arith, ints)))) (λ h. mul_nonneg x x h h)
  where
    turned : pos 0 ≤ℤ (neg_ℤ x *ℤ neg_ℤ x) → pos 0 ≤ℤ (x *ℤ x)
    turned h = le_from h (simp expand (omega (arith, ints)))

pub square_positive : (x : ℤ) → (x ≡ pos 0 → ⊥) → pos 0 <ℤ (x *ℤ x)
square_positive x n = by_lt_z x (pos 0) (λ h. turned (mul_positive (neg_ℤ x) (neg_ℤ x) (omega (arith, ints)) (omega (arith, ints)))) (λ h. by_lt_z (pos 0) x (λ k. mul_positive x x k k) (λ k. absurd (n (omega (arith, ints)))))
  where
    turned : pos 0 <ℤ (neg_ℤ x *ℤ neg_ℤ x) → pos 0 <ℤ (x *ℤ x)
    turned h = lt_from h (simp expand (omega (arith, ints)))

pub norm_positive : (x y : ℤ) → IsPrimitive x y → pos 0 <ℤ (x *ℤ x +ℤ y *ℤ y)
norm_positive x y prim = by_lt_z (pos 0) (x *ℤ x) (λ h. let k = square_nonneg y in omega (arith, ints, h, k)) (λ h. let k = square_positive y (λ e. none h e) in let l = square_nonneg x in omega (arith, ints, k, l))
  where
    none : (x *ℤ x) ≤ℤ pos 0 → y ≡ pos 0 → ⊥
    none h e = by_lt_z x (pos 0) (λ l. never (square_positive x (λ f. absurd (omega (arith, ints)))) h) (λ l. by_lt_z (pos 0) x (λ m. never (square_positive x (λ f. absurd (omega (arith, ints)))) h) (λ m. not_both x y prim (omega (arith, ints)) e))
      where
        never : {n : ℤ} → pos 0 <ℤ n → n ≤ℤ pos 0 → ⊥
        never p q = absurd (omega (arith, ints, p, q))

abbrev dir_of : ℤ → ℤ → Dir
dir_of x y = record { x = x; y = y }

pub crossed : (u v : Spot) (d e : Dir) → IsNormal u v e → along d u ≡ along d v → d.y *ℤ e.x -ℤ d.x *ℤ e.y ≡ pos 0
crossed u v d e n level = cancel_same n.k n.positive (cross_zero n.k (v.y -ℤ u.y) (u.x -ℤ v.x) n.x_is n.y_is (apart level))
  where
    apart : along d u ≡ along d v → d.x *ℤ (u.x -ℤ v.x) -ℤ d.y *ℤ (v.y -ℤ u.y) ≡ pos 0
    apart h = same_from h (simp expand (omega (arith, ints)))

    cross_zero : (k p q : ℤ) → p ≡ k *ℤ e.x → q ≡ k *ℤ e.y → d.x *ℤ q -ℤ d.y *ℤ p ≡ pos 0 → k *ℤ (d.y *ℤ e.x -ℤ d.x *ℤ e.y) ≡ k *ℤ pos 0
    cross_zero k p q f g h = same_from (add_same (mul_same (neg_ℤ (pos 1)) h) (add_same (mul_same (neg_ℤ d.y) f) (mul_same d.x g))) (simp expand (omega (arith, ints)))

same_size : (x : ℤ) → unsigned_abs (neg_ℤ x) ≡ unsigned_abs x
same_size x = omega (arith, ints)

pub back_primitive : (dir : Dir) → IsPrimitive dir.x dir.y → IsPrimitive (neg_ℤ dir.x) (neg_ℤ dir.y)
back_primitive dir p = subst₂ AreCoprime (sym (same_size dir.x)) (sym (same_size dir.y)) p

-- two primitive directions on one line through 0, the one ahead of the other
pub same_ahead : (d e : Dir) → IsPrimitive d.x d.y → IsPrimitive e.x e.y → d.y *ℤ e.x -ℤ d.x *ℤ e.y ≡ pos 0 → pos 0 <ℤ (d.x *ℤ e.x +ℤ d.y *ℤ e.y) → d ≡ e
same_ahead d e prim other z ahead =
    let c = e.x *ℤ e.x +ℤ e.y *ℤ e.y in
    let s = d.x *ℤ e.x +ℤ d.y *ℤ e.y in
    let one : Reduces (c *ℤ d.x) (c *ℤ d.y) d.x d.y = record { k = c; positive = norm_positive e.x e.y other; x_is = refl; y_is = refl; primitive = prim } in
    let two : Reduces (c *ℤ d.x) (c *ℤ d.y) e.x e.y = record { k = s; positive = ahead; x_is = to_x d.x d.y e.x e.y z; y_is = to_y d.x d.y e.x e.y z; primitive = other } in
    let same = reduced_unique (c *ℤ d.x) (c *ℤ d.y) d.x d.y e.x e.y one two in
    ap₂ dir_of same.0 same.1
  where
    to_x : (a b p q : ℤ) → b *ℤ p -ℤ a *ℤ q ≡ pos 0 → (p *ℤ p +ℤ q *ℤ q) *ℤ a ≡ (a *ℤ p +ℤ b *ℤ q) *ℤ p
    to_x a b p q z = same_from (mul_same (neg_ℤ q) z) (simp expand (omega (arith, ints)))

    to_y : (a b p q : ℤ) → b *ℤ p -ℤ a *ℤ q ≡ pos 0 → (p *ℤ p +ℤ q *ℤ q) *ℤ b ≡ (a *ℤ p +ℤ b *ℤ q) *ℤ q
    to_y a b p q z = same_from (mul_same p z) (simp expand (omega (arith, ints)))

-- what is across a line as a normal is, and points the same way, is that normal
pub same_normal : (u v : Spot) (d e : Dir) → IsPrimitive d.x d.y → IsNormal u v e → along d u ≡ along d v → pos 0 <ℤ (d.x *ℤ e.x +ℤ d.y *ℤ e.y) → d ≡ e
same_normal u v d e prim n level ahead = same_ahead d e prim n.primitive (crossed u v d e n level) ahead

-- ---- each side is a normal
pub same_or_apart : (a b : Spot) → (a ≡ b) ⊎ (a ≡ b → ⊥)
same_or_apart a b = pick (compared a b)
  where
    apart : (c d : Spot) → IsBefore c d → c ≡ d → ⊥
    apart c d h e = let l = h.1 (ap (λ (s : Spot). s.x) e) in let m = ap (λ (s : Spot). s.y) e in absurd (omega (arith, ints, l, m))

    pick : Compared a b → (a ≡ b) ⊎ (a ≡ b → ⊥)
    pick (inl h) = inr (apart a b h)
    pick (inr (inl e)) = inl e
    pick (inr (inr h)) = inr (λ e. apart b a h (sym e))

-- the two primitive directions across a line
pub either_way : (u v : Spot) (d : Dir) → (u ≡ v → ⊥) → IsPrimitive d.x d.y → along d u ≡ along d v → IsNormal u v d ⊎ IsNormal v u d
either_way u v d apart prim level =
    let n = normal_of u v apart in
    by_lt_z (pos 0) (d.x *ℤ n.dir.x +ℤ d.y *ℤ n.dir.y) (λ h. inl (subst (IsNormal u v) (sym (same_normal u v d n.dir prim n.is level h)) n.is))
    (λ h. by_lt_z (d.x *ℤ n.dir.x +ℤ d.y *ℤ n.dir.y) (pos 0) (λ k. inr (behind n k)) (λ k. absurd (none n (omega (arith, ints, h, k)))))
  where
    turned : (n : Normal u v) → IsNormal v u (dir_of (neg_ℤ n.dir.x) (neg_ℤ n.dir.y))
    turned n = record {
      k = n.is.k;
      positive = n.is.positive;
      x_is = same_from (mul_same (neg_ℤ (pos 1)) n.is.x_is) (simp expand (omega (arith, ints)));
      y_is = same_from (mul_same (neg_ℤ (pos 1)) n.is.y_is) (simp expand (omega (arith, ints)));
      primitive = back_primitive n.dir n.is.primitive;
    }

    behind : (n : Normal u v) → (d.x *ℤ n.dir.x +ℤ d.y *ℤ n.dir.y) <ℤ pos 0 → IsNormal v u d
    behind n k =
        let e = dir_of (neg_ℤ n.dir.x) (neg_ℤ n.dir.y) in
        subst (IsNormal v u) (sym (same_normal v u d e prim (turned n) (sym level) (lt_from k (simp expand (omega (arith, ints)))))) (turned n)

    none : (n : Normal u v) → d.x *ℤ n.dir.x +ℤ d.y *ℤ n.dir.y ≡ pos 0 → ⊥
    none n none_ahead =
        let z = crossed u v d n.dir n.is level in
        let c = norm_positive n.dir.x n.dir.y n.is.primitive in
        not_both d.x d.y prim (cancel_same _ c (flat_x d.x d.y n.dir.x n.dir.y z none_ahead)) (cancel_same _ c (flat_y d.x d.y n.dir.x n.dir.y z none_ahead))
      where
        flat_x : (a b p q : ℤ) → b *ℤ p -ℤ a *ℤ q ≡ pos 0 → a *ℤ p +ℤ b *ℤ q ≡ pos 0 → (p *ℤ p +ℤ q *ℤ q) *ℤ a ≡ (p *ℤ p +ℤ q *ℤ q) *ℤ pos 0
        flat_x a b p q z e = same_from (add_same (mul_same (neg_ℤ q) z) (mul_same p e)) (simp expand (omega (arith, ints)))

        flat_y : (a b p q : ℤ) → b *ℤ p -ℤ a *ℤ q ≡ pos 0 → a *ℤ p +ℤ b *ℤ q ≡ pos 0 → (p *ℤ p +ℤ q *ℤ q) *ℤ b ≡ (p *ℤ p +ℤ q *ℤ q) *ℤ pos 0
        flat_y a b p q z e = same_from (add_same (mul_same p z) (mul_same q e)) (simp expand (omega (arith, ints)))

abbrev middle : Spot → Spot → Point
middle a b = record { x = a.x +ℤ b.x; y = a.y +ℤ b.y; d = pos 2 }

-- all edges have the point to their left, or one hasn't
search_edges : (q : Point) (u : Spot) (vs : List Spot) → IsLeft q u vs ⊎ ((a : Spot) × (b : Spot) × Edge u vs a b × (turn_at a b q ≤ℤ pos 0))
search_edges q u [] = inl tt
search_edges q u (v ∷ vs) = by_lt_z (pos 0) (turn_at u v q) (λ h. pick h (search_edges q v vs)) (λ h. inr (u, v, inl (refl, refl), h))
  where
    pick : pos 0 <ℤ turn_at u v q → IsLeft q v vs ⊎ ((a : Spot) × (b : Spot) × Edge v vs a b × (turn_at a b q ≤ℤ pos 0)) → IsLeft q u (v ∷ vs) ⊎ ((a : Spot) × (b : Spot) × Edge u (v ∷ vs) a b × (turn_at a b q ≤ℤ pos 0))
    pick h (inl l) = inl (h, l)
    pick h (inr f) = inr (f.0, f.1, inr f.2, f.3)

middle_turn : (u v a b : Spot) → turn_at u v (middle a b) ≡ turn u v a +ℤ turn u v b
middle_turn u v a b = rw (double u.x, double u.y) (simp expand (omega (arith, ints)))
  where
    double : (t : ℤ) → pos 2 *ℤ t ≡ t +ℤ t
    double t = omega (arith, ints)

apart_along : (u : Spot) (vs : List Spot) (z : Spot) → TurnsAlong u vs z → Steps (λ a b. a ≡ b → ⊥) u vs
apart_along u [] z t = tt
apart_along u (v ∷ vs) z t = (apart_of_turn u v (next_of vs z) t.0, apart_along v vs z t.1)

pub area_of_turns : (a b c : Spot) (cs : List Spot) → TurnsLeft (a ∷ b ∷ c ∷ cs) → HasArea (a ∷ b ∷ c ∷ cs)
area_of_turns a b c cs t =
    let C = a ∷ b ∷ c ∷ cs in
    record {
      i = a;
      j = b;
      k = c;
      i_in = Contains-from_in C a (inl refl);
      j_in = Contains-from_in C b (inr (inl refl));
      k_in = Contains-from_in C c (inr (inr (inl refl)));
      turns = All-in (λ x. pos 0 <ℤ turn a b x) (c ∷ cs) c t.0.0 (inl refl);
    }

-- a side reaches both ends of one edge
at_edge : (a b c : Spot) (cs : List Spot) (dir : Dir) → TurnsLeft (a ∷ b ∷ c ∷ cs) → Side (a ∷ b ∷ c ∷ cs) dir
    → (u : Spot) × (v : Spot) × IsEdge (a ∷ b ∷ c ∷ cs) u v × (u ≡ v → ⊥) × (along dir u ≡ greatest_along dir (a ∷ b ∷ c ∷ cs)) × (along dir v ≡ greatest_along dir (a ∷ b ∷ c ∷ cs))
at_edge a b c cs dir t s = pick (search_edges m (last_of c cs) C)
  where
    C : List Spot
    C = a ∷ b ∷ c ∷ cs

    m : Point
    m = middle s.a s.b

    in_a : In s.a (a ∷ b ∷ c ∷ cs)
    in_a = In-from_contains (a ∷ b ∷ c ∷ cs) s.a s.a_in

    in_b : In s.b (a ∷ b ∷ c ∷ cs)
    in_b = In-from_contains (a ∷ b ∷ c ∷ cs) s.b s.b_in

    beyond : Beyond (a ∷ b ∷ c ∷ cs) dir (middle s.a s.b)
    beyond = far (greatest_along dir (a ∷ b ∷ c ∷ cs)) dir.x dir.y s.a.x s.a.y s.b.x s.b.y s.at_a s.at_b
      where
        far : (g x y ax ay bx by : ℤ) → x *ℤ ax +ℤ y *ℤ ay ≡ g → x *ℤ bx +ℤ y *ℤ by ≡ g → (g *ℤ pos 2) ≤ℤ (x *ℤ (ax +ℤ bx) +ℤ y *ℤ (ay +ℤ by))
        far g x y ax ay bx by e f = rw double (le_from (le_of_same (add_same (sym e) (sym f))) (simp expand (omega (arith, ints))))
          where
            double : g *ℤ pos 2 ≡ g +ℤ g
            double = omega (arith, ints)

    end : (u v : Spot) → IsEdge (a ∷ b ∷ c ∷ cs) u v → (u ≡ v → ⊥) → (w : Spot) → In w (a ∷ b ∷ c ∷ cs) → turn u v w ≡ pos 0 → (w ≡ u) ⊎ (w ≡ v)
    end u v e apart w i z = by (same_or_apart w u) (same_or_apart w v)
      where
        by : (w ≡ u) ⊎ (w ≡ u → ⊥) → (w ≡ v) ⊎ (w ≡ v → ⊥) → (w ≡ u) ⊎ (w ≡ v)
        by (inl f) g = inl f
        by (inr f) (inl g) = inr g
        by (inr f) (inr g) = absurd (no_three_on_a_line (a ∷ b ∷ c ∷ cs) t u v w (from_in (a ∷ b ∷ c ∷ cs) u v e) (to_in (a ∷ b ∷ c ∷ cs) u v e) i apart (λ h. g (sym h)) (λ h. f (sym h)) z)

    both : (u v : Spot) → ((s.a ≡ u) ⊎ (s.a ≡ v)) → ((s.b ≡ u) ⊎ (s.b ≡ v)) → (along dir u ≡ greatest_along dir (a ∷ b ∷ c ∷ cs)) × (along dir v ≡ greatest_along dir (a ∷ b ∷ c ∷ cs))
    both u v (inl e) (inl f) = absurd (s.apart (e ∙ sym f))
    both u v (inl e) (inr f) = (ap (along dir) (sym e) ∙ s.at_a, ap (along dir) (sym f) ∙ s.at_b)
    both u v (inr e) (inl f) = (ap (along dir) (sym f) ∙ s.at_b, ap (along dir) (sym e) ∙ s.at_a)
    both u v (inr e) (inr f) = absurd (s.apart (e ∙ sym f))

    zero_one : (x y z : ℤ) → z ≡ x +ℤ y → z ≤ℤ pos 0 → pos 0 ≤ℤ x → pos 0 ≤ℤ y → x ≡ pos 0
    zero_one x y z e h p q = omega (arith, ints)

    zero_two : (x y z : ℤ) → z ≡ x +ℤ y → z ≤ℤ pos 0 → pos 0 ≤ℤ x → pos 0 ≤ℤ y → y ≡ pos 0
    zero_two x y z e h p q = omega (arith, ints)

    pick : IsLeft (middle s.a s.b) (last_of c cs) (a ∷ b ∷ c ∷ cs) ⊎ ((u : Spot) × (v : Spot) × Edge (last_of c cs) (a ∷ b ∷ c ∷ cs) u v × (turn_at u v (middle s.a s.b) ≤ℤ pos 0))
        → (u : Spot) × (v : Spot) × IsEdge (a ∷ b ∷ c ∷ cs) u v × (u ≡ v → ⊥) × (along dir u ≡ greatest_along dir (a ∷ b ∷ c ∷ cs)) × (along dir v ≡ greatest_along dir (a ∷ b ∷ c ∷ cs))
    pick (inl left) = absurd (free_of_inner (a ∷ b ∷ c ∷ cs) (middle s.a s.b) (area_of_turns a b c cs t) (inner_polygon a b c cs t (middle s.a s.b) (record { positive = omega (arith, ints) }) left) dir s beyond)
    pick (inr f) =
        let u = f.0 in
        let v = f.1 in
        let sees = edge_step (Seen (a ∷ b ∷ c ∷ cs)) (last_of c cs) (a ∷ b ∷ c ∷ cs) u v (polygon_sees a b c cs t) f.2 in
        let apart = edge_step (λ a b. a ≡ b → ⊥) (last_of c cs) (a ∷ b ∷ c ∷ cs) u v (apart_along (last_of c cs) (a ∷ b ∷ c ∷ cs) a (polygon_turns a b c cs t)) f.2 in
        let e = middle_turn u v s.a s.b in
        let at = both u v (end u v f.2 apart s.a in_a (zero_one _ _ _ e f.3 (sees s.a in_a) (sees s.b in_b))) (end u v f.2 apart s.b in_b (zero_two _ _ _ e f.3 (sees s.a in_a) (sees s.b in_b))) in
        (u, v, f.2, apart, at.0, at.1)

pub normal_of_side : (C : List Spot) (dir : Dir) → AreCorners C → Side C dir → HasNormal C dir
normal_of_side [] dir are s = absurd (In-from_contains [] s.a s.a_in)
normal_of_side (c ∷ []) dir are s = absurd (s.apart (only s.a (In-from_contains (c ∷ []) s.a s.a_in) ∙ sym (only s.b (In-from_contains (c ∷ []) s.b s.b_in))))
  where
    only : (t : Spot) → In t (c ∷ []) → t ≡ c
    only t (inl e) = e
    only t (inr i) = absurd i
normal_of_side (c ∷ d ∷ []) dir are s = pick (In-from_contains (c ∷ d ∷ []) s.a s.a_in) (In-from_contains (c ∷ d ∷ []) s.b s.b_in)
  where
    from : (c ≡ d → ⊥) → along dir c ≡ along dir d → HasNormal (c ∷ d ∷ []) dir
    from apart level = by (either_way c d dir apart s.primitive level)
      where
        by : IsNormal c d dir ⊎ IsNormal d c dir → HasNormal (c ∷ d ∷ []) dir
        by (inl n) = record { a = c; b = d; edge = inr (inl (refl, refl)); normal = n }
        by (inr n) = record { a = d; b = c; edge = inl (refl, refl); normal = n }

    pick : In s.a (c ∷ d ∷ []) → In s.b (c ∷ d ∷ []) → HasNormal (c ∷ d ∷ []) dir
    pick (inl e) (inl f) = absurd (s.apart (e ∙ sym f))
    pick (inl e) (inr (inl f)) = from (λ h. s.apart (e ∙ h ∙ sym f)) (ap (along dir) (sym e) ∙ s.at_a ∙ sym s.at_b ∙ ap (along dir) f)
    pick (inr (inl e)) (inl f) = from (λ h. s.apart (e ∙ sym h ∙ sym f)) (ap (along dir) (sym f) ∙ s.at_b ∙ sym s.at_a ∙ ap (along dir) e)
    pick (inr (inl e)) (inr (inl f)) = absurd (s.apart (e ∙ sym f))
    pick i (inr (inr j)) = absurd j
    pick (inr (inr i)) j = absurd i
normal_of_side (a ∷ b ∷ c ∷ cs) dir are s =
    let t = left_by_list (a ∷ b ∷ c ∷ cs) are in
    let f = at_edge a b c cs dir t s in
    by t f.0 f.1 f.2 f.4 f.5 (either_way f.0 f.1 dir f.3 s.primitive (f.4 ∙ sym f.5))
  where
    by : TurnsLeft (a ∷ b ∷ c ∷ cs) → (u v : Spot) → IsEdge (a ∷ b ∷ c ∷ cs) u v → along dir u ≡ greatest_along dir (a ∷ b ∷ c ∷ cs) → along dir v ≡ greatest_along dir (a ∷ b ∷ c ∷ cs)
        → IsNormal u v dir ⊎ IsNormal v u dir → HasNormal (a ∷ b ∷ c ∷ cs) dir
    by t u v e p q (inl n) = record { a = u; b = v; edge = e; normal = n }
    by t u v e p q (inr n) =
        let C = a ∷ b ∷ c ∷ cs in
        let low = some_below C dir (greatest_along dir C) (area_of_turns a b c cs t) s.primitive (greatest_of dir C s.a (In-from_contains C s.a s.a_in)).bound in
        absurd (never low.at (outline_seen C are u v e low.at low.member) (turn_value v u low.at dir n) (subst (λ g. along dir low.at <ℤ g) (sym q) low.lower))
      where
        never : (w : Spot) → pos 0 ≤ℤ turn u v w → turn v u w ≡ n.k *ℤ (along dir v -ℤ along dir w) → along dir w <ℤ along dir v → ⊥
        never w seen e l =
            let p = mul_positive n.k (along dir v -ℤ along dir w) n.positive (up _ _ l) in
            let f = turn_flipped u v w in
            absurd (omega (arith, ints, seen, e, p, f))
          where
            up : (x y : ℤ) → x <ℤ y → pos 0 <ℤ (y -ℤ x)
            up x y h = omega (arith, ints)
