-- Cones: a point x / t, y / t as the vector (x, y, t), and the sums of multiples of members of a list.
--
--   InCone S x y t     a positive multiple of (x, y, t) is a sum of multiples of members, by numbers of at least 0
--   cone_zero          the zero vector is one
--   cone_sum           a fraction of a sum of multiples of two is one
--   cone_part          a fraction of a multiple of one is one
--   cone_member        a member is one
--   cone_through       what is in the cone of members of another cone is in that one, over a common grain
--   cone_in            and without a grain
--   cone_subset        what is in the cone of some members is in the cone of all
--   cone_within        a point within spots is in their cone
--   within_cone        and the other way
--   within_within      what is within a list whose members are within another is within that one
use Rattle.std.proofs.Common.{◌≡◌, ◌∙◌, List, [], ◌∷◌, map, All, refl, sym, subst, arith, ℤ, pos, neg_ℤ, ◌+ℤ◌, ◌*ℤ◌, ◌≤ℤ◌, ◌<ℤ◌, inl, inr}
use Rattle.std.proofs.lemmas.Int.{ints}
use Rattle.integer_laws.specs.Laws.Ring.{expand, mul-zero}
use Rattle.integer_laws.specs.Laws.Order.{le_of_same, add_same, mul_same, same_from, mul_nonneg, mul_positive}
use Rattle.integer_laws.specs.Vectors.{plus, scale}
use Rattle.integer_laws.specs.Weights.{AreWeights, weigh, total}
use Rattle.integer_laws.specs.Laws.Weights.{weigh-plus, weigh-scale, weigh-map, weights_plus, weights_scale, weights_map, weights_weaker}
use Rattle.integer_laws.specs.Members.{In}
use Rattle.integer_laws.specs.Laws.Members.{All-in, In-map_cases}
use Rattle.seq_model.specs.declared.printer.Spot.{Spot}
use Rattle.seq_model.specs.Outlines.{Within}
use Rattle.seq_model.specs.Points.{Point, IsPoint, at_spot}

pub record InCone (S : List Point) (x y t : ℤ) : Type 0 where
  pub m : ℤ
  pub positive : pos 0 <ℤ m
  pub w : List ℤ
  pub weights : AreWeights (pos 0) S w
  pub at_x : m *ℤ x ≡ weigh (λ p. p.x) S w
  pub at_y : m *ℤ y ≡ weigh (λ p. p.y) S w
  pub at_t : m *ℤ t ≡ weigh (λ p. p.d) S w

-- ---- the zero vector
abbrev none : List Point → List ℤ
none [] = []
none (p ∷ S) = pos 0 ∷ none S

weights_none : (S : List Point) → AreWeights (pos 0) S (none S)
weights_none [] = tt
weights_none (p ∷ S) = (omega (arith, ints), weights_none S)

weigh_none : (f : Point → ℤ) (S : List Point) → weigh f S (none S) ≡ pos 0
weigh_none f [] = refl
weigh_none f (p ∷ S) = let r = weigh_none f S in omega (arith, ints)

pub cone_zero : (S : List Point) → InCone S (pos 0) (pos 0) (pos 0)
cone_zero S = record {
  m = pos 1;
  positive = omega (arith, ints);
  w = none S;
  weights = weights_none S;
  at_x = sym (weigh_none (λ p. p.x) S);
  at_y = sym (weigh_none (λ p. p.y) S);
  at_t = sym (weigh_none (λ p. p.d) S);
}

-- ---- sums
weights_times : (t : ℤ) (S : List Point) (w : List ℤ) → pos 0 ≤ℤ t → AreWeights (pos 0) S w → AreWeights (pos 0) S (scale t w)
weights_times t S w h a = weights_weaker (pos 0) (t *ℤ pos 0) S (scale t w) (le_of_same (sym (mul-zero t))) (weights_scale t (pos 0) S w h a)

nonneg : {n : ℤ} → pos 0 <ℤ n → pos 0 ≤ℤ n
nonneg h = omega (arith, ints)

pub cone_sum : (S : List Point) (c a b x1 y1 t1 x2 y2 t2 x y t : ℤ) → pos 0 <ℤ c → pos 0 ≤ℤ a → pos 0 ≤ℤ b → InCone S x1 y1 t1 → InCone S x2 y2 t2
    → c *ℤ x ≡ a *ℤ x1 +ℤ b *ℤ x2 → c *ℤ y ≡ a *ℤ y1 +ℤ b *ℤ y2 → c *ℤ t ≡ a *ℤ t1 +ℤ b *ℤ t2 → InCone S x y t
cone_sum S c a b x1 y1 t1 x2 y2 t2 x y t p h k i j ex ey et =
    let u = scale (a *ℤ j.m) i.w in
    let v = scale (b *ℤ i.m) j.w in
    record {
      m = (i.m *ℤ j.m) *ℤ c;
      positive = mul_positive (i.m *ℤ j.m) c (mul_positive i.m j.m i.positive j.positive) p;
      w = plus u v;
      weights = weights_plus (pos 0) (pos 0) S u v (weights_times (a *ℤ j.m) S i.w (mul_nonneg a j.m h (nonneg j.positive)) i.weights) (weights_times (b *ℤ i.m) S j.w (mul_nonneg b i.m k (nonneg i.positive)) j.weights);
      at_x = one (λ p. p.x) x1 x2 x i.at_x j.at_x ex;
      at_y = one (λ p. p.y) y1 y2 y i.at_y j.at_y ey;
      at_t = one (λ p. p.d) t1 t2 t i.at_t j.at_t et;
    }
  where
    sum : (m n c a b x1 x2 x v1 v2 : ℤ) → m *ℤ x1 ≡ v1 → n *ℤ x2 ≡ v2 → c *ℤ x ≡ a *ℤ x1 +ℤ b *ℤ x2 → ((m *ℤ n) *ℤ c) *ℤ x ≡ (a *ℤ n) *ℤ v1 +ℤ (b *ℤ m) *ℤ v2
    sum m n c a b x1 x2 x v1 v2 e f g = same_from (add_same (mul_same (a *ℤ n) e) (add_same (mul_same (b *ℤ m) f) (mul_same (m *ℤ n) g))) (simp expand (omega (arith, ints)))

    one : (f : Point → ℤ) (x1 x2 x : ℤ) → i.m *ℤ x1 ≡ weigh f S i.w → j.m *ℤ x2 ≡ weigh f S j.w → c *ℤ x ≡ a *ℤ x1 +ℤ b *ℤ x2
        → ((i.m *ℤ j.m) *ℤ c) *ℤ x ≡ weigh f S (plus (scale (a *ℤ j.m) i.w) (scale (b *ℤ i.m) j.w))
    one f x1 x2 x e g k = rw (weigh-plus f S (scale (a *ℤ j.m) i.w) (scale (b *ℤ i.m) j.w), weigh-scale f (a *ℤ j.m) S i.w, weigh-scale f (b *ℤ i.m) S j.w) (sum i.m j.m c a b x1 x2 x (weigh f S i.w) (weigh f S j.w) e g k)

pub cone_part : (S : List Point) (c a x1 y1 t1 x y t : ℤ) → pos 0 <ℤ c → pos 0 ≤ℤ a → InCone S x1 y1 t1 → c *ℤ x ≡ a *ℤ x1 → c *ℤ y ≡ a *ℤ y1 → c *ℤ t ≡ a *ℤ t1 → InCone S x y t
cone_part S c a x1 y1 t1 x y t p h i ex ey et =
    cone_sum S c a (pos 0) x1 y1 t1 (pos 0) (pos 0) (pos 0) x y t p h (omega (arith, ints)) i (cone_zero S) (more x x1 ex) (more y y1 ey) (more t t1 et)
  where
    more : (x x1 : ℤ) → c *ℤ x ≡ a *ℤ x1 → c *ℤ x ≡ a *ℤ x1 +ℤ pos 0 *ℤ pos 0
    more x x1 e = omega (arith, ints)

-- ---- members
cone_more : (S : List Point) (p : Point) (x y t : ℤ) → InCone S x y t → InCone (p ∷ S) x y t
cone_more S p x y t i = record {
  m = i.m;
  positive = i.positive;
  w = pos 0 ∷ i.w;
  weights = (omega (arith, ints), i.weights);
  at_x = more (i.m *ℤ x) p.x (weigh (λ p. p.x) S i.w) i.at_x;
  at_y = more (i.m *ℤ y) p.y (weigh (λ p. p.y) S i.w) i.at_y;
  at_t = more (i.m *ℤ t) p.d (weigh (λ p. p.d) S i.w) i.at_t;
}
  where
    more : (l v r : ℤ) → l ≡ r → l ≡ pos 0 *ℤ v +ℤ r
    more l v r e = same_from e (simp expand (omega (arith, ints)))

cone_first : (p : Point) (S : List Point) → InCone (p ∷ S) p.x p.y p.d
cone_first p S = record {
  m = pos 1;
  positive = omega (arith, ints);
  w = pos 1 ∷ none S;
  weights = (omega (arith, ints), weights_none S);
  at_x = one p.x (weigh (λ p. p.x) S (none S)) (weigh_none (λ p. p.x) S);
  at_y = one p.y (weigh (λ p. p.y) S (none S)) (weigh_none (λ p. p.y) S);
  at_t = one p.d (weigh (λ p. p.d) S (none S)) (weigh_none (λ p. p.d) S);
}
  where
    one : (v r : ℤ) → r ≡ pos 0 → pos 1 *ℤ v ≡ pos 1 *ℤ v +ℤ r
    one v r e = omega (arith, ints)

pub cone_member : (S : List Point) (p : Point) → In p S → InCone S p.x p.y p.d
cone_member [] p i = absurd i
cone_member (q ∷ S) p (inl e) = subst (λ r. InCone (q ∷ S) r.x r.y r.d) (sym e) (cone_first q S)
cone_member (q ∷ S) p (inr i) = cone_more S q p.x p.y p.d (cone_member S p i)

-- ---- cones in cones
all_through : (S T : List Point) (g : ℤ) (w : List ℤ) → ((p : Point) → In p S → InCone T p.x p.y (p.d *ℤ g)) → AreWeights (pos 0) S w
    → InCone T (weigh (λ p. p.x) S w) (weigh (λ p. p.y) S w) (weigh (λ p. p.d) S w *ℤ g)
all_through [] T g w each a = subst (λ t. InCone T (pos 0) (pos 0) t) (zero g) (cone_zero T)
  where
    zero : (g : ℤ) → pos 0 ≡ pos 0 *ℤ g
    zero g = omega (arith, ints)
all_through (p ∷ S) T g [] each a = absurd a
all_through (p ∷ S) T g (k ∷ w) each a =
    let x = weigh (λ p. p.x) S w in
    let y = weigh (λ p. p.y) S w in
    let t = weigh (λ p. p.d) S w in
    cone_sum T (pos 1) k (pos 1) p.x p.y (p.d *ℤ g) x y (t *ℤ g) (k *ℤ p.x +ℤ x) (k *ℤ p.y +ℤ y) ((k *ℤ p.d +ℤ t) *ℤ g) (omega (arith, ints)) a.0 (omega (arith, ints))
    (each p (inl refl)) (all_through S T g w (λ q i. each q (inr i)) a.1) (plain k p.x x) (plain k p.y y) (grains k p.d t g)
  where
    plain : (k v r : ℤ) → pos 1 *ℤ (k *ℤ v +ℤ r) ≡ k *ℤ v +ℤ pos 1 *ℤ r
    plain k v r = simp expand

    grains : (k v r g : ℤ) → pos 1 *ℤ ((k *ℤ v +ℤ r) *ℤ g) ≡ k *ℤ (v *ℤ g) +ℤ pos 1 *ℤ (r *ℤ g)
    grains k v r g = simp expand

pub cone_through : (S T : List Point) (g x y t : ℤ) → ((p : Point) → In p S → InCone T p.x p.y (p.d *ℤ g)) → InCone S x y t → InCone T x y (t *ℤ g)
cone_through S T g x y t each i =
    cone_part T i.m (pos 1) (weigh (λ p. p.x) S i.w) (weigh (λ p. p.y) S i.w) (weigh (λ p. p.d) S i.w *ℤ g) x y (t *ℤ g) i.positive (omega (arith, ints)) (all_through S T g i.w each i.weights)
    (one (i.m *ℤ x) (weigh (λ p. p.x) S i.w) i.at_x) (one (i.m *ℤ y) (weigh (λ p. p.y) S i.w) i.at_y) (grains i.m t (weigh (λ p. p.d) S i.w) i.at_t)
  where
    one : (l r : ℤ) → l ≡ r → l ≡ pos 1 *ℤ r
    one l r e = omega (arith, ints)

    grains : (m t r : ℤ) → m *ℤ t ≡ r → m *ℤ (t *ℤ g) ≡ pos 1 *ℤ (r *ℤ g)
    grains m t r e = same_from (mul_same g e) (simp expand (omega (arith, ints)))

pub cone_in : (S T : List Point) (x y t : ℤ) → ((p : Point) → In p S → InCone T p.x p.y p.d) → InCone S x y t → InCone T x y t
cone_in S T x y t each i = subst (InCone T x y) (one t) (cone_through S T (pos 1) x y t (λ p k. subst (InCone T p.x p.y) (sym (one p.d)) (each p k)) i)
  where
    one : (n : ℤ) → n *ℤ pos 1 ≡ n
    one n = omega (arith, ints)

pub cone_subset : (S T : List Point) (x y t : ℤ) → ((p : Point) → In p S → In p T) → InCone S x y t → InCone T x y t
cone_subset S T x y t sub = cone_in S T x y t (λ p k. cone_member T p (sub p k))

-- ---- spots
pub cone_within : (S : List Spot) (q : Point) → Within S q → InCone (map at_spot S) q.x q.y q.d
cone_within S q v =
    let some = v.some in
    let d = v.point.positive in
    record {
      m = total S v.w;
      positive = omega (arith, ints);
      w = scale q.d v.w;
      weights = weights_times q.d (map at_spot S) v.w (omega (arith, ints)) (weights_on (pos 0) S v.w v.weights);
      at_x = at (λ p. p.x) q.x v.x;
      at_y = at (λ p. p.y) q.y v.y;
      at_t = at (λ p. p.d) q.d (swap q.d (total S v.w));
    }
  where
    swap : (a b : ℤ) → a *ℤ b ≡ a *ℤ b
    swap a b = refl

    weights_on : (least : ℤ) (S : List Spot) (w : List ℤ) → AreWeights least S w → AreWeights least (map at_spot S) w
    weights_on least [] [] a = tt
    weights_on least [] (k ∷ w) a = absurd a
    weights_on least (s ∷ S) [] a = absurd a
    weights_on least (s ∷ S) (k ∷ w) a = (a.0, weights_on least S w a.1)

    turned : (t x l : ℤ) → l ≡ x *ℤ t → t *ℤ x ≡ l
    turned t x l e = omega (arith, ints)

    at : (f : Point → ℤ) (x : ℤ) → q.d *ℤ weigh (λ s. f (at_spot s)) S v.w ≡ x *ℤ total S v.w → total S v.w *ℤ x ≡ weigh f (map at_spot S) (scale q.d v.w)
    at f x e = rw (weigh-scale f q.d (map at_spot S) v.w, weigh-map f at_spot S v.w) (turned (total S v.w) x (q.d *ℤ weigh (λ s. f (at_spot s)) S v.w) e)

pub within_cone : (S : List Spot) (q : Point) → IsPoint q → InCone (map at_spot S) q.x q.y q.d → Within S q
within_cone S q is i =
    let sum : i.m *ℤ q.d ≡ total S i.w = i.at_t ∙ weigh-map (λ p. p.d) at_spot S i.w in
    let d = is.positive in
    let some = mul_positive i.m q.d i.positive (omega (arith, ints)) in
    record {
      point = is;
      w = i.w;
      weights = weights_map (pos 0) at_spot S i.w i.weights;
      some = omega (arith, ints);
      x = mean i.m q.d q.x (weigh (λ s. s.x) S i.w) (total S i.w) (i.at_x ∙ weigh-map (λ p. p.x) at_spot S i.w) sum;
      y = mean i.m q.d q.y (weigh (λ s. s.y) S i.w) (total S i.w) (i.at_y ∙ weigh-map (λ p. p.y) at_spot S i.w) sum;
    }
  where
    mean : (m d x w t : ℤ) → m *ℤ x ≡ w → m *ℤ d ≡ t → d *ℤ w ≡ x *ℤ t
    mean m d x w t e f = same_from (add_same (mul_same x f) (mul_same (neg_ℤ d) e)) (simp expand (omega (arith, ints)))

-- what is within members of the hull is within the hull
pub within_within : (S C : List Spot) (q : Point) → All (λ s. Within C (at_spot s)) S → Within S q → Within C q
within_within S C q all v = within_cone C q v.point (cone_in (map at_spot S) (map at_spot C) q.x q.y q.d each (cone_within S q v))
  where
    each : (p : Point) → In p (map at_spot S) → InCone (map at_spot C) p.x p.y p.d
    each p i =
        let s = In-map_cases at_spot S p i in
        subst (λ r. InCone (map at_spot C) r.x r.y r.d) (sym s.2) (cone_within C (at_spot s.0) (All-in (λ t. Within C (at_spot t)) S s.0 all s.1))
