-- Means of the members of a list.
--
--   inner_below       a point that is inner to a list lies below a bound of its members' heights, if some member does
--   within_at_most    what is within it is no higher than the bound
--   inner_level       and on the height that all members have
--   add_member        a point that is inner to a list is inner to it with one more member that lies within it
--   member_within     each member of a list is within it
--   within_more       what is within a list is within a longer one
--   inner_of_corners  what is inner to members of a list, with every member within them, is inner to the list
--   same_members      inner to a list is a matter of its members, not of their order or number
use Rattle.std.proofs.Common.{◌≡◌, List, [], ◌∷◌, ◌++◌, take, drop, length, refl, sym, subst, ◌∙◌, arith, ℤ, pos, neg_ℤ, ◌+ℤ◌, ◌-ℤ◌, ◌*ℤ◌, ◌≤ℤ◌, ◌<ℤ◌, inl, inr}
use Rattle.std.proofs.lemmas.Int.{ints}
use Rattle.integer_laws.specs.Laws.Ring.{expand, mul-one}
use Rattle.integer_laws.specs.Laws.Order.{same_from, lt_from, add_same, add_le, add_lt_le, le_of_same, mul_same, mul_le, mul_lt, mul_positive, le_from, cancel_le, cancel_lt, cancel_same}
use Rattle.integer_laws.specs.Weights.{weigh, total, AreWeights}
use Rattle.integer_laws.specs.Laws.Weights.{weigh-linear, weigh_constant, weigh_below, weigh_at_most, weigh-append, weigh_joined, length-weights, weights_joined, weights_front, weights_rest, total_nonneg}
use Rattle.integer_laws.specs.Members.{In}
use Rattle.integer_laws.specs.Laws.Members.{In-append_right}
use Rattle.seq_model.specs.declared.printer.Spot.{Spot}
use Rattle.seq_model.specs.Points.{Point, at_spot}
use Rattle.seq_model.specs.Outlines.{Inner, Within}
use Rattle.outline_laws.specs.Laws.Vectors.{height}

-- ---- heights
mean_below : (x y g d t wx wy qx qy v : ℤ) → pos 0 <ℤ d → pos 0 <ℤ t → v <ℤ (g *ℤ t) → v ≡ x *ℤ wx +ℤ y *ℤ wy → d *ℤ wx ≡ qx *ℤ t → d *ℤ wy ≡ qy *ℤ t
    → (x *ℤ qx +ℤ y *ℤ qy) <ℤ (g *ℤ d)
mean_below x y g d t wx wy qx qy v p q h e ex ey =
    let facts = add_lt_le (mul_lt d p h) (add_le (le_of_same (mul_same d (sym e))) (add_le (le_of_same (mul_same x (sym ex))) (le_of_same (mul_same y (sym ey))))) in
    cancel_lt t q (lt_from facts (simp expand (omega (arith, ints))))

positive : {n : ℤ} → pos 1 ≤ℤ n → pos 0 <ℤ n
positive h = omega (arith, ints)

pub inner_below : (x y g : ℤ) (S : List Spot) (q : Point) → ((s : Spot) → In s S → height x y s ≤ℤ g) → (t : Spot) → In t S → height x y t <ℤ g → Inner S q
    → (x *ℤ q.x +ℤ y *ℤ q.y) <ℤ (g *ℤ q.d)
inner_below x y g S q most t i less m =
    mean_below x y g q.d (total S m.w) (weigh (λ s. s.x) S m.w) (weigh (λ s. s.y) S m.w) q.x q.y (weigh (λ s. x *ℤ s.x +ℤ y *ℤ s.y) S m.w) (positive m.point.positive) (positive m.some)
    (weigh_below (λ s. x *ℤ s.x +ℤ y *ℤ s.y) g S m.w t m.weights most i less) (weigh-linear x y (λ s. s.x) (λ s. s.y) S m.w) m.x m.y

at_most_by : (x y g d t wx wy qx qy v : ℤ) → pos 0 <ℤ d → pos 0 <ℤ t → v ≤ℤ (g *ℤ t) → v ≡ x *ℤ wx +ℤ y *ℤ wy → d *ℤ wx ≡ qx *ℤ t → d *ℤ wy ≡ qy *ℤ t
    → (x *ℤ qx +ℤ y *ℤ qy) ≤ℤ (g *ℤ d)
at_most_by x y g d t wx wy qx qy v p q h e ex ey =
    let facts = add_le (mul_le d (nonneg p) h) (add_le (le_of_same (mul_same d (sym e))) (add_le (le_of_same (mul_same x (sym ex))) (le_of_same (mul_same y (sym ey))))) in
    cancel_le t q (le_from facts (simp expand (omega (arith, ints))))
  where
    nonneg : {n : ℤ} → pos 0 <ℤ n → pos 0 ≤ℤ n
    nonneg h = omega (arith, ints)

pub within_at_most : (x y g : ℤ) (S : List Spot) (q : Point) → ((s : Spot) → In s S → height x y s ≤ℤ g) → Within S q → (x *ℤ q.x +ℤ y *ℤ q.y) ≤ℤ (g *ℤ q.d)
within_at_most x y g S q most m =
    at_most_by x y g q.d (total S m.w) (weigh (λ s. s.x) S m.w) (weigh (λ s. s.y) S m.w) q.x q.y (weigh (λ s. x *ℤ s.x +ℤ y *ℤ s.y) S m.w) (positive m.point.positive) (positive m.some)
    (weigh_at_most (λ s. x *ℤ s.x +ℤ y *ℤ s.y) g S m.w m.weights most) (weigh-linear x y (λ s. s.x) (λ s. s.y) S m.w) m.x m.y

mean_level : (x y g d t wx wy qx qy v : ℤ) → pos 0 <ℤ t → v ≡ g *ℤ t → v ≡ x *ℤ wx +ℤ y *ℤ wy → d *ℤ wx ≡ qx *ℤ t → d *ℤ wy ≡ qy *ℤ t → x *ℤ qx +ℤ y *ℤ qy ≡ g *ℤ d
mean_level x y g d t wx wy qx qy v p c e ex ey =
    cancel_same t p (same_from (add_same (mul_same d (sym e ∙ c)) (add_same (mul_same x (sym ex)) (mul_same y (sym ey)))) (simp expand (omega (arith, ints))))

pub inner_level : (x y g : ℤ) (S : List Spot) (q : Point) → ((s : Spot) → In s S → height x y s ≡ g) → Inner S q → x *ℤ q.x +ℤ y *ℤ q.y ≡ g *ℤ q.d
inner_level x y g S q same m =
    mean_level x y g q.d (total S m.w) (weigh (λ s. s.x) S m.w) (weigh (λ s. s.y) S m.w) q.x q.y (weigh (λ s. x *ℤ s.x +ℤ y *ℤ s.y) S m.w) (positive m.some)
    (weigh_constant (λ s. x *ℤ s.x +ℤ y *ℤ s.y) g S m.w same) (weigh-linear x y (λ s. s.x) (λ s. s.y) S m.w) m.x m.y

-- ---- one more member
-- m times the weights w, less the weights v
abbrev taken : ℤ → List ℤ → List ℤ → List ℤ
taken m [] v = []
taken m (k ∷ w) [] = []
taken m (k ∷ w) (j ∷ v) = (m *ℤ k -ℤ j) ∷ taken m w v

weigh_taken : (f : Spot → ℤ) (m : ℤ) (S : List Spot) (w v : List ℤ) → AreWeights (pos 1) S w → AreWeights (pos 0) S v → weigh f S (taken m w v) ≡ m *ℤ weigh f S w -ℤ weigh f S v
weigh_taken f m [] w v a b = simp expand (omega (arith, ints))
weigh_taken f m (s ∷ S) [] v a b = absurd a
weigh_taken f m (s ∷ S) (k ∷ w) [] a b = absurd b
weigh_taken f m (s ∷ S) (k ∷ w) (j ∷ v) a b = simp (weigh_taken f m S w v a.1 b.1, expand) (omega (arith, ints))

weights_taken : (b : ℤ) (S : List Spot) (w v : List ℤ) → pos 0 ≤ℤ b → AreWeights (pos 1) S w → AreWeights (pos 0) S v → total S v ≤ℤ b → AreWeights (pos 1) S (taken (b +ℤ pos 1) w v)
weights_taken b [] [] v p a c h = tt
weights_taken b [] (k ∷ w) v p a c h = absurd a
weights_taken b (s ∷ S) [] v p a c h = absurd a
weights_taken b (s ∷ S) (k ∷ w) [] p a c h = absurd c
weights_taken b (s ∷ S) (k ∷ w) (j ∷ v) p a c h =
    let rest = total_nonneg S v c.1 in
    let low = c.0 in
    let m = mul_le (b +ℤ pos 1) (omega (arith, ints)) a.0 in
    let one = mul-one (b +ℤ pos 1) in
    (omega (arith, ints), weights_taken b S w v p a.1 c.1 (omega (arith, ints)))

mixed_sum : (d x n u m sx w v : ℤ) → d *ℤ w ≡ x *ℤ n → v ≡ sx *ℤ u → d *ℤ (u *ℤ sx +ℤ (m *ℤ w -ℤ v)) ≡ x *ℤ (u *ℤ pos 1 +ℤ (m *ℤ n -ℤ u))
mixed_sum d x n u m sx w v e f = same_from (add_same (mul_same m e) (mul_same (neg_ℤ d) f)) (simp expand (omega (arith, ints)))

at_one : (a b : ℤ) → pos 1 *ℤ a ≡ b → a ≡ b
at_one a b e = omega (arith, ints)

pub add_member : (S : List Spot) (s : Spot) (q : Point) → Within S (at_spot s) → Inner S q → Inner (s ∷ S) q
add_member S s q v w =
    let u = total S v.w in
    let m = u +ℤ pos 1 in
    let list = taken m w.w v.w in
    let n = total S w.w in
    let sum = weigh_taken (λ t. pos 1) m S w.w v.w w.weights v.weights in
    let sx = weigh_taken (λ t. t.x) m S w.w v.w w.weights v.weights in
    let sy = weigh_taken (λ t. t.y) m S w.w v.w w.weights v.weights in
    let some_v = v.some in
    let some_w = w.some in
    let u_least : pos 0 ≤ℤ u = omega (arith, ints) in
    let more = mul_positive m n (omega (arith, ints)) (omega (arith, ints)) in
    record {
      point = w.point;
      w = u ∷ list;
      weights = (omega (arith, ints), weights_taken u S w.w v.w u_least w.weights v.weights (omega (arith, ints)));
      some = rw sum (omega (arith, ints));
      x = rw (sx, sum) (mixed_sum q.d q.x n u m s.x (weigh (λ t. t.x) S w.w) (weigh (λ t. t.x) S v.w) w.x (at_one _ _ v.x));
      y = rw (sy, sum) (mixed_sum q.d q.y n u m s.y (weigh (λ t. t.y) S w.w) (weigh (λ t. t.y) S v.w) w.y (at_one _ _ v.y));
    }

-- ---- a corner's weight goes to its own member
record Merged (S : List Spot) (c : Spot) (k : ℤ) (w : List ℤ) : Type 0 where
  pub list : List ℤ
  pub are : AreWeights (pos 1) S list
  pub weighs : (f : Spot → ℤ) → weigh f S list ≡ k *ℤ f c +ℤ weigh f S w

merge : (S : List Spot) (c : Spot) (k : ℤ) (w : List ℤ) → pos 0 ≤ℤ k → In c S → AreWeights (pos 1) S w → Merged S c k w
merge [] c k w h i a = absurd i
merge (s ∷ S) c k [] h i a = absurd a
merge (s ∷ S) c k (j ∷ w) h (inl e) a =
    let low = a.0 in
    record { list = (k +ℤ j) ∷ w; are = (omega (arith, ints), a.1); weighs = λ f. rw e (here (f s) (weigh f S w)) }
  where
    here : (v r : ℤ) → (k +ℤ j) *ℤ v +ℤ r ≡ k *ℤ v +ℤ (j *ℤ v +ℤ r)
    here v r = simp expand (omega (arith, ints))
merge (s ∷ S) c k (j ∷ w) h (inr i) a =
    let m = merge S c k w h i a.1 in
    record { list = j ∷ m.list; are = (a.0, m.are); weighs = λ f. let e = m.weighs f in omega (arith, ints) }

drop_corner : (S : List Spot) (c : Spot) (q : Point) → In c S → Inner (c ∷ S) q → Inner S q
drop_corner S c q i m = by m.w m.weights m.some m.x m.y
  where
    by : (w : List ℤ) → AreWeights (pos 1) (c ∷ S) w → pos 1 ≤ℤ total (c ∷ S) w → q.d *ℤ weigh (λ s. s.x) (c ∷ S) w ≡ q.x *ℤ total (c ∷ S) w → q.d *ℤ weigh (λ s. s.y) (c ∷ S) w ≡ q.y *ℤ total (c ∷ S) w → Inner S q
    by [] a p ex ey = absurd a
    by (k ∷ w) a p ex ey =
        let low = a.0 in
        let g = merge S c k w (omega (arith, ints)) i a.1 in
        record {
          point = m.point;
          w = g.list;
          weights = g.are;
          some = rw (g.weighs (λ s. pos 1)) p;
          x = rw (g.weighs (λ s. s.x), g.weighs (λ s. pos 1)) ex;
          y = rw (g.weighs (λ s. s.y), g.weighs (λ s. pos 1)) ey;
        }

drop_corners : (C S : List Spot) (q : Point) → ((c : Spot) → In c C → In c S) → Inner (C ++ S) q → Inner S q
drop_corners [] S q i m = m
drop_corners (c ∷ C) S q i m = drop_corners C S q (λ d j. i d (inr j)) (drop_corner (C ++ S) c q (In-append_right C S c (i c (inl refl))) m)

-- ---- within
pub within_more : (S : List Spot) (s : Spot) (q : Point) → Within S q → Within (s ∷ S) q
within_more S s q m =
    let some = m.some in
    record {
      point = m.point;
      w = pos 0 ∷ m.w;
      weights = (omega (arith, ints), m.weights);
      some = omega (arith, ints);
      x = zero_more q.d (weigh (λ t. t.x) S m.w) (total S m.w) q.x s.x m.x;
      y = zero_more q.d (weigh (λ t. t.y) S m.w) (total S m.w) q.y s.y m.y;
    }
  where
    zero_more : (d w t x v : ℤ) → d *ℤ w ≡ x *ℤ t → d *ℤ (pos 0 *ℤ v +ℤ w) ≡ x *ℤ (pos 0 *ℤ pos 1 +ℤ t)
    zero_more d w t x v e = same_from e (simp expand (omega (arith, ints)))

abbrev pub zeros : List Spot → List ℤ
zeros [] = []
zeros (s ∷ S) = pos 0 ∷ zeros S

pub weights_zeros : (S : List Spot) → AreWeights (pos 0) S (zeros S)
weights_zeros [] = tt
weights_zeros (s ∷ S) = (omega (arith, ints), weights_zeros S)

pub weigh_zeros : (f : Spot → ℤ) (S : List Spot) → weigh f S (zeros S) ≡ pos 0
weigh_zeros f [] = refl
weigh_zeros f (s ∷ S) = let r = weigh_zeros f S in omega (arith, ints)

first_within : (s : Spot) (S : List Spot) → Within (s ∷ S) (at_spot s)
first_within s S =
    let n = weigh_zeros (λ t. pos 1) S in
    record {
      point = record { positive = omega (arith, ints) };
      w = pos 1 ∷ zeros S;
      weights = (omega (arith, ints), weights_zeros S);
      some = omega (arith, ints);
      x = one_of s.x _ _ (weigh_zeros (λ t. t.x) S) n;
      y = one_of s.y _ _ (weigh_zeros (λ t. t.y) S) n;
    }
  where
    one_of : (v a b : ℤ) → a ≡ pos 0 → b ≡ pos 0 → pos 1 *ℤ (pos 1 *ℤ v +ℤ a) ≡ v *ℤ (pos 1 *ℤ pos 1 +ℤ b)
    one_of v a b e f = rw (e, f) (simp expand (omega (arith, ints)))

pub member_within : (s : Spot) (S : List Spot) → In s S → Within S (at_spot s)
member_within s [] i = absurd i
member_within s (x ∷ S) (inl e) = subst (λ t. Within (x ∷ S) (at_spot t)) (sym e) (first_within x S)
member_within s (x ∷ S) (inr i) = within_more S x (at_spot s) (member_within s S i)

-- ---- all members
record AllAdded (S C : List Spot) (q : Point) : Type 0 where
  pub inner : Inner (S ++ C) q
  pub within : (p : Point) → Within C p → Within (S ++ C) p

add_members : (S C : List Spot) (q : Point) → ((s : Spot) → In s S → Within C (at_spot s)) → Inner C q → AllAdded S C q
add_members [] C q v m = record { inner = m; within = λ p h. h }
add_members (s ∷ S) C q v m =
    let r = add_members S C q (λ t i. v t (inr i)) m in
    record { inner = add_member (S ++ C) s q (r.within (at_spot s) (v s (inl refl))) r.inner; within = λ p h. within_more (S ++ C) s p (r.within p h) }

swap : (S T : List Spot) (q : Point) → Inner (S ++ T) q → Inner (T ++ S) q
swap S T q m =
    let front = weights_front (pos 1) S T m.w m.weights in
    let rest = weights_rest (pos 1) S T m.w m.weights in
    record {
      point = m.point;
      w = drop (length S) m.w ++ take (length S) m.w;
      weights = weights_joined (pos 1) T S (drop (length S) m.w) (take (length S) m.w) rest front;
      some = rw (same rest (λ s. pos 1)) m.some;
      x = rw (same rest (λ s. s.x), same rest (λ s. pos 1)) m.x;
      y = rw (same rest (λ s. s.y), same rest (λ s. pos 1)) m.y;
    }
  where
    same : AreWeights (pos 1) T (drop (length S) m.w) → (f : Spot → ℤ) → weigh f (T ++ S) (drop (length S) m.w ++ take (length S) m.w) ≡ weigh f (S ++ T) m.w
    same rest f =
        let a = weigh_joined f T S (drop (length S) m.w) (take (length S) m.w) (length-weights (pos 1) T (drop (length S) m.w) rest) in
        let b = weigh-append f S T m.w in
        omega (arith, ints)

pub inner_of_corners : (C S : List Spot) (q : Point) → ((c : Spot) → In c C → In c S) → ((s : Spot) → In s S → Within C (at_spot s)) → Inner C q → Inner S q
inner_of_corners C S q i v m = let r = add_members S C q v m in drop_corners C S q i (swap S C q r.inner)

pub same_members : (A B : List Spot) (q : Point) → ((s : Spot) → In s A → In s B) → ((s : Spot) → In s B → In s A) → Inner A q → Inner B q
same_members A B q i j m = inner_of_corners A B q i (λ s k. member_within s A (j s k)) m
