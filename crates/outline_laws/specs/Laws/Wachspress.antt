-- A point to the left of each edge of a convex polygon is inner to its corners: the weights of Wachspress, all positive.
-- The weight of a corner is the area that it spans with its neighbours, times what brings the areas of its two edges with the
-- point to one number.
--
--   from q s            the corner s, less the point q, times its denominator
--   Edges u vs z        the origin lies to the left of each edge from u along vs to z
--   Turns u vs z        the way from u along vs to z turns left at each corner of vs
--   final u vs          the last of u and vs
--   inner_if_left       the theorem
use Rattle.std.proofs.Common.{◌≡◌, List, [], ◌∷◌, map, refl, ap, sym, ◌∙◌, arith, ℤ, pos, ◌+ℤ◌, ◌-ℤ◌, ◌*ℤ◌, ◌<ℤ◌}
use Rattle.std.proofs.lemmas.Int.{ints}
use Rattle.seq_model.specs.declared.printer.Spot.{Spot}
use Rattle.integer_laws.specs.Laws.Ring.{expand, mul_assoc, mul_comm}
use Rattle.integer_laws.specs.Laws.Order.{one_le, same_from, mul_same, add_same, mul_positive, cancel_same, same_of_difference}
use Rattle.integer_laws.specs.Weights.{weigh, total, AreWeights}
use Rattle.integer_laws.specs.Laws.Weights.{weigh-map, weights_map, total_positive}
use borrow.Author.Differences.{sum_is_lem, same_in}
use Rattle.seq_model.specs.Points.{Point, IsPoint}
use Rattle.seq_model.specs.Outlines.{Inner}
use Rattle.outline_laws.specs.Laws.Vectors.{cross, corner}

abbrev pub next : List Spot → Spot → Spot
next [] z = z
next (w ∷ vs) z = w

-- u and t come before the list, z after it
abbrev pub spread : Spot → ℤ → List Spot → List ℤ → Spot → List ℤ
spread u s [] ts z = []
spread u s (v ∷ vs) [] z = []
spread u s (v ∷ vs) (t ∷ ts) z = (corner u v (next vs z) *ℤ (s *ℤ t)) ∷ spread v t vs ts z

-- each edge's area, times its number, is l
abbrev pub Common : ℤ → Spot → ℤ → List Spot → List ℤ → Spot → Type 0
Common l u s [] [] z = s *ℤ cross u z ≡ l
Common l u s [] (t ∷ ts) z = ⊥
Common l u s (v ∷ vs) [] z = ⊥
Common l u s (v ∷ vs) (t ∷ ts) z = (s *ℤ cross u v ≡ l) × Common l v t vs ts z

-- the last edge's step, times its number
abbrev pub end : (Spot → ℤ) → Spot → ℤ → List Spot → List ℤ → Spot → ℤ
end f u s [] ts z = s *ℤ (f z -ℤ f u)
end f u s (v ∷ vs) [] z = pos 0
end f u s (v ∷ vs) (t ∷ ts) z = end f v t vs ts z

-- what x and y have in common
abbrev pub IsCoordinate : (Spot → ℤ) → Type 0
IsCoordinate f = (u v w : Spot) → corner u v w *ℤ f v ≡ cross u v *ℤ (f v -ℤ f w) +ℤ cross v w *ℤ (f v -ℤ f u)

pub x_is : IsCoordinate (λ s. s.x)
x_is u v w = simp expand (omega (arith, ints))

pub y_is : IsCoordinate (λ s. s.y)
y_is u v w = simp expand (omega (arith, ints))

step : (k a b s t l v w u : ℤ) → k *ℤ v ≡ a *ℤ (v -ℤ w) +ℤ b *ℤ (v -ℤ u) → s *ℤ a ≡ l → t *ℤ b ≡ l
    → (k *ℤ (s *ℤ t)) *ℤ v +ℤ l *ℤ (t *ℤ (w -ℤ v)) ≡ l *ℤ (s *ℤ (v -ℤ u))
step k a b s t l v w u e f g =
    let facts = add_same (mul_same (s *ℤ t) e) (add_same (mul_same (t *ℤ (v -ℤ w)) f) (mul_same (s *ℤ (v -ℤ u)) g)) in
    same_from facts (simp expand (omega (arith, ints)))

-- the edge after v has the number t
first_edge : (l : ℤ) (v : Spot) (t : ℤ) (vs : List Spot) (ts : List ℤ) (z : Spot) → Common l v t vs ts z → t *ℤ cross v (next vs z) ≡ l
first_edge l v t [] [] z c = c
first_edge l v t [] (_ ∷ ts) z c = absurd c
first_edge l v t (_ ∷ vs) [] z c = absurd c
first_edge l v t (_ ∷ vs) (_ ∷ ts) z c = c.0

-- all but the first and the last step cancel
pub spread_sum : (f : Spot → ℤ) → IsCoordinate f → (l : ℤ) (u : Spot) (s : ℤ) (vs : List Spot) (ts : List ℤ) (z : Spot) → Common l u s vs ts z
    → weigh f vs (spread u s vs ts z) +ℤ l *ℤ end f u s vs ts z ≡ l *ℤ (s *ℤ (f (next vs z) -ℤ f u))
spread_sum f is l u s [] [] z c = omega (arith, ints)
spread_sum f is l u s [] (_ ∷ ts) z c = absurd c
spread_sum f is l u s (v ∷ vs) [] z c = absurd c
spread_sum f is l u s (v ∷ vs) (t ∷ ts) z c =
    let w = next vs z in
    let one = step (corner u v w) (cross u v) (cross v w) s t l (f v) (f w) (f u) (is u v w) c.0 (first_edge l v t vs ts z c.1) in
    same_from (add_same one (spread_sum f is l v t vs ts z c.1)) (omega (arith, sum_is_lem, same_in))

-- all of it is positive
abbrev pub Turns : Spot → List Spot → Spot → Type 0
Turns u [] z = Unit {0}
Turns u (v ∷ vs) z = (pos 0 <ℤ corner u v (next vs z)) × Turns v vs z

abbrev pub ArePositive : List ℤ → Type 0
ArePositive [] = Unit {0}
ArePositive (t ∷ ts) = (pos 0 <ℤ t) × ArePositive ts

pub spread_positive : (l : ℤ) (u : Spot) (s : ℤ) (vs : List Spot) (ts : List ℤ) (z : Spot) → pos 0 <ℤ s → ArePositive ts → Common l u s vs ts z → Turns u vs z
    → AreWeights (pos 1) vs (spread u s vs ts z)
spread_positive l u s [] ts z p q c k = tt
spread_positive l u s (v ∷ vs) [] z p q c k = absurd c
spread_positive l u s (v ∷ vs) (t ∷ ts) z p q c k =
    (one_le (mul_positive _ _ k.0 (mul_positive s t p q.0)), spread_positive l v t vs ts z q.0 q.1 c.1 k.1)

-- the point lies to the left of each edge
abbrev pub Edges : Spot → List Spot → Spot → Type 0
Edges u [] z = pos 0 <ℤ cross u z
Edges u (v ∷ vs) z = (pos 0 <ℤ cross u v) × Edges v vs z

abbrev pub multiples : ℤ → List ℤ → List ℤ
multiples m [] = []
multiples m (t ∷ ts) = (m *ℤ t) ∷ multiples m ts

positive_multiples : (m : ℤ) → pos 0 <ℤ m → (ts : List ℤ) → ArePositive ts → ArePositive (multiples m ts)
positive_multiples m p [] q = tt
positive_multiples m p (t ∷ ts) q = (mul_positive m t p q.0, positive_multiples m p ts q.1)

common_multiples : (m l : ℤ) (u : Spot) (s : ℤ) (vs : List Spot) (ts : List ℤ) (z : Spot) → Common l u s vs ts z → Common (m *ℤ l) u (m *ℤ s) vs (multiples m ts) z
common_multiples m l u s [] [] z c = mul_assoc m s (cross u z) ∙ mul_same m c
common_multiples m l u s [] (_ ∷ ts) z c = absurd c
common_multiples m l u s (v ∷ vs) [] z c = absurd c
common_multiples m l u s (v ∷ vs) (t ∷ ts) z c = (mul_assoc m s (cross u v) ∙ mul_same m c.0, common_multiples m l v t vs ts z c.1)

pub record Numbers (u : Spot) (vs : List Spot) (z : Spot) : Type 0 where
  pub l : ℤ
  pub s : ℤ
  pub ts : List ℤ
  pub l_is : pos 0 <ℤ l
  pub s_is : pos 0 <ℤ s
  pub ts_are : ArePositive ts
  pub common : Common l u s vs ts z

pub numbers : (u : Spot) (vs : List Spot) (z : Spot) → Edges u vs z → Numbers u vs z
numbers u [] z e = record { l = cross u z; s = pos 1; ts = []; l_is = e; s_is = omega (arith, ints); ts_are = tt; common = omega (arith, ints) }
numbers u (v ∷ vs) z e =
    let r = numbers v vs z e.1 in
    let m = cross u v in
    record {
      l = m *ℤ r.l;
      s = r.l;
      ts = (m *ℤ r.s) ∷ multiples m r.ts;
      l_is = mul_positive m r.l e.0 r.l_is;
      s_is = r.l_is;
      ts_are = (mul_positive m r.s e.0 r.s_is, positive_multiples m e.0 r.ts r.ts_are);
      common = (mul_comm r.l m, common_multiples m r.l v r.s vs r.ts z r.common);
    }

-- the last corner, and the last number
abbrev pub final : Spot → List Spot → Spot
final u [] = u
final u (v ∷ vs) = final v vs

abbrev pub final_number : ℤ → List ℤ → ℤ
final_number s [] = s
final_number s (t ∷ ts) = final_number t ts

end_is : (f : Spot → ℤ) (l : ℤ) (u : Spot) (s : ℤ) (vs : List Spot) (ts : List ℤ) (z : Spot) → Common l u s vs ts z
    → (end f u s vs ts z ≡ final_number s ts *ℤ (f z -ℤ f (final u vs))) × (final_number s ts *ℤ cross (final u vs) z ≡ l)
end_is f l u s [] [] z c = (refl, c)
end_is f l u s [] (_ ∷ ts) z c = absurd c
end_is f l u s (v ∷ vs) [] z c = absurd c
end_is f l u s (v ∷ vs) (t ∷ ts) z c = end_is f l v t vs ts z c.1

-- the weights of a closed polygon balance at the point
pub balance : (f : Spot → ℤ) → IsCoordinate f → (l s : ℤ) (v : Spot) (vs : List Spot) (ts : List ℤ) → pos 0 <ℤ cross (final v vs) v → Common l (final v vs) s (v ∷ vs) ts v
    → weigh f (v ∷ vs) (spread (final v vs) s (v ∷ vs) ts v) ≡ pos 0
balance f is l s v vs [] p c = absurd c
balance f is l s v vs (t ∷ ts) p c =
    let u = final v vs in
    let sum = spread_sum f is l u s (v ∷ vs) (t ∷ ts) v c in
    let last = end_is f l u s (v ∷ vs) (t ∷ ts) v c in
    let same : s ≡ final_number t ts = cancel_same (cross u v) p (mul_comm (cross u v) s ∙ c.0 ∙ sym last.1 ∙ mul_comm _ (cross u v)) in
    let ends : end f v t vs ts v ≡ s *ℤ (f v -ℤ f u) = last.0 ∙ ap (λ n. n *ℤ (f v -ℤ f u)) (sym same) in
    same_from (add_same sum (sym (mul_same l ends))) (omega (arith, sum_is_lem, same_in))

-- ---- back to the corners themselves
abbrev pub from : Point → Spot → Spot
from q s = record { x = q.d *ℤ s.x -ℤ q.x; y = q.d *ℤ s.y -ℤ q.y }

pub weigh_from : (d x : ℤ) (f : Spot → ℤ) (S : List Spot) (w : List ℤ) → weigh (λ s. d *ℤ f s -ℤ x) S w ≡ d *ℤ weigh f S w -ℤ x *ℤ total S w
weigh_from d x f [] w = simp expand
weigh_from d x f (s ∷ S) [] = simp expand
weigh_from d x f (s ∷ S) (k ∷ w) = simp (weigh_from d x f S w, expand) (omega (arith, ints))

-- a point to the left of every edge of a polygon that turns left at every corner is inner to its corners
pub inner_if_left : (q : Point) → IsPoint q → (c : Spot) (cs : List Spot) → (let v = from q c in let vs = map (from q) cs in Edges (final v vs) (v ∷ vs) v × Turns (final v vs) (v ∷ vs) v) → Inner (c ∷ cs) q
inner_if_left q is c cs h =
    let v = from q c in
    let vs = map (from q) cs in
    let u = final v vs in
    let r = numbers u (v ∷ vs) v h.0 in
    let w = spread u r.s (v ∷ vs) r.ts v in
    let are = weights_map (pos 1) (from q) (c ∷ cs) w (spread_positive r.l u r.s (v ∷ vs) r.ts v r.s_is r.ts_are r.common h.1) in
    let sum_x = sym (weigh-map (λ s. s.x) (from q) (c ∷ cs) w) ∙ balance (λ s. s.x) x_is r.l r.s v vs r.ts h.0.0 r.common in
    let sum_y = sym (weigh-map (λ s. s.y) (from q) (c ∷ cs) w) ∙ balance (λ s. s.y) y_is r.l r.s v vs r.ts h.0.0 r.common in
    let eq_x = sym (weigh_from q.d q.x (λ s. s.x) (c ∷ cs) w) ∙ sum_x in
    let eq_y = sym (weigh_from q.d q.y (λ s. s.y) (c ∷ cs) w) ∙ sum_y in
    record { point = is; w = w; weights = are; some = one_le (total_positive c cs w are); x = same_of_difference eq_x; y = same_of_difference eq_y }
