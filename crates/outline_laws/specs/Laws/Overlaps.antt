-- Two lists, spread by a third, overlap exactly where the places differ by an inner point of the difference.
--
--   inner_of_overlap      weights: the products
--   overlap_of_inner      weights: the sums
use Rattle.std.proofs.Common.{◌≡◌, List, [], ◌∷◌, ◌++◌, refl, ap, sym, subst, ◌∙◌, arith, ℤ, pos, neg_ℤ, ◌+ℤ◌, ◌-ℤ◌, ◌*ℤ◌, ◌≤ℤ◌, ◌<ℤ◌}
use Rattle.std.proofs.lemmas.Int.{ints}
use Rattle.integer_laws.specs.Laws.Ring.{expand}
use Rattle.integer_laws.specs.Laws.Order.{one_le, mul_positive, same_from, mul_same, add_same}
use Rattle.integer_laws.specs.Weights.{weigh, total, AreWeights}
use Rattle.seq_model.specs.Contacts.{difference}
use Rattle.seq_model.specs.Outlines.{Inner}
use Rattle.seq_model.specs.Points.{Point, IsPoint, plus, minus}
use Rattle.seq_model.specs.Scenes.{Overlap}
use Rattle.seq_model.specs.declared.printer.Spot.{Spot}
use Rattle.model_laws.specs.Laws.SamePoints.{mean_of_same, minus_is_point}
use Rattle.outline_laws.specs.Laws.Spreading.{for_one, products, products_weigh, products_total, products_are, marginals}

above : {n : ℤ} → pos 1 ≤ℤ n → pos 0 <ℤ n
above h = omega (arith, ints)

times_one : (a b : ℤ) → pos 1 ≤ℤ a → pos 1 ≤ℤ b → pos 1 ≤ℤ (a *ℤ b)
times_one a b p q = one_le (mul_positive a b (above p) (above q))

-- ---- from points of the three to a point of the difference
mean_number : (ed ex ld lx fd fx ta tb tf va vb vf : ℤ) → ed *ℤ va ≡ ex *ℤ ta → ld *ℤ vb ≡ lx *ℤ tb → fd *ℤ vf ≡ fx *ℤ tf
    → ((ed *ℤ ld) *ℤ fd) *ℤ ((va *ℤ (tb *ℤ tf) -ℤ ta *ℤ (vb *ℤ tf)) -ℤ ta *ℤ (tb *ℤ vf)) ≡ ((ex *ℤ ld -ℤ lx *ℤ ed) *ℤ fd -ℤ fx *ℤ (ed *ℤ ld)) *ℤ (ta *ℤ (tb *ℤ tf))
mean_number ed ex ld lx fd fx ta tb tf va vb vf e g h =
    same_from (add_same (mul_same (ld *ℤ (fd *ℤ (tb *ℤ tf))) e) (add_same (mul_same (neg_ℤ (ed *ℤ (fd *ℤ (ta *ℤ tf)))) g) (mul_same (neg_ℤ (ed *ℤ (ld *ℤ (ta *ℤ tb)))) h))) (simp expand (omega (arith, ints)))

pub inner_of_three : (A B F : List Spot) (p q r : Point) → Inner A p → Inner B q → Inner F r → Inner (difference A B F) (minus (minus p q) r)
inner_of_three A B F p q r a b f = record {
  point = record { positive = times_one _ _ (times_one _ _ a.point.positive b.point.positive) f.point.positive };
  w = products a.w b.w f.w;
  weights = products_are A B F a.w b.w f.w a.weights b.weights f.weights;
  some = subst (λ t. pos 1 ≤ℤ t) (sym sum) (times_one _ _ a.some (times_one _ _ b.some f.some));
  x = rw (sum, products_weigh (λ s. s.x) (λ s t. refl) A B F a.w b.w f.w a.weights b.weights f.weights) (mean_number p.d p.x q.d q.x r.d r.x (total A a.w) (total B b.w) (total F f.w) (weigh (λ s. s.x) A a.w) (weigh (λ s. s.x) B b.w) (weigh (λ s. s.x) F f.w) a.x b.x f.x);
  y = rw (sum, products_weigh (λ s. s.y) (λ s t. refl) A B F a.w b.w f.w a.weights b.weights f.weights) (mean_number p.d p.y q.d q.y r.d r.y (total A a.w) (total B b.w) (total F f.w) (weigh (λ s. s.y) A a.w) (weigh (λ s. s.y) B b.w) (weigh (λ s. s.y) F f.w) a.y b.y f.y);
}
  where
    sum : total (difference A B F) (products a.w b.w f.w) ≡ total A a.w *ℤ (total B b.w *ℤ total F f.w)
    sum = products_total A B F a.w b.w f.w a.weights b.weights f.weights

-- t for the shared point, p and r for the two places, l and f for the points of the later one and of the part
same_number : (tx td px pd rx rd lx ld fx fd : ℤ) → (tx *ℤ rd -ℤ rx *ℤ td) *ℤ (ld *ℤ fd) ≡ (lx *ℤ fd +ℤ fx *ℤ ld) *ℤ (td *ℤ rd)
    → (((tx *ℤ pd -ℤ px *ℤ td) *ℤ ld -ℤ lx *ℤ (td *ℤ pd)) *ℤ fd -ℤ fx *ℤ ((td *ℤ pd) *ℤ ld)) *ℤ (rd *ℤ pd) ≡ (rx *ℤ pd -ℤ px *ℤ rd) *ℤ (((td *ℤ pd) *ℤ ld) *ℤ fd)
same_number tx td px pd rx rd lx ld fx fd e = same_from (mul_same (pd *ℤ pd) e) (simp expand (omega (arith, ints)))

pub inner_of_overlap : (A B F : List Spot) (p r : Point) → IsPoint p → Overlap A B F p r → Inner (difference A B F) (minus r p)
inner_of_overlap A B F p r at o =
    mean_of_same (pos 1) (difference A B F) (minus (minus (minus o.point p) o.of_later) o.of_part) (minus r p) (minus_is_point r p o.is_place at)
    (record {
      x = same_number o.point.x o.point.d p.x p.d r.x r.d o.of_later.x o.of_later.d o.of_part.x o.of_part.d o.sum.x;
      y = same_number o.point.y o.point.d p.y p.d r.y r.d o.of_later.y o.of_later.d o.of_part.y o.of_part.d o.sum.y;
    })
    (inner_of_three A B F (minus o.point p) o.of_later o.of_part o.earlier o.later o.moving)

-- ---- and back
abbrev mean_of : List Spot → List ℤ → ℤ → Point
mean_of S w t = record { x = weigh (λ s. s.x) S w; y = weigh (λ s. s.y) S w; d = t }

inner_mean : (S : List Spot) (w : List ℤ) (t : ℤ) → AreWeights (pos 1) S w → total S w ≡ t → pos 1 ≤ℤ t → Inner S (mean_of S w t)
inner_mean S w t are e p = record {
  point = record { positive = p };
  w = w;
  weights = are;
  some = subst (λ n. pos 1 ≤ℤ n) (sym e) p;
  x = rw e (turned t (weigh (λ s. s.x) S w));
  y = rw e (turned t (weigh (λ s. s.y) S w));
}
  where
    turned : (t v : ℤ) → t *ℤ v ≡ v *ℤ t
    turned t v = omega (arith, ints)

moved : (vx t px pd : ℤ) → vx *ℤ ((pd *ℤ t) *ℤ pd) ≡ ((px *ℤ t +ℤ vx *ℤ pd) *ℤ pd -ℤ px *ℤ (pd *ℤ t)) *ℤ t
moved vx t px pd = simp expand (omega (arith, ints))

sum_number : (px pd rx rd t va vb vf : ℤ) → (rd *ℤ pd) *ℤ ((va -ℤ vb) -ℤ vf) ≡ (rx *ℤ pd -ℤ px *ℤ rd) *ℤ t
    → ((px *ℤ t +ℤ va *ℤ pd) *ℤ rd -ℤ rx *ℤ (pd *ℤ t)) *ℤ (t *ℤ t) ≡ (vb *ℤ t +ℤ vf *ℤ t) *ℤ ((pd *ℤ t) *ℤ rd)
sum_number px pd rx rd t va vb vf e = same_from (mul_same (t *ℤ t) e) (simp expand (omega (arith, ints)))

no_inner : (q : Point) → Inner [] q → ⊥
no_inner q m = none m.some
  where
    none : pos 1 ≤ℤ pos 0 → ⊥
    none h = omega (arith, ints)

no_later : (A F : List Spot) → difference A [] F ≡ []
no_later [] F = refl
no_later (a ∷ A) F = no_later A F

none_for : (a : Spot) (B : List Spot) → for_one a B [] ≡ []
none_for a [] = refl
none_for a (b ∷ B) = none_for a B

no_part : (A B : List Spot) → difference A B [] ≡ []
no_part [] B = refl
no_part (a ∷ A) B = ap (λ S. S ++ difference A B []) (none_for a B) ∙ no_part A B

pub overlap_of_inner : (A B F : List Spot) (p r : Point) → IsPoint p → IsPoint r → Inner (difference A B F) (minus r p) → Overlap A B F p r
overlap_of_inner [] B F p r at place m = absurd (no_inner (minus r p) m)
overlap_of_inner (a ∷ A) [] F p r at place m = absurd (no_inner (minus r p) (subst (λ S. Inner S (minus r p)) (no_later (a ∷ A) F) m))
overlap_of_inner (a ∷ A) (b ∷ B) [] p r at place m = absurd (no_inner (minus r p) (subst (λ S. Inner S (minus r p)) (no_part (a ∷ A) (b ∷ B)) m))
overlap_of_inner (a ∷ A') (b ∷ B') (g ∷ G) p r at place i =
    let A = a ∷ A' in
    let B = b ∷ B' in
    let F = g ∷ G in
    let t = total (difference A B F) i.w in
    let m = marginals A b B' g G i.w i.weights in
    let e = mean_of A m.wa t in
    let point = plus p e in
    let is : IsPoint point = record { positive = times_one _ _ at.positive i.some } in
    record {
      point = point;
      is_point = is;
      is_place = place;
      of_later = mean_of B m.wb t;
      of_part = mean_of F m.wf t;
      earlier = mean_of_same (pos 1) A e (minus point p) (minus_is_point point p is at) (record { x = moved (weigh (λ s. s.x) A m.wa) t p.x p.d; y = moved (weigh (λ s. s.y) A m.wa) t p.y p.d }) (inner_mean A m.wa t m.wa_are m.total_a i.some);
      later = inner_mean B m.wb t m.wb_are m.total_b i.some;
      moving = inner_mean F m.wf t m.wf_are m.total_f i.some;
      sum = record {
        x = sum_number p.x p.d r.x r.d t (weigh (λ s. s.x) A m.wa) (weigh (λ s. s.x) B m.wb) (weigh (λ s. s.x) F m.wf) (subst (λ v. (r.d *ℤ p.d) *ℤ v ≡ (r.x *ℤ p.d -ℤ p.x *ℤ r.d) *ℤ t) (m.weighs (λ s. s.x) (λ s u. refl)) i.x);
        y = sum_number p.y p.d r.y r.d t (weigh (λ s. s.y) A m.wa) (weigh (λ s. s.y) B m.wb) (weigh (λ s. s.y) F m.wf) (subst (λ v. (r.d *ℤ p.d) *ℤ v ≡ (r.y *ℤ p.d -ℤ p.y *ℤ r.d) *ℤ t) (m.weighs (λ s. s.y) (λ s u. refl)) i.y);
      };
    }
