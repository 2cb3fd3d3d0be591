-- Weights of a difference: the products of three weightings, and the sums that a weighting of it leaves on each list.
--
--   IsLinear f           the value of a difference is the difference of the values
--   products wa wb wf    the product of the three weights, for each member of the difference
--   products_weigh       what they weigh
--   products_are         they are positive where all three are
--   Marginals A B F w    weights of the three lists that together weigh what w weighs on the difference
--   marginals            each weighting has them, positive where it is and no list is empty
use Rattle.std.proofs.Common.{◌≡◌, List, [], ◌∷◌, map, flat_map, take, drop, length, refl, subst, arith, ℤ, pos, ◌+ℤ◌, ◌-ℤ◌, ◌*ℤ◌, ◌≤ℤ◌, ◌<ℤ◌}
use Rattle.std.proofs.lemmas.Int.{ints}
use Rattle.integer_laws.specs.Laws.Ring.{expand}
use Rattle.integer_laws.specs.Laws.Order.{one_le, mul_positive, same_from, add_same}
use Rattle.integer_laws.specs.Vectors.{plus, scale, zeros}
use Rattle.integer_laws.specs.Weights.{weigh, total, AreWeights}
use Rattle.integer_laws.specs.Laws.Weights.{weigh-append, weigh_joined, weigh-plus, weigh-scale, weigh-zeros, weigh-map, length-weights, weights_weaker, weights_map, weights_joined, weights_front, weights_rest, weights_plus, total_positive}
use Rattle.seq_model.specs.Contacts.{less, difference}
use Rattle.seq_model.specs.declared.printer.Spot.{Spot}

abbrev pub IsLinear : (Spot → ℤ) → Type 0
IsLinear f = (a b : Spot) → f (less a b) ≡ f a -ℤ f b

-- the members for one a, and for one a and b
abbrev pub for_pair : Spot → Spot → List Spot → List Spot
for_pair a b F = map (less (less a b)) F

abbrev pub for_one : Spot → List Spot → List Spot → List Spot
for_one a B F = flat_map (λ b. for_pair a b F) B

weigh_pair : (f : Spot → ℤ) → IsLinear f → (a b : Spot) (F : List Spot) (w : List ℤ) → weigh f (for_pair a b F) w ≡ (f a -ℤ f b) *ℤ total F w -ℤ weigh f F w
weigh_pair f l a b [] w = simp expand (omega (arith, ints))
weigh_pair f l a b (c ∷ F) [] = simp expand (omega (arith, ints))
weigh_pair f l a b (c ∷ F) (k ∷ w) = rw (l (less a b) c, l a b, weigh_pair f l a b F w) (more k (f a) (f b) (f c) (total F w) (weigh f F w))
  where
    more : (k a b c t v : ℤ) → k *ℤ ((a -ℤ b) -ℤ c) +ℤ ((a -ℤ b) *ℤ t -ℤ v) ≡ (a -ℤ b) *ℤ (k *ℤ pos 1 +ℤ t) -ℤ (k *ℤ c +ℤ v)
    more k a b c t v = simp expand (omega (arith, ints))

total_pair : (a b : Spot) (F : List Spot) (w : List ℤ) → total (for_pair a b F) w ≡ total F w
total_pair a b F w = weigh-map (λ s. pos 1) (less (less a b)) F w

pair_weights : (least : ℤ) (a b : Spot) (F : List Spot) (w : List ℤ) → AreWeights least (for_pair a b F) w → AreWeights least F w
pair_weights least a b F w h = weights_map least (less (less a b)) F w h

-- ---- marginals
abbrev pub lowest : List Spot → ℤ
lowest [] = pos 0
lowest (s ∷ S) = pos 1

lowest_nonneg : (S : List Spot) → pos 0 ≤ℤ lowest S
lowest_nonneg [] = omega (arith, ints)
lowest_nonneg (s ∷ S) = omega (arith, ints)

are_zeros : (S : List Spot) → AreWeights (pos 0) S (zeros (length S))
are_zeros [] = tt
are_zeros (s ∷ S) = (omega (arith, ints), are_zeros S)

pub record OfOne (a : Spot) (B F : List Spot) (w : List ℤ) : Type 0 where
  pub wb : List ℤ
  pub wf : List ℤ
  pub wb_are : AreWeights (pos 1) B wb
  pub wf_are : AreWeights (lowest B) F wf
  pub total_b : total B wb ≡ total (for_one a B F) w
  pub total_f : total F wf ≡ total (for_one a B F) w
  pub weighs : (f : Spot → ℤ) → IsLinear f → weigh f (for_one a B F) w ≡ (f a *ℤ total (for_one a B F) w -ℤ weigh f B wb) -ℤ weigh f F wf

one_sum : (fa fb k v r wb wf t : ℤ) → r ≡ (fa *ℤ t -ℤ wb) -ℤ wf → ((fa -ℤ fb) *ℤ k -ℤ v) +ℤ r ≡ (fa *ℤ (k +ℤ t) -ℤ (k *ℤ fb +ℤ wb)) -ℤ (v +ℤ wf)
one_sum fa fb k v r wb wf t e = same_from e (simp expand (omega (arith, ints)))

of_one : (a : Spot) (B : List Spot) (g : Spot) (G : List Spot) (w : List ℤ) → AreWeights (pos 1) (for_one a B (g ∷ G)) w → OfOne a B (g ∷ G) w
of_one a [] g G w h =
    let z = weigh-zeros (λ (s : Spot). pos 1) (length (g ∷ G)) (g ∷ G) in
    record {
      wb = [];
      wf = zeros (length (g ∷ G));
      wb_are = tt;
      wf_are = are_zeros (g ∷ G);
      total_b = refl;
      total_f = z;
      weighs = λ f l. rw (weigh-zeros f (length (g ∷ G)) (g ∷ G)) (simp expand (omega (arith, ints)));
    }
of_one a (b ∷ B) g G w h =
    let F = g ∷ G in
    let P = for_pair a b F in
    let R = for_one a B F in
    let v = take (length P) w in
    let u = drop (length P) w in
    let front = pair_weights (pos 1) a b F v (weights_front (pos 1) P R w h) in
    let m = of_one a B g G u (weights_rest (pos 1) P R w h) in
    let tp = total_pair a b F v in
    let all = weigh-append (λ s. pos 1) P R w in
    let tb = m.total_b in
    let tf = m.total_f in
    let both = weigh-plus (λ (s : Spot). pos 1) F v m.wf in
    record {
      wb = total F v ∷ m.wb;
      wf = plus v m.wf;
      wb_are = (one_le (total_positive g G v front), m.wb_are);
      wf_are = weights_plus (pos 1) (pos 0) F v m.wf front (weights_weaker (pos 0) (lowest B) F m.wf (lowest_nonneg B) m.wf_are);
      total_b = omega (arith, ints, tp, all, tb);
      total_f = omega (arith, ints, tp, all, tf, both);
      weighs = λ f l.
          rw (weigh-append f P R w, all, tp, weigh_pair f l a b F v, weigh-plus f F v m.wf)
          (one_sum (f a) (f b) (total F v) (weigh f F v) (weigh f R u) (weigh f B m.wb) (weigh f F m.wf) (total R u) (m.weighs f l));
    }

pub record Marginals (A B F : List Spot) (w : List ℤ) : Type 0 where
  pub wa : List ℤ
  pub wb : List ℤ
  pub wf : List ℤ
  pub wa_are : AreWeights (pos 1) A wa
  pub wb_are : AreWeights (lowest A) B wb
  pub wf_are : AreWeights (lowest A) F wf
  pub total_a : total A wa ≡ total (difference A B F) w
  pub total_b : total B wb ≡ total (difference A B F) w
  pub total_f : total F wf ≡ total (difference A B F) w
  pub weighs : (f : Spot → ℤ) → IsLinear f → weigh f (difference A B F) w ≡ (weigh f A wa -ℤ weigh f B wb) -ℤ weigh f F wf

all_sum : (fa t v r ob of wa wb wf : ℤ) → v ≡ (fa *ℤ t -ℤ ob) -ℤ of → r ≡ (wa -ℤ wb) -ℤ wf → v +ℤ r ≡ ((t *ℤ fa +ℤ wa) -ℤ (ob +ℤ wb)) -ℤ (of +ℤ wf)
all_sum fa t v r ob of wa wb wf e g = same_from (add_same e g) (simp expand (omega (arith, ints)))

pub marginals : (A : List Spot) (b : Spot) (B : List Spot) (g : Spot) (G : List Spot) (w : List ℤ) → AreWeights (pos 1) (difference A (b ∷ B) (g ∷ G)) w → Marginals A (b ∷ B) (g ∷ G) w
marginals [] b B g G w h = record {
  wa = [];
  wb = zeros (length (b ∷ B));
  wf = zeros (length (g ∷ G));
  wa_are = tt;
  wb_are = are_zeros (b ∷ B);
  wf_are = are_zeros (g ∷ G);
  total_a = refl;
  total_b = weigh-zeros (λ (s : Spot). pos 1) (length (b ∷ B)) (b ∷ B);
  total_f = weigh-zeros (λ (s : Spot). pos 1) (length (g ∷ G)) (g ∷ G);
  weighs = λ f l. rw (weigh-zeros f (length (b ∷ B)) (b ∷ B), weigh-zeros f (length (g ∷ G)) (g ∷ G)) (omega (arith, ints));
}
marginals (a ∷ A) b B' g G w h =
    let B = b ∷ B' in
    let F = g ∷ G in
    let P = for_one a B F in
    let R = difference A B F in
    let v = take (length P) w in
    let u = drop (length P) w in
    let one = of_one a B g G v (weights_front (pos 1) P R w h) in
    let m = marginals A b B' g G u (weights_rest (pos 1) P R w h) in
    let all = weigh-append (λ s. pos 1) P R w in
    let ob = one.total_b in
    let of = one.total_f in
    let ta = m.total_a in
    let tb = m.total_b in
    let tf = m.total_f in
    let both_b = weigh-plus (λ (s : Spot). pos 1) B one.wb m.wb in
    let both_f = weigh-plus (λ (s : Spot). pos 1) F one.wf m.wf in
    record {
      wa = total P v ∷ m.wa;
      wb = plus one.wb m.wb;
      wf = plus one.wf m.wf;
      wa_are = (subst (λ t. pos 1 ≤ℤ t) ob (one_le (total_positive b B' one.wb one.wb_are)), m.wa_are);
      wb_are = weights_plus (pos 1) (pos 0) B one.wb m.wb one.wb_are (weights_weaker (pos 0) (lowest A) B m.wb (lowest_nonneg A) m.wb_are);
      wf_are = weights_plus (pos 1) (pos 0) F one.wf m.wf one.wf_are (weights_weaker (pos 0) (lowest A) F m.wf (lowest_nonneg A) m.wf_are);
      total_a = omega (arith, ints, all, ta);
      total_b = omega (arith, ints, all, ob, tb, both_b);
      total_f = omega (arith, ints, all, of, tf, both_f);
      weighs = λ f l.
          rw (weigh-append f P R w, weigh-plus f B one.wb m.wb, weigh-plus f F one.wf m.wf)
          (all_sum (f a) (total P v) (weigh f P v) (weigh f R u) (weigh f B one.wb) (weigh f F one.wf) (weigh f A m.wa) (weigh f B m.wb) (weigh f F m.wf) (one.weighs f l) (m.weighs f l));
    }

-- ---- products
abbrev pub times_pair : ℤ → List ℤ → List ℤ → List ℤ
times_pair k wb wf = flat_map (λ j. scale (k *ℤ j) wf) wb

abbrev pub products : List ℤ → List ℤ → List ℤ → List ℤ
products wa wb wf = flat_map (λ k. times_pair k wb wf) wa

scaled_are : (t : ℤ) (S : List Spot) (w : List ℤ) → pos 1 ≤ℤ t → AreWeights (pos 1) S w → AreWeights (pos 1) S (scale t w)
scaled_are t [] [] p a = tt
scaled_are t [] (k ∷ w) p a = absurd a
scaled_are t (s ∷ S) [] p a = absurd a
scaled_are t (s ∷ S) (k ∷ w) p a = (one_le (mul_positive t k (above p) (above a.0)), scaled_are t S w p a.1)
  where
    above : {n : ℤ} → pos 1 ≤ℤ n → pos 0 <ℤ n
    above h = omega (arith, ints)

to_map : (least : ℤ) (h : Spot → Spot) (S : List Spot) (w : List ℤ) → AreWeights least S w → AreWeights least (map h S) w
to_map least h [] [] a = tt
to_map least h [] (k ∷ w) a = absurd a
to_map least h (s ∷ S) [] a = absurd a
to_map least h (s ∷ S) (k ∷ w) a = (a.0, to_map least h S w a.1)

times_one : (k j : ℤ) → pos 1 ≤ℤ k → pos 1 ≤ℤ j → pos 1 ≤ℤ (k *ℤ j)
times_one k j p q = one_le (mul_positive k j (above p) (above q))
  where
    above : {n : ℤ} → pos 1 ≤ℤ n → pos 0 <ℤ n
    above h = omega (arith, ints)

pair_are : (a : Spot) (k : ℤ) (B F : List Spot) (wb wf : List ℤ) → pos 1 ≤ℤ k → AreWeights (pos 1) B wb → AreWeights (pos 1) F wf → AreWeights (pos 1) (for_one a B F) (times_pair k wb wf)
pair_are a k [] F [] wf p h i = tt
pair_are a k [] F (j ∷ wb) wf p h i = absurd h
pair_are a k (b ∷ B) F [] wf p h i = absurd h
pair_are a k (b ∷ B) F (j ∷ wb) wf p h i =
    weights_joined (pos 1) (for_pair a b F) (for_one a B F) (scale (k *ℤ j) wf) (times_pair k wb wf) (to_map (pos 1) (less (less a b)) F (scale (k *ℤ j) wf) (scaled_are (k *ℤ j) F wf (times_one k j p h.0) i)) (pair_are a k B F wb wf p h.1 i)

pub products_are : (A B F : List Spot) (wa wb wf : List ℤ) → AreWeights (pos 1) A wa → AreWeights (pos 1) B wb → AreWeights (pos 1) F wf → AreWeights (pos 1) (difference A B F) (products wa wb wf)
products_are [] B F [] wb wf g h i = tt
products_are [] B F (k ∷ wa) wb wf g h i = absurd g
products_are (a ∷ A) B F [] wb wf g h i = absurd g
products_are (a ∷ A) B F (k ∷ wa) wb wf g h i =
    weights_joined (pos 1) (for_one a B F) (difference A B F) (times_pair k wb wf) (products wa wb wf) (pair_are a k B F wb wf g.0 h i) (products_are A B F wa wb wf g.1 h i)

-- what a linear function weighs, with n for its value at a constant: 0 for a coordinate, as less takes it away, 1 for the total
pair_weighs : (f : Spot → ℤ) → IsLinear f → (a : Spot) (k : ℤ) (B F : List Spot) (wb wf : List ℤ) → pos 1 ≤ℤ k → AreWeights (pos 1) B wb → AreWeights (pos 1) F wf
    → weigh f (for_one a B F) (times_pair k wb wf) ≡ k *ℤ ((f a *ℤ (total B wb *ℤ total F wf) -ℤ weigh f B wb *ℤ total F wf) -ℤ total B wb *ℤ weigh f F wf)
pair_weighs f l a k [] F [] wf p h i = simp expand (omega (arith, ints))
pair_weighs f l a k [] F (j ∷ wb) wf p h i = absurd h
pair_weighs f l a k (b ∷ B) F [] wf p h i = absurd h
pair_weighs f l a k (b ∷ B) F (j ∷ wb) wf p h i =
    let P = for_pair a b F in
    let here = to_map (pos 1) (less (less a b)) F (scale (k *ℤ j) wf) (scaled_are (k *ℤ j) F wf (times_one k j p h.0) i) in
    rw (weigh_joined f P (for_one a B F) (scale (k *ℤ j) wf) (times_pair k wb wf) (length-weights (pos 1) P (scale (k *ℤ j) wf) here), weigh_pair f l a b F (scale (k *ℤ j) wf), weigh-scale f (k *ℤ j) F wf, weigh-scale (λ (s : Spot). pos 1) (k *ℤ j) F wf, pair_weighs f l a k B F wb wf p h.1 i)
    (sum k j (f a) (f b) (total F wf) (weigh f F wf) (total B wb) (weigh f B wb))
  where
    sum : (k j fa fb t v tb vb : ℤ) → ((fa -ℤ fb) *ℤ ((k *ℤ j) *ℤ t) -ℤ (k *ℤ j) *ℤ v) +ℤ k *ℤ ((fa *ℤ (tb *ℤ t) -ℤ vb *ℤ t) -ℤ tb *ℤ v) ≡ k *ℤ ((fa *ℤ ((j *ℤ pos 1 +ℤ tb) *ℤ t) -ℤ (j *ℤ fb +ℤ vb) *ℤ t) -ℤ (j *ℤ pos 1 +ℤ tb) *ℤ v)
    sum k j fa fb t v tb vb = simp expand (omega (arith, ints))

pub products_weigh : (f : Spot → ℤ) → IsLinear f → (A B F : List Spot) (wa wb wf : List ℤ) → AreWeights (pos 1) A wa → AreWeights (pos 1) B wb → AreWeights (pos 1) F wf
    → weigh f (difference A B F) (products wa wb wf) ≡ (weigh f A wa *ℤ (total B wb *ℤ total F wf) -ℤ total A wa *ℤ (weigh f B wb *ℤ total F wf)) -ℤ total A wa *ℤ (total B wb *ℤ weigh f F wf)
products_weigh f l [] B F [] wb wf g h i = simp expand (omega (arith, ints))
products_weigh f l [] B F (k ∷ wa) wb wf g h i = absurd g
products_weigh f l (a ∷ A) B F [] wb wf g h i = absurd g
products_weigh f l (a ∷ A) B F (k ∷ wa) wb wf g h i =
    let P = for_one a B F in
    rw (weigh_joined f P (difference A B F) (times_pair k wb wf) (products wa wb wf) (length-weights (pos 1) P (times_pair k wb wf) (pair_are a k B F wb wf g.0 h i)), pair_weighs f l a k B F wb wf g.0 h i, products_weigh f l A B F wa wb wf g.1 h i)
    (sum k (f a) (total B wb) (weigh f B wb) (total F wf) (weigh f F wf) (total A wa) (weigh f A wa))
  where
    sum : (k fa tb vb t v ta va : ℤ) → k *ℤ ((fa *ℤ (tb *ℤ t) -ℤ vb *ℤ t) -ℤ tb *ℤ v) +ℤ ((va *ℤ (tb *ℤ t) -ℤ ta *ℤ (vb *ℤ t)) -ℤ ta *ℤ (tb *ℤ v)) ≡ ((k *ℤ fa +ℤ va) *ℤ (tb *ℤ t) -ℤ (k *ℤ pos 1 +ℤ ta) *ℤ (vb *ℤ t)) -ℤ (k *ℤ pos 1 +ℤ ta) *ℤ (tb *ℤ v)
    sum k fa tb vb t v ta va = simp expand (omega (arith, ints))

pair_total : (a : Spot) (k : ℤ) (B F : List Spot) (wb wf : List ℤ) → pos 1 ≤ℤ k → AreWeights (pos 1) B wb → AreWeights (pos 1) F wf → total (for_one a B F) (times_pair k wb wf) ≡ k *ℤ (total B wb *ℤ total F wf)
pair_total a k [] F [] wf p h i = simp expand (omega (arith, ints))
pair_total a k [] F (j ∷ wb) wf p h i = absurd h
pair_total a k (b ∷ B) F [] wf p h i = absurd h
pair_total a k (b ∷ B) F (j ∷ wb) wf p h i =
    let P = for_pair a b F in
    let here = to_map (pos 1) (less (less a b)) F (scale (k *ℤ j) wf) (scaled_are (k *ℤ j) F wf (times_one k j p h.0) i) in
    rw (weigh_joined (λ s. pos 1) P (for_one a B F) (scale (k *ℤ j) wf) (times_pair k wb wf) (length-weights (pos 1) P (scale (k *ℤ j) wf) here), total_pair a b F (scale (k *ℤ j) wf), weigh-scale (λ (s : Spot). pos 1) (k *ℤ j) F wf, pair_total a k B F wb wf p h.1 i)
    (sum k j (total F wf) (total B wb))
  where
    sum : (k j t tb : ℤ) → (k *ℤ j) *ℤ t +ℤ k *ℤ (tb *ℤ t) ≡ k *ℤ ((j *ℤ pos 1 +ℤ tb) *ℤ t)
    sum k j t tb = simp expand (omega (arith, ints))

pub products_total : (A B F : List Spot) (wa wb wf : List ℤ) → AreWeights (pos 1) A wa → AreWeights (pos 1) B wb → AreWeights (pos 1) F wf → total (difference A B F) (products wa wb wf) ≡ total A wa *ℤ (total B wb *ℤ total F wf)
products_total [] B F [] wb wf g h i = simp expand (omega (arith, ints))
products_total [] B F (k ∷ wa) wb wf g h i = absurd g
products_total (a ∷ A) B F [] wb wf g h i = absurd g
products_total (a ∷ A) B F (k ∷ wa) wb wf g h i =
    let P = for_one a B F in
    rw (weigh_joined (λ s. pos 1) P (difference A B F) (times_pair k wb wf) (products wa wb wf) (length-weights (pos 1) P (times_pair k wb wf) (pair_are a k B F wb wf g.0 h i)), pair_total a k B F wb wf g.0 h i, products_total A B F wa wb wf g.1 h i)
    (sum k (total B wb *ℤ total F wf) (total A wa))
  where
    sum : (k t ta : ℤ) → k *ℤ t +ℤ ta *ℤ t ≡ (k *ℤ pos 1 +ℤ ta) *ℤ t
    sum k t ta = simp expand (omega (arith, ints))
