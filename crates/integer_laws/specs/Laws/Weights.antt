-- Weighted sums over a list: the weights stand in a list of their own, and one that ends early goes on with zeros.
--
--
--   weigh-dot                    it is the product of the weights and the values
--   weigh-map                    over a mapped list
--   weigh-append                 over a joined list, by the two parts of its weights
--   weigh_joined                 over a joined list, by joined weights
--   weigh-plus, weigh-scale, weigh-combined, weigh-zeros, weigh-unit     by weights that are made from others
--   weigh-linear                 of a sum of multiples of two functions
--   weigh_constant               of a function with one value at all members
--   weigh_at_most                at most a bound of the function times the total, where no weight is negative
--   weigh_below                  below it, where each weight is positive and some member has a value below the bound
--
--   length-weights               there are as many as members
--   weights_weaker               they are weights for a lower bound
--   weights_map                  weights of a mapped list are weights of the list
--   weights_joined               joined, they are weights of the joined list
--   weights_front, weights_rest  and its weights fall in two
--   weights_plus, weights_scale  sums of weights, and multiples
use Rattle.std.proofs.Common.{◌≡◌, ℕ, zero, suc, ◌<◌, List, [], ◌∷◌, ◌++◌, length, map, take, drop, get_or, refl, ap, arith, ℤ, pos, neg_ℤ, ◌+ℤ◌, ◌-ℤ◌, ◌*ℤ◌, ◌≤ℤ◌, ◌<ℤ◌, inl, inr}
use Rattle.std.proofs.lemmas.Int.{ints}
use Rattle.integer_laws.specs.Laws.Ring.{expand}
use Rattle.integer_laws.specs.Laws.Order.{le_from, lt_from, add_le, add_lt_le, add_le_lt, mul_le, mul_lt}
use Rattle.integer_laws.specs.Vectors.{dot, plus, scale, combined, zeros, unit}
use Rattle.integer_laws.specs.Members.{In}
use Rattle.integer_laws.specs.Weights.{weigh, total, AreWeights}

-- ---- equations
pub weigh-dot : {A : Type 0} (f : A → ℤ) (S : List A) (w : List ℤ) → weigh f S w ≡ dot w (map f S)
weigh-dot f [] [] = refl
weigh-dot f [] (k ∷ w) = refl
weigh-dot f (s ∷ S) [] = refl
weigh-dot f (s ∷ S) (k ∷ w) = ap (λ t. k *ℤ f s +ℤ t) (weigh-dot f S w)

pub weigh-map : {A B : Type 0} (f : B → ℤ) (h : A → B) (S : List A) (w : List ℤ) → weigh f (map h S) w ≡ weigh (λ s. f (h s)) S w
weigh-map f h [] w = refl
weigh-map f h (s ∷ S) [] = refl
weigh-map f h (s ∷ S) (k ∷ w) = ap (λ t. k *ℤ f (h s) +ℤ t) (weigh-map f h S w)

pub weigh-append : {A : Type 0} (f : A → ℤ) (S T : List A) (w : List ℤ) → weigh f (S ++ T) w ≡ weigh f S (take (length S) w) +ℤ weigh f T (drop (length S) w)
weigh-append f [] T w = omega (arith, ints)
weigh-append f (s ∷ S) [] [] = refl
weigh-append f (s ∷ S) (t ∷ T) [] = refl
weigh-append f (s ∷ S) T (k ∷ w) = let r = weigh-append f S T w in omega (arith, ints)

pub weigh_joined : {A : Type 0} (f : A → ℤ) (S T : List A) (w v : List ℤ) → length S ≡ length w → weigh f (S ++ T) (w ++ v) ≡ weigh f S w +ℤ weigh f T v
weigh_joined f [] T [] v e = omega (arith, ints)
weigh_joined f [] T (k ∷ w) v e = absurd (omega arith)
weigh_joined f (s ∷ S) T [] v e = absurd (omega arith)
weigh_joined f (s ∷ S) T (k ∷ w) v e = let r = weigh_joined f S T w v (omega arith) in omega (arith, ints)

pub weigh-plus : {A : Type 0} (f : A → ℤ) (S : List A) (w v : List ℤ) → weigh f S (plus w v) ≡ weigh f S w +ℤ weigh f S v
weigh-plus f [] w v = omega (arith, ints)
weigh-plus f (s ∷ S) [] v = omega (arith, ints)
weigh-plus f (s ∷ S) (k ∷ w) [] = omega (arith, ints)
weigh-plus f (s ∷ S) (k ∷ w) (j ∷ v) = simp (weigh-plus f S w v, expand) (omega (arith, ints))

pub weigh-scale : {A : Type 0} (f : A → ℤ) (t : ℤ) (S : List A) (w : List ℤ) → weigh f S (scale t w) ≡ t *ℤ weigh f S w
weigh-scale f t [] w = simp expand
weigh-scale f t (s ∷ S) [] = simp expand
weigh-scale f t (s ∷ S) (k ∷ w) = simp (weigh-scale f t S w, expand) (omega (arith, ints))

pub weigh-combined : {A : Type 0} (f : A → ℤ) (p q : ℤ) (S : List A) (w v : List ℤ) → weigh f S (combined p q w v) ≡ p *ℤ weigh f S w -ℤ q *ℤ weigh f S v
weigh-combined f p q [] w v = simp expand (omega (arith, ints))
weigh-combined f p q (s ∷ S) [] v = simp (weigh-scale f (neg_ℤ q) (s ∷ S) v, expand) (omega (arith, ints))
weigh-combined f p q (s ∷ S) (k ∷ w) [] = simp (weigh-scale f p S w, expand) (omega (arith, ints))
weigh-combined f p q (s ∷ S) (k ∷ w) (j ∷ v) = simp (weigh-combined f p q S w v, expand) (omega (arith, ints))

pub weigh-zeros : {A : Type 0} (f : A → ℤ) (n : ℕ) (S : List A) → weigh f S (zeros n) ≡ pos 0
weigh-zeros f n [] = refl
weigh-zeros f zero (s ∷ S) = refl
weigh-zeros f (suc n) (s ∷ S) = let r = weigh-zeros f n S in omega (arith, ints)

pub weigh-unit : {A : Type 0} (f : A → ℤ) (n j : ℕ) (S : List A) (d : A) → j < n → j < length S → weigh f S (unit n j) ≡ f (get_or S j d)
weigh-unit f n j [] d h k = absurd (omega arith)
weigh-unit f zero j (s ∷ S) d h k = absurd (omega arith)
weigh-unit f (suc n) zero (s ∷ S) d h k = let r = weigh-zeros f n S in omega (arith, ints)
weigh-unit f (suc n) (suc j) (s ∷ S) d h k = let r = weigh-unit f n j S d (omega arith) (omega arith) in omega (arith, ints)

pub weigh-linear : {A : Type 0} (a b : ℤ) (f g : A → ℤ) (S : List A) (w : List ℤ) → weigh (λ s. a *ℤ f s +ℤ b *ℤ g s) S w ≡ a *ℤ weigh f S w +ℤ b *ℤ weigh g S w
weigh-linear a b f g [] w = simp expand
weigh-linear a b f g (s ∷ S) [] = simp expand
weigh-linear a b f g (s ∷ S) (k ∷ w) = let r = weigh-linear a b f g S w in simp (r, expand) (omega (arith, ints))

pub weigh_constant : {A : Type 0} (f : A → ℤ) (g : ℤ) (S : List A) (w : List ℤ) → ((s : A) → In s S → f s ≡ g) → weigh f S w ≡ g *ℤ total S w
weigh_constant f g [] w h = simp expand
weigh_constant f g (s ∷ S) [] h = simp expand
weigh_constant f g (s ∷ S) (k ∷ w) h = rw (h s (inl refl), weigh_constant f g S w (λ t i. h t (inr i))) (simp expand (omega (arith, ints)))

-- ---- bounds
pub weigh_at_most : {A : Type 0} (f : A → ℤ) (g : ℤ) (S : List A) (w : List ℤ) → AreWeights (pos 0) S w → ((s : A) → In s S → f s ≤ℤ g) → weigh f S w ≤ℤ (g *ℤ total S w)
weigh_at_most f g [] w ws a = simp expand (omega (arith, ints))
weigh_at_most f g (s ∷ S) [] ws a = absurd ws
weigh_at_most f g (s ∷ S) (k ∷ w) ws a =
    le_from (add_le (mul_le k ws.0 (a s (inl refl))) (weigh_at_most f g S w ws.1 (λ t i. a t (inr i)))) (simp expand (omega (arith, ints)))

pub weights_weaker : {A : Type 0} (least most : ℤ) (S : List A) (w : List ℤ) → least ≤ℤ most → AreWeights most S w → AreWeights least S w
weights_weaker least most [] [] h a = tt
weights_weaker least most [] (k ∷ w) h a = absurd a
weights_weaker least most (s ∷ S) [] h a = absurd a
weights_weaker least most (s ∷ S) (k ∷ w) h a = let low = a.0 in (omega (arith, ints), weights_weaker least most S w h a.1)

pub weigh_below : {A : Type 0} (f : A → ℤ) (g : ℤ) (S : List A) (w : List ℤ) (t : A) → AreWeights (pos 1) S w → ((s : A) → In s S → f s ≤ℤ g) → In t S → f t <ℤ g → weigh f S w <ℤ (g *ℤ total S w)
weigh_below f g [] w t ws a i b = absurd i
weigh_below f g (s ∷ S) [] t ws a i b = absurd ws
weigh_below f g (s ∷ S) (k ∷ w) t ws a (inl e) b =
    let low = ws.0 in
    let value = ap f e in
    let first : f s <ℤ g = omega (arith, ints) in
    let rest = weigh_at_most f g S w (weights_weaker (pos 0) (pos 1) S w (omega (arith, ints)) ws.1) (λ u i. a u (inr i)) in
    lt_from (add_lt_le (mul_lt k (omega (arith, ints)) first) rest) (simp expand (omega (arith, ints)))
weigh_below f g (s ∷ S) (k ∷ w) t ws a (inr i) b =
    let low = ws.0 in
    lt_from (add_le_lt (mul_le k (omega (arith, ints)) (a s (inl refl))) (weigh_below f g S w t ws.1 (λ u j. a u (inr j)) i b)) (simp expand (omega (arith, ints)))

-- ---- weights
pub length-weights : {A : Type 0} (least : ℤ) (S : List A) (w : List ℤ) → AreWeights least S w → length S ≡ length w
length-weights least [] [] a = refl
length-weights least [] (k ∷ w) a = absurd a
length-weights least (s ∷ S) [] a = absurd a
length-weights least (s ∷ S) (k ∷ w) a = ap suc (length-weights least S w a.1)

pub weights_map : {A B : Type 0} (least : ℤ) (h : A → B) (S : List A) (w : List ℤ) → AreWeights least (map h S) w → AreWeights least S w
weights_map least h [] [] a = tt
weights_map least h [] (k ∷ w) a = absurd a
weights_map least h (s ∷ S) [] a = absurd a
weights_map least h (s ∷ S) (k ∷ w) a = (a.0, weights_map least h S w a.1)

pub weights_joined : {A : Type 0} (least : ℤ) (S T : List A) (w v : List ℤ) → AreWeights least S w → AreWeights least T v → AreWeights least (S ++ T) (w ++ v)
weights_joined least [] T [] v a b = b
weights_joined least [] T (k ∷ w) v a b = absurd a
weights_joined least (s ∷ S) T [] v a b = absurd a
weights_joined least (s ∷ S) T (k ∷ w) v a b = (a.0, weights_joined least S T w v a.1 b)

pub weights_front : {A : Type 0} (least : ℤ) (S T : List A) (w : List ℤ) → AreWeights least (S ++ T) w → AreWeights least S (take (length S) w)
weights_front least [] T w a = tt
weights_front least (s ∷ S) T [] a = absurd a
weights_front least (s ∷ S) T (k ∷ w) a = (a.0, weights_front least S T w a.1)

pub weights_rest : {A : Type 0} (least : ℤ) (S T : List A) (w : List ℤ) → AreWeights least (S ++ T) w → AreWeights least T (drop (length S) w)
weights_rest least [] T w a = a
weights_rest least (s ∷ S) T [] a = absurd a
weights_rest least (s ∷ S) T (k ∷ w) a = weights_rest least S T w a.1

pub weights_plus : {A : Type 0} (least most : ℤ) (S : List A) (w v : List ℤ) → AreWeights least S w → AreWeights most S v → AreWeights (least +ℤ most) S (plus w v)
weights_plus least most [] [] [] a b = tt
weights_plus least most [] [] (j ∷ v) a b = absurd b
weights_plus least most [] (k ∷ w) v a b = absurd a
weights_plus least most (s ∷ S) [] v a b = absurd a
weights_plus least most (s ∷ S) (k ∷ w) [] a b = absurd b
weights_plus least most (s ∷ S) (k ∷ w) (j ∷ v) a b =
    let h = a.0 in
    let g = b.0 in
    (omega (arith, ints), weights_plus least most S w v a.1 b.1)

pub weights_scale : {A : Type 0} (t least : ℤ) (S : List A) (w : List ℤ) → pos 0 ≤ℤ t → AreWeights least S w → AreWeights (t *ℤ least) S (scale t w)
weights_scale t least [] [] p a = tt
weights_scale t least [] (k ∷ w) p a = absurd a
weights_scale t least (s ∷ S) [] p a = absurd a
weights_scale t least (s ∷ S) (k ∷ w) p a = (mul_le t p a.0, weights_scale t least S w p a.1)

pub total_nonneg : {A : Type 0} (S : List A) (w : List ℤ) → AreWeights (pos 0) S w → pos 0 ≤ℤ total S w
total_nonneg [] w a = omega (arith, ints)
total_nonneg (s ∷ S) [] a = absurd a
total_nonneg (s ∷ S) (k ∷ w) a = let h = a.0 in let r = total_nonneg S w a.1 in omega (arith, ints)

pub total_positive : {A : Type 0} (s : A) (S : List A) (w : List ℤ) → AreWeights (pos 1) (s ∷ S) w → pos 0 <ℤ total (s ∷ S) w
total_positive s S [] a = absurd a
total_positive s S (k ∷ w) a =
    let h = a.0 in
    let r = total_nonneg S w (weights_weaker (pos 0) (pos 1) S w (omega (arith, ints)) a.1) in
    omega (arith, ints)
