-- Two chains, one up and one down, meet in a closed way that turns left everywhere, if not all points lie on one line.
-- The lower chain is b ∷ a ∷ ls, from t at its bottom up to b; the upper one is t ∷ e ∷ us, from b at its bottom down to t.
--
--   rest_of b cs acc     a chain from its bottom on, without the bottom, and then acc
--   sharp                where two edges that see a list with area meet, the way turns left
--   Chains S a ls e us   what is known of both chains of S
--   corners a ls e us    the closed way: t, up to b, and back
--   corners_in           its corners are members; walk: each edge sees all of S; turns_of: it turns left at each corner
use Rattle.std.proofs.Common.{◌≡◌, List, [], ◌∷◌, refl, sym, ◌∙◌, arith, ℤ, pos, neg_ℤ, ◌+ℤ◌, ◌-ℤ◌, ◌*ℤ◌, ◌≤ℤ◌, ◌<ℤ◌, ◌⊎◌, inl, inr}
use Rattle.std.proofs.lemmas.Int.{ints, by_lt_z}
use Rattle.integer_laws.specs.Laws.Ring.{expand}
use Rattle.integer_laws.specs.Laws.Order.{le_from, lt_from, add_le, add_lt_le, le_of_same, mul_same, mul_nonneg, mul_positive, cancel_le}
use Rattle.integer_laws.specs.Members.{In}
use Rattle.integer_laws.specs.Laws.Members.{In-from_contains}
use Rattle.seq_model.specs.declared.printer.Spot.{Spot}
use Rattle.outline_laws.specs.Corners.{turn, HasArea}
use Rattle.outline_laws.specs.Laws.Vectors.{less, cross, height, height_cross, rises, cross_back, turn_back, turn_behind}
use Rattle.outline_laws.specs.Laws.Polygons.{last_of, next_of, Steps, TurnsAlong, Seen}
use Rattle.outline_laws.specs.Laws.ChainLaws.{StepsUp, Bends, BendsOn, LeftOf, bottom}

-- a chain from its bottom on, without the bottom, and then acc
abbrev pub rest_of : Spot → List Spot → List Spot → List Spot
rest_of b [] acc = acc
rest_of b (a ∷ cs) acc = rest_of a cs (b ∷ acc)

pub steps_on : (P : Spot → Spot → Type 0) (b : Spot) (cs acc : List Spot) → StepsUp P b cs → Steps P b acc → Steps P (bottom b cs) (rest_of b cs acc)
steps_on P b [] acc s t = t
steps_on P b (a ∷ cs) acc s t = steps_on P a cs (b ∷ acc) s.1 (s.0, t)

pub turns_on : (b : Spot) (cs acc : List Spot) (z : Spot) → Bends b cs → BendsOn (next_of acc z) b cs → TurnsAlong b acc z → TurnsAlong (bottom b cs) (rest_of b cs acc) z
turns_on b [] acc z h k t = t
turns_on b (a ∷ cs) acc z h k t = turns_on a cs (b ∷ acc) z h.1 h.0 (k, t)

pub last_on : (x y b : Spot) (cs acc : List Spot) → last_of x (rest_of b cs (y ∷ acc)) ≡ last_of y acc
last_on x y b [] acc = refl
last_on x y b (a ∷ cs) acc = last_on x b a cs (y ∷ acc)

-- the first step of a chain
pub first_step : (P : Spot → Spot → Type 0) (b : Spot) (cs acc : List Spot) (z : Spot) → StepsUp P b cs → P b (next_of acc z) → P (bottom b cs) (next_of (rest_of b cs acc) z)
first_step P b [] acc z s h = h
first_step P b (a ∷ cs) acc z s h = first_step P a cs (b ∷ acc) z s.1 s.0

pub all_left : (S : List Spot) (b : Spot) (cs : List Spot) → ((s : Spot) → In s S → LeftOf s b cs) → StepsUp (λ a b. (s : Spot) → In s S → pos 0 ≤ℤ turn a b s) b cs
all_left S b [] h = tt
all_left S b (a ∷ cs) h = (λ s i. (h s i).0, all_left S a cs (λ s i. (h s i).1))

-- members
pub in_rest : (s b : Spot) (cs acc : List Spot) → In s (rest_of b cs acc) → In s (b ∷ cs) ⊎ In s acc
in_rest s b [] acc i = inr i
in_rest s b (a ∷ cs) acc i = sort (in_rest s a cs (b ∷ acc) i)
  where
    sort : (In s (a ∷ cs) ⊎ In s (b ∷ acc)) → (In s (b ∷ a ∷ cs) ⊎ In s acc)
    sort (inl j) = inl (inr j)
    sort (inr (inl e)) = inl (inl e)
    sort (inr (inr j)) = inr j

-- ---- where the chains meet
flat_z : (hu hv hz vz vu uz zu : ℤ) → pos 0 <ℤ hv → pos 0 ≤ℤ hu → pos 0 ≤ℤ vz → vu ≡ pos 0 → hu *ℤ vz ≡ hz *ℤ vu +ℤ hv *ℤ uz → zu ≡ neg_ℤ uz → zu ≤ℤ pos 0
flat_z hu hv hz vz vu uz zu p q r e f g =
    cancel_le hv p (le_from (add_le (mul_nonneg hu vz q r) (add_le (le_of_same f) (add_le (le_of_same (mul_same hz e)) (le_of_same (mul_same hv g))))) (simp expand (omega (arith, ints))))

flat_area : (hu hx hy xy xu uy : ℤ) → pos 0 <ℤ hu → pos 0 <ℤ xy → xu ≡ pos 0 → uy ≡ pos 0 → hu *ℤ xy ≡ hy *ℤ xu +ℤ hx *ℤ uy → pos 0 <ℤ pos 0
flat_area hu hx hy xy xu uy p q e f g =
    lt_from (add_lt_le (mul_positive hu xy p q) (add_le (le_of_same g) (add_le (le_of_same (mul_same hy e)) (le_of_same (mul_same hx f))))) (simp expand (omega (arith, ints)))

on_line : (hx hy : ℤ) (a b c s : Spot) → height hx hy a <ℤ height hx hy b → height hx hy c <ℤ height hx hy b → turn a b c ≡ pos 0 → pos 0 ≤ℤ turn b c s → turn a b s ≤ℤ pos 0
on_line hx hy a b c s p q e h =
    let u = less b a in
    let v = less b c in
    let z = less b s in
    let up = rises hx hy a b p in
    rw (turn_back a b s)
    (flat_z (height hx hy u) (height hx hy v) (height hx hy z) (cross v z) (cross v u) (cross u z) (cross z u) (rises hx hy c b q) (weak _ up) (rw (sym (turn_behind b c s)) h) (sym (turn_back a b c) ∙ e) (height_cross hx hy v u z) (cross_back z u))
  where
    weak : (n : ℤ) → pos 0 <ℤ n → pos 0 ≤ℤ n
    weak n h = omega (arith, ints)

turn_less : (a b i j : Spot) → cross (less j i) (less b a) ≡ turn a b i -ℤ turn a b j
turn_less a b i j = simp expand (omega (arith, ints))

turn_less_back : (a b i j : Spot) → cross (less b a) (less j i) ≡ turn a b j -ℤ turn a b i
turn_less_back a b i j = simp expand (omega (arith, ints))

no_area : (hx hy : ℤ) (a b i j k : Spot) → height hx hy a <ℤ height hx hy b → turn a b i ≡ pos 0 → turn a b j ≡ pos 0 → turn a b k ≡ pos 0 → pos 0 <ℤ turn i j k → pos 0 <ℤ pos 0
no_area hx hy a b i j k p e f g t =
    let u = less b a in
    let x = less j i in
    let y = less k i in
    flat_area (height hx hy u) (height hx hy x) (height hx hy y) (cross x y) (cross x u) (cross u y) (rises hx hy a b p) t (turn_less a b i j ∙ zero _ _ e f) (turn_less_back a b i k ∙ zero _ _ g e) (height_cross hx hy x u y)
  where
    zero : (m n : ℤ) → m ≡ pos 0 → n ≡ pos 0 → m -ℤ n ≡ pos 0
    zero m n e f = omega (arith, ints)

pub sharp : (hx hy : ℤ) (S : List Spot) (a b c : Spot) → height hx hy a <ℤ height hx hy b → height hx hy c <ℤ height hx hy b → In c S → Seen S a b → Seen S b c → HasArea S → pos 0 <ℤ turn a b c
sharp hx hy S a b c p q i s r area = by_lt_z (pos 0) (turn a b c) (λ h. h) (λ h. absurd (none (no_area hx hy a b area.i area.j area.k p (flat h area.i (In-from_contains S area.i area.i_in)) (flat h area.j (In-from_contains S area.j area.j_in)) (flat h area.k (In-from_contains S area.k area.k_in)) area.turns)))
  where
    none : pos 0 <ℤ pos 0 → ⊥
    none h = omega (arith, ints)

    both : (n : ℤ) → pos 0 ≤ℤ n → n ≤ℤ pos 0 → n ≡ pos 0
    both n h k = omega (arith, ints)

    flat : turn a b c ≤ℤ pos 0 → (t : Spot) → In t S → turn a b t ≡ pos 0
    flat h t j = both _ (s t j) (on_line hx hy a b c t p q (both _ (s c i) h) (r t j))

last_upper : (e : Spot) (us : List Spot) → last_of (bottom e us) (rest_of e us []) ≡ e
last_upper e [] = refl
last_upper e (f ∷ us) = last_on (bottom f us) e f us []

-- ---- the polygon of a lower chain b ∷ a ∷ ls, from t up to b, and an upper one t ∷ e ∷ us, from b down to t
pub record Chains (S : List Spot) (a : Spot) (ls : List Spot) (e : Spot) (us : List Spot) : Type 0 where
  pub low_seen : StepsUp (Seen S) (bottom e us) (a ∷ ls)
  pub high_seen : StepsUp (Seen S) (bottom a ls) (e ∷ us)
  pub low_bends : Bends (bottom e us) (a ∷ ls)
  pub high_bends : Bends (bottom a ls) (e ∷ us)
  pub at_top : pos 0 <ℤ turn a (bottom e us) (next_of (rest_of e us []) (bottom a ls))
  pub at_bottom : pos 0 <ℤ turn e (bottom a ls) (next_of (rest_of (bottom e us) (a ∷ ls) (rest_of e us [])) (bottom a ls))
  pub low_in : (s : Spot) → In s (bottom e us ∷ a ∷ ls) → In s S
  pub high_in : (s : Spot) → In s (bottom a ls ∷ e ∷ us) → In s S

abbrev pub corners : Spot → List Spot → Spot → List Spot → List Spot
corners a ls e us = bottom a ls ∷ rest_of (bottom e us) (a ∷ ls) (rest_of e us [])

pub corners_in : (S : List Spot) (a : Spot) (ls : List Spot) (e : Spot) (us : List Spot) → Chains S a ls e us → (s : Spot) → In s (corners a ls e us) → In s S
corners_in S a ls e us c s (inl q) = c.high_in s (inl q)
corners_in S a ls e us c s (inr i) = first (in_rest s (bottom e us) (a ∷ ls) (rest_of e us []) i)
  where
    second : (In s (e ∷ us) ⊎ In s []) → In s S
    second (inl j) = c.high_in s (inr j)
    second (inr j) = absurd j

    first : (In s (bottom e us ∷ a ∷ ls) ⊎ In s (rest_of e us [])) → In s S
    first (inl j) = c.low_in s j
    first (inr j) = second (in_rest s e us [] j)

pub walk : (S : List Spot) (a : Spot) (ls : List Spot) (e : Spot) (us : List Spot) → Chains S a ls e us → Steps (Seen S) e (corners a ls e us)
walk S a ls e us c = (c.high_seen.0, steps_on (Seen S) (bottom e us) (a ∷ ls) (rest_of e us []) c.low_seen (steps_on (Seen S) e us [] c.high_seen.1 tt))

pub turns_of : (S : List Spot) (a : Spot) (ls : List Spot) (e : Spot) (us : List Spot) → Chains S a ls e us → TurnsAlong e (corners a ls e us) (bottom a ls)
turns_of S a ls e us c =
    (c.at_bottom, turns_on (bottom e us) (a ∷ ls) (rest_of e us []) (bottom a ls) c.low_bends c.at_top (turns_on e us [] (bottom a ls) c.high_bends.1 c.high_bends.0 tt))

pub last_corner : (a : Spot) (ls : List Spot) (e : Spot) (us : List Spot) → last_of (bottom a ls) (rest_of (bottom e us) (a ∷ ls) (rest_of e us [])) ≡ e
last_corner a ls e us = last_on (bottom a ls) (bottom e us) a ls (rest_of e us []) ∙ last_upper e us
