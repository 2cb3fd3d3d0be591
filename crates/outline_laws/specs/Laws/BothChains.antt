-- The chains of a list up and down are the corners of its convex outline.
--
--   Ready hx hy S b lo t hi      the lower chain b ∷ lo and the upper one t ∷ hi of S, as they are grown along (hx, hy)
--   Closed hx hy t S C           C begins with t, the lowest, any three of C turn left, and C keeps S
--   meet                         both chains together are so, whether all of S lies on one line or not
--   closed_of                    those of points that ascend
use Rattle.std.proofs.Common.{◌≡◌, List, [], ◌∷◌, ◌++◌, refl, ap, sym, subst, ◌∙◌, arith, ℤ, pos, neg_ℤ, ◌≤ℤ◌, ◌<ℤ◌, ◌⊎◌, inl, inr}
use Rattle.std.proofs.lemmas.Int.{ints}
use Rattle.std.proofs.lemmas.List.{append_assoc, append-nil, reverse-append}
use Rattle.std.proofs.lemmas.List.Elements.{All-nil}
use Rattle.std.specs.Prelude.{reverse}
use Rattle.integer_laws.specs.Members.{In}
use Rattle.integer_laws.specs.Laws.Members.{Contains-from_in}
use Rattle.seq_model.specs.declared.printer.Spot.{Spot}
use Rattle.seq_model.specs.Outlines.{Within}
use Rattle.outline_laws.specs.Corners.{turn, LeftAbout, TurnsLeft, HasArea}
use Rattle.seq_model.specs.Points.{at_spot}
use Rattle.outline_laws.specs.Chains.{fallen, grown, both_chains}
use Rattle.outline_laws.specs.Laws.Vectors.{height, opposite, rising, falling, turn_round, turn_flipped}
use Rattle.outline_laws.specs.Laws.Means.{inner_of_corners}
use Rattle.outline_laws.specs.Laws.Polygons.{next_of, Steps, TurnsAlong, Seen, IsLeft, left_of_inner, inner_of_left}
use Rattle.outline_laws.specs.Laws.ChainLaws.{StepsUp, StepsRise, Bends, LeftOf, bottom, bottom_below, bends_all, Covers, Grown, Ascends, grown_all}
use Rattle.outline_laws.specs.Laws.Closing.{rest_of, steps_on, first_step, all_left, in_rest, sharp, Chains, corners, corners_in, walk, turns_of, last_corner}
use Rattle.outline_laws.specs.Laws.Inside.{FanTurns, FanAfter, fan_on, fan_low, from_bottom, inside}
use Rattle.outline_laws.specs.Laws.Turning.{LocallyLeft, about_lowest, any_three}
use Rattle.outline_laws.specs.Hulls.{Keeps}
use Rattle.outline_laws.specs.Laws.Keeping.{segment}

pub record Ready (hx hy : ℤ) (S : List Spot) (b : Spot) (lo : List Spot) (t : Spot) (hi : List Spot) : Type 0 where
  pub low_rises : StepsRise hx hy b lo
  pub high_rises : StepsRise (neg_ℤ hx) (neg_ℤ hy) t hi
  pub low_bends : Bends b lo
  pub high_bends : Bends t hi
  pub low_left : (s : Spot) → In s S → LeftOf s b lo
  pub high_left : (s : Spot) → In s S → LeftOf s t hi
  pub low_in : (s : Spot) → In s (b ∷ lo) → In s S
  pub high_in : (s : Spot) → In s (t ∷ hi) → In s S
  pub low_below : (s : Spot) → In s S → height hx hy s ≤ℤ height hx hy b
  pub high_below : (s : Spot) → In s S → height (neg_ℤ hx) (neg_ℤ hy) s ≤ℤ height (neg_ℤ hx) (neg_ℤ hy) t

pub record Closed (hx hy : ℤ) (t : Spot) (S C : List Spot) : Type 0 where
  pub rest : List Spot
  pub is : C ≡ t ∷ rest
  pub above : (s : Spot) → In s rest → height hx hy t <ℤ height hx hy s
  pub left : TurnsLeft (t ∷ rest)
  pub keeps : Keeps S (t ∷ rest)

-- ---- both chains, of a list with area
next_in : (S : List Spot) (e : Spot) (us : List Spot) (z : Spot) → ((s : Spot) → In s (e ∷ us) → In s S) → (acc : List Spot) → In (next_of acc z) S → In (next_of (rest_of e us acc) z) S
next_in S e [] z i acc h = h
next_in S e (f ∷ us) z i acc h = next_in S f us z (λ s j. i s (inr j)) (e ∷ acc) (i e (inl refl))

chains : (hx hy : ℤ) (S : List Spot) (a : Spot) (ls : List Spot) (e : Spot) (us : List Spot) → HasArea S → Ready hx hy S (bottom e us) (a ∷ ls) (bottom a ls) (e ∷ us) → Chains S a ls e us
chains hx hy S a ls e us area r =
    let b = bottom e us in
    let t = bottom a ls in
    let low = all_left S b (a ∷ ls) r.low_left in
    let high = all_left S t (e ∷ us) r.high_left in
    let E = rest_of e us [] in
    let t_in : In t S = r.high_in t (inl refl) in
    let after_top : Seen S b (next_of E t) = first_step (Seen S) e us [] t high.1 high.0 in
    let top_in : In (next_of E t) S = next_in S e us t (λ s j. r.high_in s (inr j)) [] t_in in
    let top_down = first_step (λ x y. height (neg_ℤ hx) (neg_ℤ hy) x <ℤ height (neg_ℤ hx) (neg_ℤ hy) y) e us [] t r.high_rises.1 r.high_rises.0 in
    let after_bottom : Seen S t (next_of (rest_of b (a ∷ ls) E) t) = first_step (Seen S) b (a ∷ ls) E t low after_top in
    let bottom_in : In (next_of (rest_of b (a ∷ ls) E) t) S = next_in S b (a ∷ ls) t r.low_in E top_in in
    let bottom_up = first_step (λ x y. height hx hy x <ℤ height hx hy y) a ls (b ∷ E) t r.low_rises.1 r.low_rises.0 in
    record {
      low_seen = low;
      high_seen = high;
      low_bends = r.low_bends;
      high_bends = r.high_bends;
      at_top = sharp hx hy S a b (next_of E t) r.low_rises.0 (falling hx hy b (next_of E t) top_down) top_in low.0 after_top area;
      at_bottom = sharp (neg_ℤ hx) (neg_ℤ hy) S e t (next_of (rest_of b (a ∷ ls) E) t) r.high_rises.0 (rising hx hy _ t bottom_up) bottom_in high.0 after_bottom area;
      low_in = r.low_in;
      high_in = r.high_in;
    }

-- seen from t
seen_from : (t b : Spot) (cs : List Spot) → StepsUp (λ a b. pos 0 <ℤ turn a b t) b cs → StepsUp (λ a b. pos 0 <ℤ turn t a b) b cs
seen_from t b [] h = tt
seen_from t b (a ∷ cs) h = (round t a b h.0, seen_from t a cs h.1)
  where
    round : (t a b : Spot) → pos 0 <ℤ turn a b t → pos 0 <ℤ turn t a b
    round t a b h = let e = turn_round t a b in omega (arith, ints)

back : (e t s : Spot) → pos 0 ≤ℤ turn e t s → turn t e s ≤ℤ pos 0
back e t s h = let q = turn_flipped t e s in omega (arith, ints)

at_one : (S : List Spot) (s u : Spot) (vs : List Spot) → In s S → Steps (Seen S) u vs → Steps (λ a b. pos 0 ≤ℤ turn a b s) u vs
at_one S s u [] i h = tt
at_one S s u (v ∷ vs) i h = (h.0 s i, at_one S s v vs i h.1)

fan_at : (hx hy : ℤ) (S : List Spot) (a : Spot) (ls : List Spot) (e : Spot) (us : List Spot) → Ready hx hy S (bottom e us) (a ∷ ls) (bottom a ls) (e ∷ us) → (s : Spot) → In s S
    → FanAfter s (bottom a ls) (rest_of (bottom e us) (a ∷ ls) (rest_of e us []))
fan_at hx hy S a ls e us r s i =
    let b = bottom e us in
    let t = bottom a ls in
    let high = seen_from t e us (bends_all (neg_ℤ hx) (neg_ℤ hy) t e us r.high_rises.0 r.high_rises.1 r.high_bends.1 r.high_bends.0) in
    let last = back e t s (r.high_left s i).0 in
    fan_low s t b a ls (rest_of e us []) (r.low_left s i) (from_bottom hx hy b a ls r.low_rises r.low_bends) (fan_on s t e us [] (r.high_left s i).1 high last)

within_corners : (hx hy : ℤ) (S : List Spot) (a : Spot) (ls : List Spot) (e : Spot) (us : List Spot) → Ready hx hy S (bottom e us) (a ∷ ls) (bottom a ls) (e ∷ us) → Chains S a ls e us
    → (s : Spot) → In s S → Within (corners a ls e us) (at_spot s)
within_corners hx hy S a ls e us r c s i =
    let t = bottom a ls in
    let D = rest_of (bottom e us) (a ∷ ls) (rest_of e us []) in
    inside s t D (fan_at hx hy S a ls e us r s i) (at_one S s t D i (walk S a ls e us c).1) (subst (λ u. pos 0 <ℤ turn u t (next_of D t)) (sym (last_corner a ls e us)) c.at_bottom)

-- ---- any three turn left
below_top : (hx hy : ℤ) (t : Spot) (us : List Spot) → StepsRise hx hy t us → (s : Spot) → In s us → height hx hy s <ℤ height hx hy t
below_top hx hy t [] r s i = absurd i
below_top hx hy t (e ∷ us) r s (inl q) = subst (λ u. height hx hy u <ℤ height hx hy t) (sym q) r.0
below_top hx hy t (e ∷ us) r s (inr i) = let h = below_top hx hy e us r.1 s i in let k = r.0 in omega (arith, ints)

above_on : (hx hy : ℤ) (o b : Spot) (cs acc : List Spot) → height hx hy o ≤ℤ height hx hy (bottom b cs) → StepsRise hx hy b cs → ((s : Spot) → In s acc → height hx hy o <ℤ height hx hy s)
    → (s : Spot) → In s (rest_of b cs acc) → height hx hy o <ℤ height hx hy s
above_on hx hy o b [] acc p r h s i = h s i
above_on hx hy o b (a ∷ cs) acc p r h s i = above_on hx hy o a cs (b ∷ acc) p r.1 also s i
  where
    here : height hx hy o <ℤ height hx hy b
    here = let low = bottom_below hx hy a cs r.1 in let up = r.0 in omega (arith, ints)

    also : (s : Spot) → In s (b ∷ acc) → height hx hy o <ℤ height hx hy s
    also s (inl e) = subst (λ u. height hx hy o <ℤ height hx hy u) (sym e) here
    also s (inr j) = h s j

above_corners : (hx hy : ℤ) (S : List Spot) (a : Spot) (ls : List Spot) (e : Spot) (us : List Spot) → Ready hx hy S (bottom e us) (a ∷ ls) (bottom a ls) (e ∷ us)
    → (s : Spot) → In s (rest_of (bottom e us) (a ∷ ls) (rest_of e us [])) → height hx hy (bottom a ls) <ℤ height hx hy s
above_corners hx hy S a ls e us r = above_on hx hy (bottom a ls) (bottom e us) (a ∷ ls) (rest_of e us []) (omega (arith, ints)) r.low_rises upper
  where
    pick : (s : Spot) → (In s (e ∷ us) ⊎ In s []) → In s (e ∷ us)
    pick s (inl j) = j
    pick s (inr j) = absurd j

    upper : (s : Spot) → In s (rest_of e us []) → height hx hy (bottom a ls) <ℤ height hx hy s
    upper s i = falling hx hy s (bottom a ls) (below_top (neg_ℤ hx) (neg_ℤ hy) (bottom a ls) (e ∷ us) r.high_rises s (pick s (in_rest s e us [] i)))

locally : (u : Spot) (vs : List Spot) (z : Spot) → TurnsAlong u vs z → LocallyLeft vs
locally u [] z t = tt
locally u (a ∷ []) z t = tt
locally u (a ∷ b ∷ []) z t = tt
locally u (a ∷ b ∷ c ∷ cs) z t = (t.1.0, locally a (b ∷ c ∷ cs) z t.1)

steps_of_fan : (s o v : Spot) (vs : List Spot) → FanTurns s o v vs → Steps (λ a b. pos 0 <ℤ turn o a b) v vs
steps_of_fan s o v [] f = tt
steps_of_fan s o v (w ∷ vs) f = (f.1, steps_of_fan s o w vs f.2)

about_fan : (hx hy : ℤ) (s o : Spot) (D : List Spot) → ((x : Spot) → In x D → height hx hy o <ℤ height hx hy x) → FanAfter s o D → LeftAbout o D
about_fan hx hy s o [] up f = tt
about_fan hx hy s o (v ∷ vs) up f = about_lowest hx hy o v vs up (steps_of_fan s o v vs f)

outline : (hx hy : ℤ) (S : List Spot) (a : Spot) (ls : List Spot) (e : Spot) (us : List Spot) → HasArea S → Ready hx hy S (bottom e us) (a ∷ ls) (bottom a ls) (e ∷ us) → Closed hx hy (bottom a ls) S (corners a ls e us)
outline hx hy S a ls e us area r =
    let c = chains hx hy S a ls e us area r in
    let C = corners a ls e us in
    let t = bottom a ls in
    let D = rest_of (bottom e us) (a ∷ ls) (rest_of e us []) in
    let members = corners_in S a ls e us c in
    let within = within_corners hx hy S a ls e us r c in
    let t_in = members t (inl refl) in
    let above = above_corners hx hy S a ls e us r in
    let turns = turns_of S a ls e us c in
    let about = about_fan hx hy t t D above (fan_at hx hy S a ls e us r t t_in) in
    record {
      rest = D;
      is = refl;
      above = above;
      left = (about, any_three t D about (locally t D t turns.1));
      keeps = record {
        members = members;
        within = within;
        to_list = λ q m. inner_of_corners C S q members within m;
        to_corners = λ q m. inner_of_left q m.point t D (subst (λ u. TurnsAlong u C t) (sym (last_corner a ls e us)) turns)
            (subst (λ u. IsLeft q u C) (sym (last_corner a ls e us)) (left_of_inner q S e C t members t_in (walk S a ls e us c) turns m));
      };
    }

-- ---- both chains, of any list
abbrev pub joined : List Spot → List Spot → List Spot
joined lo hi = reverse lo ++ reverse hi

pub turned : (b : Spot) (cs acc : List Spot) → reverse (b ∷ cs) ++ acc ≡ bottom b cs ∷ rest_of b cs acc
turned b [] acc = refl
turned b (a ∷ cs) acc = ap (λ l. l ++ acc) (reverse-append (b ∷ []) (a ∷ cs)) ∙ append_assoc (reverse (a ∷ cs)) (b ∷ []) acc ∙ turned a cs (b ∷ acc)

of_area : (hx hy : ℤ) (S : List Spot) (b a : Spot) (ls : List Spot) (t u : Spot) (us : List Spot) → HasArea S → bottom a ls ≡ t → bottom u us ≡ b → Ready hx hy S b (a ∷ ls) t (u ∷ us) → Closed hx hy t S (joined (a ∷ ls) (u ∷ us))
of_area hx hy S b a ls t u us area e f r =
    let r' : Ready hx hy S b (a ∷ ls) (bottom a ls) (u ∷ us) = subst (λ x. Ready hx hy S b (a ∷ ls) x (u ∷ us)) (sym e) r in
    let r'' : Ready hx hy S (bottom u us) (a ∷ ls) (bottom a ls) (u ∷ us) = subst (λ x. Ready hx hy S x (a ∷ ls) (bottom a ls) (u ∷ us)) (sym f) r' in
    let top = turned u us [] in
    let bot = turned a ls (bottom u us ∷ rest_of u us []) in
    let same : joined (a ∷ ls) (u ∷ us) ≡ corners a ls u us = ap (λ l. reverse (a ∷ ls) ++ l) (sym (append-nil _) ∙ top) ∙ bot in
    subst (λ l. Closed hx hy t S l) (sym same) (subst (λ x. Closed hx hy x S (corners a ls u us)) e (outline hx hy S a ls u us area r''))

two_ends : (hx hy : ℤ) (S : List Spot) (b a t u : Spot) → height hx hy t <ℤ height hx hy b → a ≡ t → u ≡ b → Ready hx hy S b (a ∷ []) t (u ∷ []) → Closed hx hy t S (joined (a ∷ []) (u ∷ []))
two_ends hx hy S b a t u p e f r =
    record {
      rest = b ∷ [];
      is = cc;
      above = above;
      left = ((All-nil (λ c. pos 0 <ℤ turn t b c), tt), (tt, tt));
      keeps = segment hx hy S t b p (r.high_in t (inl refl)) (r.low_in b (inl refl)) flat r.low_below low;
    }
  where
    above : (s : Spot) → In s (b ∷ []) → height hx hy t <ℤ height hx hy s
    above s (inl q) = subst (λ x. height hx hy t <ℤ height hx hy x) (sym q) p
    above s (inr i) = absurd i

    both : (m n : ℤ) → m ≡ neg_ℤ n → pos 0 ≤ℤ m → pos 0 ≤ℤ n → m ≡ pos 0
    both m n g h k = omega (arith, ints)

    flat : (s : Spot) → In s S → turn t b s ≡ pos 0
    flat s i = both (turn t b s) (turn b t s) (turn_flipped t b s) (subst (λ x. pos 0 ≤ℤ turn x b s) e (r.low_left s i).0) (subst (λ x. pos 0 ≤ℤ turn x t s) f (r.high_left s i).0)

    low : (s : Spot) → In s S → height hx hy t ≤ℤ height hx hy s
    low s i = let h = r.high_below s i in let x = opposite hx hy s in let y = opposite hx hy t in omega (arith, ints)

meet : (hx hy : ℤ) (S : List Spot) (b : Spot) (lo : List Spot) (t : Spot) (hi : List Spot) → height hx hy t <ℤ height hx hy b → bottom b lo ≡ t → bottom t hi ≡ b → Ready hx hy S b lo t hi → Closed hx hy t S (joined lo hi)
meet hx hy S b [] t hi p e f r = absurd (never (subst (λ u. height hx hy t <ℤ height hx hy u) e p))
  where
    never : height hx hy t <ℤ height hx hy t → ⊥
    never h = omega (arith, ints)
meet hx hy S b (a ∷ ls) t [] p e f r = absurd (never (subst (λ u. height hx hy u <ℤ height hx hy b) f p))
  where
    never : height hx hy b <ℤ height hx hy b → ⊥
    never h = omega (arith, ints)
meet hx hy S b (a ∷ z ∷ ls) t (u ∷ us) p e f r =
    of_area hx hy S b a (z ∷ ls) t u us (record { i = z; j = a; k = b; i_in = Contains-from_in S z (r.low_in z (inr (inr (inl refl)))); j_in = Contains-from_in S a (r.low_in a (inr (inl refl))); k_in = Contains-from_in S b (r.low_in b (inl refl)); turns = r.low_bends.0 }) e f r
meet hx hy S b (a ∷ []) t (u ∷ v ∷ us) p e f r =
    of_area hx hy S b a [] t u (v ∷ us) (record { i = v; j = u; k = t; i_in = Contains-from_in S v (r.high_in v (inr (inr (inl refl)))); j_in = Contains-from_in S u (r.high_in u (inr (inl refl))); k_in = Contains-from_in S t (r.high_in t (inl refl)); turns = r.high_bends.0 }) e f r
meet hx hy S b (a ∷ []) t (u ∷ []) p e f r = two_ends hx hy S b a t u p e f r

-- ---- of points that ascend
in_turned : (s b : Spot) (cs acc : List Spot) → In s (b ∷ cs) ⊎ In s acc → In s (bottom b cs ∷ rest_of b cs acc)
in_turned s b [] acc (inl (inl e)) = inl e
in_turned s b [] acc (inl (inr i)) = absurd i
in_turned s b [] acc (inr i) = inr i
in_turned s b (a ∷ cs) acc (inl (inl e)) = in_turned s a cs (b ∷ acc) (inr (inl e))
in_turned s b (a ∷ cs) acc (inl (inr i)) = in_turned s a cs (b ∷ acc) (inl i)
in_turned s b (a ∷ cs) acc (inr i) = in_turned s a cs (b ∷ acc) (inr (inr i))

bottom_in : (b : Spot) (cs : List Spot) → In (bottom b cs) (b ∷ cs)
bottom_in b [] = inl refl
bottom_in b (a ∷ cs) = inr (bottom_in a cs)

from_turned : (s b : Spot) (cs : List Spot) → In s (bottom b cs ∷ rest_of b cs []) → In s (b ∷ cs)
from_turned s b cs (inl e) = subst (λ t. In t (b ∷ cs)) (sym e) (bottom_in b cs)
from_turned s b cs (inr i) = pick (in_rest s b cs [] i)
  where
    pick : (In s (b ∷ cs) ⊎ In s []) → In s (b ∷ cs)
    pick (inl j) = j
    pick (inr j) = absurd j

bottom_rest : (x y b : Spot) (cs acc : List Spot) → bottom x (rest_of b cs (y ∷ acc)) ≡ bottom y acc
bottom_rest x y b [] acc = refl
bottom_rest x y b (a ∷ cs) acc = bottom_rest x b a cs (y ∷ acc)

bottom_turned : (s : Spot) (ps : List Spot) → bottom (bottom s ps) (rest_of s ps []) ≡ s
bottom_turned s [] = refl
bottom_turned s (p ∷ ps) = bottom_rest (bottom p ps) s p ps []

down : (hx hy : ℤ) (s : Spot) (ps : List Spot) → Ascends hx hy s ps → StepsRise (neg_ℤ hx) (neg_ℤ hy) s ps
down hx hy s [] a = tt
down hx hy s (p ∷ ps) a = (rising hx hy p s a.0, down hx hy p ps a.1)

ascends_of : (hx hy : ℤ) (s : Spot) (ps : List Spot) → Steps (λ a b. height hx hy a <ℤ height hx hy b) s ps → Ascends hx hy s ps
ascends_of hx hy s [] h = tt
ascends_of hx hy s (p ∷ ps) h = (h.0, ascends_of hx hy p ps h.1)

up_to : (hx hy : ℤ) (s p : Spot) (ps : List Spot) → Ascends hx hy s (p ∷ ps) → height hx hy s <ℤ height hx hy (bottom p ps)
up_to hx hy s p [] a = a.0
up_to hx hy s p (q ∷ ps) a = let h = a.0 in let k = up_to hx hy p q ps a.1 in omega (arith, ints)

-- a grown chain begins with the last point
record Topped (p : Spot) (c : List Spot) : Type 0 where
  pub rest : List Spot
  pub is : c ≡ p ∷ rest

topped : (c : List Spot) (p : Spot) (ps : List Spot) → Topped (bottom p ps) (grown c (p ∷ ps))
topped c p [] = record { rest = fallen p c; is = refl }
topped c p (q ∷ ps) = topped (p ∷ fallen p c) q ps

-- a grown chain by its parts
record GrownAs (hx hy : ℤ) (S : List Spot) (first b : Spot) (lo : List Spot) : Type 0 where
  pub rises : StepsRise hx hy b lo
  pub bends : Bends b lo
  pub covers : (s : Spot) → In s S → Covers hx hy s b lo
  pub from_first : bottom b lo ≡ first
  pub members : (s : Spot) → In s (b ∷ lo) → In s S

abbrev ByParts : ℤ → ℤ → List Spot → Spot → List Spot → Type 0
ByParts hx hy S first [] = ⊥
ByParts hx hy S first (b ∷ lo) = GrownAs hx hy S first b lo

grown_as : (hx hy : ℤ) (S : List Spot) (first b : Spot) (lo c : List Spot) → Grown hx hy S first c → c ≡ b ∷ lo → GrownAs hx hy S first b lo
grown_as hx hy S first b lo c g e =
    subst (λ l. ByParts hx hy S first l) (sym g.is ∙ e)
    (record { rises = g.rises; bends = g.bends; covers = g.covers; from_first = g.from_first; members = λ s i. g.members s (subst (λ l. In s l) (sym g.is) i) })

pub closed_of : (hx hy : ℤ) (s p : Spot) (ps : List Spot) → Ascends hx hy s (p ∷ ps) → Closed hx hy s (s ∷ p ∷ ps) (both_chains (s ∷ p ∷ ps))
closed_of hx hy s p ps a =
    let S = s ∷ p ∷ ps in
    let last = bottom p ps in
    let qs = rest_of s (p ∷ ps) [] in
    let nx = neg_ℤ hx in
    let ny = neg_ℤ hy in
    let rev : reverse S ≡ last ∷ qs = sym (append-nil (reverse S)) ∙ turned s (p ∷ ps) [] in
    let back = ascends_of nx ny last qs (steps_on (λ x y. height nx ny x <ℤ height nx ny y) s (p ∷ ps) [] (down hx hy s (p ∷ ps) a) tt) in
    let tl = topped [] s (p ∷ ps) in
    let tu = topped [] last qs in
    let first : bottom last qs ≡ s = bottom_turned s (p ∷ ps) in
    let high_is : grown [] (last ∷ qs) ≡ s ∷ tu.rest = tu.is ∙ ap (λ x. x ∷ tu.rest) first in
    let al = grown_as hx hy S s last tl.rest (grown [] S) (grown_all hx hy s (p ∷ ps) a) tl.is in
    let au = grown_as nx ny (last ∷ qs) last s tu.rest (grown [] (last ∷ qs)) (grown_all nx ny last qs back) high_is in
    let same : both_chains S ≡ joined tl.rest tu.rest = rw (tl.is, rev, high_is) refl in
    subst (λ l. Closed hx hy s S l) (sym same)
    (meet hx hy S last tl.rest s tu.rest (up_to hx hy s p ps a) al.from_first au.from_first
    (record {
      low_rises = al.rises;
      high_rises = au.rises;
      low_bends = al.bends;
      high_bends = au.bends;
      low_left = λ x i. (al.covers x i).left;
      high_left = λ x i. (au.covers x (in_turned x s (p ∷ ps) [] (inl i))).left;
      low_in = al.members;
      high_in = λ x i. from_turned x s (p ∷ ps) (au.members x i);
      low_below = λ x i. (al.covers x i).below;
      high_below = λ x i. (au.covers x (in_turned x s (p ∷ ps) [] (inl i))).below;
    }))
