-- The numbers below n, each once, are n, and as a list without repeats.
--
--   AreApart ks             none stands twice, by recursion
--   AreVisits n visit       n numbers below n, each once
--   visits_are              so is an order in which n children are to be looked at
use Rattle.std.proofs.Common.{◌≡◌, ℕ, zero, suc, ◌+◌, ◌<◌, ◌≤◌, List, [], ◌∷◌, All, Bool, true, false, cond, eqb, length, refl, sym, ap, subst, ◌∙◌, arith, inl, inr}
use Rattle.std.proofs.lemmas.Bool.{eqb-true, eq-eqb}
use Rattle.integer_laws.specs.Laws.Members.{All-from_in, Contains-from_in, In-from_contains}
use Rattle.integer_laws.specs.Members.{In}
use Rattle.node_looks.specs.Looks.{IsVisit}
use Rattle.object_orders.specs.Orders.{IsOnce}

abbrev pub AreApart : List ℕ → Type 0
AreApart [] = Unit {0}
AreApart (x ∷ xs) = (In x xs → ⊥) × AreApart xs

pub record AreVisits (count : ℕ) (visits : List ℕ) : Type 0 where
  pub few : length visits ≤ count
  pub known : All (λ k. k < count) visits
  pub apart : AreApart visits
  pub each : (k : ℕ) → k < count → In k visits

apart_once : (ks : List ℕ) → IsOnce ks → AreApart ks
apart_once [] once = tt
apart_once (k ∷ ks) once = (
  (λ i. let c = Contains-from_in ks k i in once 0 (suc c.0) k (omega arith) (omega arith) (sym c.2)),
  apart_once ks (λ i j d low high. once (suc i) (suc j) d (omega arith) (omega arith)),
)

without : ℕ → List ℕ → List ℕ
without v [] = []
without v (k ∷ ks) = cond (eqb k v) (without v ks) (k ∷ without v ks)

clash : true ≡ false → ⊥
clash e = cc

in_without : (v k : ℕ) (ks : List ℕ) → In k (without v ks) → In k ks × (k ≡ v → ⊥)
unfolding without
in_without v k [] i = absurd i
in_without v k (m ∷ ks) i = by (eqb m v) refl i (λ j. in_without v k ks j)
  where
    by : (b : Bool) → eqb m v ≡ b → In k (cond b (without v ks) (m ∷ without v ks)) → (In k (without v ks) → In k ks × (k ≡ v → ⊥)) → In k (m ∷ ks) × (k ≡ v → ⊥)
    by true e j rest = let r = rest j in (inr r.0, r.1)
    by false e (inl same) rest = (inl same, λ q. clash (sym (eq-eqb m v (sym same ∙ q)) ∙ e))
    by false e (inr j) rest = let r = rest j in (inr r.0, r.1)

apart_without : (v : ℕ) (ks : List ℕ) → AreApart ks → AreApart (without v ks)
unfolding without
apart_without v [] apart = tt
apart_without v (m ∷ ks) apart = by (eqb m v) (apart_without v ks apart.1)
  where
    by : (b : Bool) → AreApart (without v ks) → AreApart (cond b (without v ks) (m ∷ without v ks))
    by true rest = rest
    by false rest = ((λ i. let j = in_without v m ks i in apart.0 j.0), rest)

kept_without : (v : ℕ) (ks : List ℕ) → (In v ks → ⊥) → length (without v ks) ≡ length ks
unfolding without
kept_without v [] never = refl
kept_without v (m ∷ ks) never = by (eqb m v) refl (kept_without v ks (λ i. never (inr i)))
  where
    by : (b : Bool) → eqb m v ≡ b → length (without v ks) ≡ length ks → length (cond b (without v ks) (m ∷ without v ks)) ≡ suc (length ks)
    by true e rest = absurd (never (inl (sym (eqb-true m v e))))
    by false e rest = ap suc rest

length_without : (v : ℕ) (ks : List ℕ) → AreApart ks → length ks ≤ length (without v ks) + 1
unfolding without
length_without v [] apart = omega arith
length_without v (m ∷ ks) apart = by (eqb m v) refl (length_without v ks apart.1)
  where
    by : (b : Bool) → eqb m v ≡ b → length ks ≤ length (without v ks) + 1 → suc (length ks) ≤ length (cond b (without v ks) (m ∷ without v ks)) + 1
    by true e rest = let kept = kept_without v ks (λ i. apart.0 (subst (λ x. In x ks) (sym (eqb-true m v e)) i)) in omega (arith, kept)
    by false e rest = omega (arith, rest)

few_below : (n : ℕ) (ks : List ℕ) → AreApart ks → ((k : ℕ) → In k ks → k < n) → length ks ≤ n
few_below zero [] apart below = omega arith
few_below zero (k ∷ ks) apart below = absurd (omega (arith, below k (inl refl)))
few_below (suc n) ks apart below =
    let rest = few_below n (without n ks) (apart_without n ks apart) (λ k i. let j = in_without n k ks i in lower k (below k j.0) j.1) in
    let here = length_without n ks apart in
    omega (arith, rest, here)
  where
    lower : (k : ℕ) → k < suc n → (k ≡ n → ⊥) → k < n
    lower k l ne = omega (arith, l, ne)

pub visits_are : (n : ℕ) (visit : List ℕ) → IsVisit n visit → AreVisits n visit
visits_are n visit is = record {
  few = few_below n visit (apart_once visit is.once) below;
  known = All-from_in (λ k. k < n) visit below;
  apart = apart_once visit is.once;
  each = λ k h. In-from_contains visit k ((is.all k).1 h);
}
  where
    below : (k : ℕ) → In k visit → k < n
    below k i = (is.all k).0 (Contains-from_in visit k i)
