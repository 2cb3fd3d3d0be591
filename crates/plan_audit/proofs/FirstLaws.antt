-- Loops that look for the first.
--
--   step                    one number more, at which nothing is so
--   number_some, number_none    where a loop over numbers ends
--   one_first               in an order of all there is one first
use Rattle.std.proofs.Common.{◌≡◌, ℕ, ◌+◌, ◌<◌, ◌≤◌, Some, None, arith, subst, ap, sym, ◌∙◌, inl, inr, ◌⊎◌}
use Rattle.std.proofs.lemmas.Bool.{cases_lt}
use Rattle.plan_audit.specs.Firsts.{IsFirst, Less, Sooner, NumberBelow, Below}

pub number_none : (P : ℕ → Type 0) (n : ℕ) → ((m : ℕ) → P m → m < n) → NumberBelow P n → IsFirst P Less None
number_none P n bound below m p = below m (bound m p) p

pub number_some : (P : ℕ → Type 0) (n : ℕ) → NumberBelow P n → P n → IsFirst P Less (Some n)
number_some P n below p = (p, λ y q l. below y l q)

pub step : {X : Type 0} (P : ℕ × X → Type 0) (B : X → X → Type 0) (n : ℕ) → Below P n → IsFirst (λ x. P (n, x)) B None → Below P (n + 1)
step {X} P B n below not m x l p = by (cases_lt m n)
  where
    by : (m < n) ⊎ (n ≤ m) → ⊥
    by (inl k) = below m x k p
    by (inr k) = not x (subst (λ o. P (o, x)) (let e : m ≡ n = omega (arith, k, l) in e) p)

pub sooner_some : {X : Type 0} (P : ℕ × X → Type 0) (B : X → X → Type 0) (n : ℕ) (x : X) → Below P n → IsFirst (λ y. P (n, y)) B (Some x) → IsFirst P (Sooner B) (Some (n, x))
sooner_some {X} P B n x below first = (first.0, λ y p s. by y p s)
  where
    by : (y : ℕ × X) → P y → Sooner B y (n, x) → ⊥
    by y p (inl l) = below y.0 y.1 l p
    by y p (inr s) = first.1 y.1 (subst (λ m. P (m, y.1)) s.0 p) s.1

-- ---- one first
abbrev pub IsTotal : {X : Type 0} → (X → X → Type 0) → Type 0
IsTotal {X} B = (x y : X) → (B x y → ⊥) → (B y x → ⊥) → x ≡ y

pub less_total : IsTotal Less
less_total x y f g = by (cases_lt x y) (cases_lt y x)
  where
    by : (x < y) ⊎ (y ≤ x) → (y < x) ⊎ (x ≤ y) → x ≡ y
    by (inl h) k = absurd (f h)
    by (inr h) (inl k) = absurd (g k)
    by (inr h) (inr k) = omega (arith, h, k)

pub sooner_total : {X : Type 0} (B : X → X → Type 0) → IsTotal B → IsTotal (Sooner B)
sooner_total {X} B total a b f g = whole (less_total a.0 b.0 (λ h. f (inl h)) (λ h. g (inl h)))
  where
    whole : a.0 ≡ b.0 → a ≡ b
    whole e =
        let rest = total a.1 b.1 (λ h. f (inr (e, h))) (λ h. g (inr (sym e, h))) in
        ap (λ (n : ℕ). (n, a.1)) e ∙ ap (λ (x : X). (b.0, x)) rest

pub one_first : {X : Type 0} (P : X → Type 0) (B : X → X → Type 0) (x y : X) → IsTotal B → IsFirst P B (Some x) → IsFirst P B (Some y) → x ≡ y
one_first P B x y total f g = total x y (λ h. g.1 x f.0 h) (λ h. f.1 y g.0 h)
