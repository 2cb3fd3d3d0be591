-- The first that is so, and what a loop over numbers keeps while it looks for it.
--
--   IsFirst P B r       none is so where r is None; else what r holds is so, and nothing that stands before it by B
--   Less a b            a is below b
--   Sooner B a b        of two numbered things: a has the lower number, or the same one and stands before b by B
--   NumberBelow P n     no number below n is so
--   Below P n           nothing with a number below n is so
use Rattle.std.specs.Prelude.{◌≡◌, ℕ, ◌<◌, ◌⊎◌, Option, Some, None}

abbrev pub IsFirst : {X : Type 0} → (X → Type 0) → (X → X → Type 0) → Option X → Type 0
IsFirst {X} P B None = (x : X) → P x → ⊥
IsFirst {X} P B (Some x) = P x × ((y : X) → P y → B y x → ⊥)

abbrev pub Less : ℕ → ℕ → Type 0
Less a b = a < b

abbrev pub Sooner : {X : Type 0} → (X → X → Type 0) → ℕ × X → ℕ × X → Type 0
Sooner B a b = (a.0 < b.0) ⊎ ((a.0 ≡ b.0) × B a.1 b.1)

abbrev pub NumberBelow : (ℕ → Type 0) → ℕ → Type 0
NumberBelow P n = (m : ℕ) → m < n → P m → ⊥

abbrev pub Below : {X : Type 0} → (ℕ × X → Type 0) → ℕ → Type 0
Below {X} P n = (m : ℕ) (x : X) → m < n → P (m, x) → ⊥
