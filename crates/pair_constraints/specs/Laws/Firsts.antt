-- The first that is so, and what a loop that looks for it knows.
--
--   IsFirst P B r       none is so where r is None; else what r holds is so, and nothing that stands before it by B
--   Sooner B            of two numbered things: by number, then by B
--   Below P n           nothing with a number below n is so
--   NumberBelow P n     no number below n is so
use Rattle.std.proofs.Common.{ℕ, ◌<◌}
pub use Rattle.pair_constraints.specs.FirstContacts.{IsFirst, Sooner}

abbrev pub Below : {X : Type 0} → (ℕ × X → Type 0) → ℕ → Type 0
Below {X} P n = (m : ℕ) (x : X) → m < n → P (m, x) → ⊥

abbrev pub NumberBelow : (ℕ → Type 0) → ℕ → Type 0
NumberBelow P n = (m : ℕ) → m < n → P m → ⊥
