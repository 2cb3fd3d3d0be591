-- Lists of which each member is right for its number.
--
--   AreBy P xs        of each member of the list, P of its number and it
--   by-push           one more
--   by_at             one of them
use Rattle.std.proofs.Common.{ℕ, zero, suc, ◌<◌, List, [], ◌∷◌, ◌++◌, length, get_or, arith}

abbrev pub AreBy : {X : Type 0} → (ℕ → X → Type 0) → List X → Type 0
AreBy {X} P xs = (k : ℕ) (d : X) → k < length xs → P k (get_or xs k d)

pub by-push : {X : Type 0} (P : ℕ → X → Type 0) (xs : List X) (x : X) → AreBy P xs → P (length xs) x → AreBy P (xs ++ x ∷ [])
by-push P [] x all here zero d l = here
by-push P [] x all here (suc k) d l = absurd (omega (arith, l))
by-push P (y ∷ xs) x all here zero d l = all zero d (omega arith)
by-push P (y ∷ xs) x all here (suc k) d l = by-push (λ n. P (suc n)) xs x (λ m e h. all (suc m) e (omega (arith, h))) here k d (omega (arith, l))
