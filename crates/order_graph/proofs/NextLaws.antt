-- Each object's next one: at the start none has one, and then they are set one by one.
use Rattle.std.proofs.Common.{◌≡◌, ◌≢◌, ℕ, zero, suc, ◌<◌, List, length, get_or, set, replicate, Option, Some, None, ◌⊎◌, inl, inr, ⊎_elim, refl, sym, ap, ◌∙◌, get_or-set_same, get_or-set_other}
use Rattle.std.proofs.lemmas.Bool.{cases_eq}
use Rattle.order_graph.specs.Searches.{IsNext}

pub empty : (n k : ℕ) → get_or {A = Option ℕ} (replicate n None) k None ≡ None
empty zero k = refl
empty (suc n) zero = refl
empty (suc n) (suc k) = empty n k

pub no_next : (n a b : ℕ) → IsNext (replicate n None) a b → ⊥
no_next n a b is = let none = empty n a in cc

-- the next objects after one more was set
pub next_cases : (next : List (Option ℕ)) (i j a b : ℕ) → i < length next → IsNext (set next i (Some j)) a b → ((a ≡ i) × (b ≡ j)) ⊎ ((a ≢ i) × IsNext next a b)
next_cases next i j a b within is = ⊎_elim
    (λ same. let moved = ap (λ k. get_or (set next i (Some j)) k None) same ∙ get_or-set_same next i (Some j) None within in inl (same, cc))
    (λ apart. inr (apart, sym (get_or-set_other next i a (Some j) None apart) ∙ is))
    (cases_eq a i)
