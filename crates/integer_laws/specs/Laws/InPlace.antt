-- A list that a loop rewrites in place, from the front.
--
--   get_or-rewritten         the next member is still the old one
--   rewritten_more           writing the new one there is the next step
--   rewritten_all            at the end it is the new list
use Rattle.std.proofs.Common.{◌≡◌, ℕ, zero, suc, ◌+◌, ◌<◌, ◌≤◌, List, [], ◌∷◌, ◌++◌, length, set, get_or, refl, ap, ap₂, ◌∙◌, arith, add-one, take_all, drop_of_length-le, append-nil}
use Rattle.integer_laws.specs.InPlace.{rewritten}

pub get_or-rewritten : {A : Type 0} (i : ℕ) (new old : List A) (d : A) → length new ≡ length old → i < length new → get_or (rewritten i new old) i d ≡ get_or old i d
get_or-rewritten i [] old d e h = absurd (omega arith)
get_or-rewritten i (x ∷ new) [] d e h = absurd (omega arith)
get_or-rewritten zero (x ∷ new) (y ∷ old) d e h = refl
get_or-rewritten (suc i) (x ∷ new) (y ∷ old) d e h = get_or-rewritten i new old d (omega arith) (omega arith)

set_next : {A : Type 0} (i : ℕ) (new old : List A) (v d : A) → length new ≡ length old → i < length new → v ≡ get_or new i d → set (rewritten i new old) i v ≡ rewritten (suc i) new old
set_next i [] old v d e h g = absurd (omega arith)
set_next i (x ∷ new) [] v d e h g = absurd (omega arith)
set_next zero (x ∷ new) (y ∷ old) v d e h g = ap (λ t. t ∷ old) g
set_next (suc i) (x ∷ new) (y ∷ old) v d e h g = ap (λ t. x ∷ t) (set_next i new old v d (omega arith) (omega arith) g)

pub rewritten_more : {A : Type 0} (i : ℕ) (new old now : List A) (v d : A) → length new ≡ length old → i < length new → now ≡ rewritten i new old → v ≡ get_or new i d → set now i v ≡ rewritten (i + 1) new old
rewritten_more i new old now v d e h r g = ap (λ l. set l i v) r ∙ (rw add-one (set_next i new old v d e h g))

pub rewritten_all : {A : Type 0} (i : ℕ) (new old now : List A) → length new ≤ i → length old ≤ i → now ≡ rewritten i new old → now ≡ new
rewritten_all i new old now h k r = r ∙ ap₂ ◌++◌ (take_all i new h) (drop_of_length-le old k) ∙ append-nil new
