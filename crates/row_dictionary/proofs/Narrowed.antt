-- Lines that are rewritten from the front, with some places left as they are.
use Rattle.std.proofs.Common.{◌≡◌, ℕ, zero, suc, ◌+◌, ◌<◌, ◌≤◌, List, [], ◌∷◌, length, get_or, take, take_all, ap, sym, subst, ◌∙◌, arith, add-one, ℤ, pos, All}
use Rattle.std.proofs.lemmas.List.{take_more}
use Rattle.std.proofs.lemmas.List.Elements.{All-push}
use Rattle.integer_laws.specs.InPlace.{rewritten}
use Rattle.row_dictionary.specs.Mixing.{Narrow}

same_next : {A : Type 0} (i : ℕ) (new old : List A) (d : A) → length new ≡ length old → i < length new → get_or old i d ≡ get_or new i d → rewritten i new old ≡ rewritten (suc i) new old
same_next i [] old d e h g = absurd (omega arith)
same_next i (x ∷ new) [] d e h g = absurd (omega arith)
same_next zero (x ∷ new) (y ∷ old) d e h g = ap (λ t. t ∷ old) g
same_next (suc i) (x ∷ new) (y ∷ old) d e h g = ap (λ t. x ∷ t) (same_next i new old d (omega arith) (omega arith) g)

-- a member that stays as it is
pub rewritten_same : {A : Type 0} (i : ℕ) (new old now : List A) (d : A) → length new ≡ length old → i < length new → now ≡ rewritten i new old → get_or old i d ≡ get_or new i d → now ≡ rewritten (i + 1) new old
rewritten_same i new old now d e h r g = r ∙ (rw add-one (same_next i new old d e h g))

pub narrow_more : (xs : List ℤ) (i : ℕ) (x : ℤ) → i < length xs → All Narrow (take i xs) → x ≡ get_or xs i (pos 0) → Narrow x → All Narrow (take (i + 1) xs)
narrow_more xs i x h all e s = subst (All Narrow) (sym (take_more xs i (pos 0) h)) (All-push Narrow (take i xs) (get_or xs i (pos 0)) all (subst Narrow e s))

pub narrow_all : (xs : List ℤ) (i : ℕ) → length xs ≤ i → All Narrow (take i xs) → All Narrow xs
narrow_all xs i h all = subst (All Narrow) (take_all i xs h) all
