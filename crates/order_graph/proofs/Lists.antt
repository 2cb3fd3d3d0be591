-- Lists in which no number stands twice: how long they can be, and what keeps them so.
use Rattle.std.proofs.Common.{◌≡◌, ◌≢◌, ℕ, ◌+◌, ◌-◌, ◌<◌, ◌≤◌, List, [], ◌∷◌, ◌++◌, length, get_or, drop, reverse, All, Contains, refl, sym, ◌∙◌, arith, length-drop, get_or-drop}
use Rattle.std.proofs.lemmas.Bool.{eqb-true}
use Rattle.std.proofs.lemmas.Bool.Decides.{Decides-eqb}
use Rattle.std.proofs.lemmas.Cmp.{nat_eq_equiv}
use Rattle.std.proofs.lemmas.List.{get_or_default, get_or_at, get_or_append_left, get_or-reverse, length-reverse, length_push}
use Rattle.std.proofs.lemmas.List.Elements.{All-cons, All-contains}
use Rattle.std.proofs.lemmas.List.Kept.{AllPairs-cons}
use Rattle.std.proofs.lemmas.List.Quantifiers.{all_pairs_push}
use Rattle.std.proofs.lemmas.Map.Made.{IsDistinct-from_AllPairs}
use Rattle.std.proofs.lemmas.Map.Steps.{length-le_from_distinct_below, le-length_from_below}
use Rattle.std.proofs.lemmas.Map.Views.{Contains-from_any, list_any-from_Contains}
use Rattle.object_orders.specs.Orders.{IsOnce}

-- different numbers below n are at most n
pub few : (n : ℕ) (xs : List ℕ) → IsOnce xs → All (λ k. k < n) xs → length xs ≤ n
few n xs once below = length-le_from_distinct_below xs n (IsDistinct-from_AllPairs Decides-eqb xs once) (λ q found. All-contains (λ k. k < n) xs q below (Contains-from_any eqb-true q xs found))

-- a list with each number below n is n long at least
pub full : (n : ℕ) (xs : List ℕ) → ((k : ℕ) → k < n → Contains xs k) → n ≤ length xs
full n xs all = le-length_from_below xs n (λ q below. list_any-from_Contains nat_eq_equiv q xs (all q below))

-- a new number differs from each in the list
pub apart : (xs : List ℕ) (x : ℕ) → (Contains xs x → ⊥) → All (λ k. x ≢ k) xs
apart xs x new k d within = λ same. new (k, within, get_or_default xs k x d within ∙ sym same)

-- so there is room for it
pub room : (n : ℕ) (xs : List ℕ) (x : ℕ) → IsOnce xs → All (λ k. k < n) xs → x < n → (Contains xs x → ⊥) → length xs < n
room n xs x once below fits new =
    let more : length (x ∷ xs) ≤ n = few n (x ∷ xs) (AllPairs-cons (λ a b. a ≢ b) x xs (apart xs x new) once) (All-cons (λ k. k < n) x xs fits below) in
    omega arith

pub once_push : (xs : List ℕ) (x : ℕ) → IsOnce xs → (Contains xs x → ⊥) → IsOnce (xs ++ x ∷ [])
once_push xs x once new = all_pairs_push (λ a b. a ≢ b) xs x once (λ k d within is. new (k, within, get_or_default xs k x d within ∙ is))

pub once_drop : (n : ℕ) (xs : List ℕ) → IsOnce xs → IsOnce (drop n xs)
once_drop n xs once i j d before within same =
    once (n + i) (n + j) d (omega arith) (omega (arith, length-drop n xs)) (sym (get_or-drop n xs i d) ∙ same ∙ get_or-drop n xs j d)

pub once_reverse : (xs : List ℕ) → IsOnce xs → IsOnce (reverse xs)
once_reverse xs once i j d before within same =
    let long = length-reverse xs in
    once (length xs - 1 - j) (length xs - 1 - i) d (omega arith) (omega arith) (sym (get_or-reverse xs j d (omega arith)) ∙ sym same ∙ get_or-reverse xs i d (omega arith))

-- the last number put first
pub once_turned : (front : List ℕ) (last : ℕ) → IsOnce (front ++ last ∷ []) → IsOnce (last ∷ front)
once_turned front last once =
    let long = length_push front last in
    let ends : (d : ℕ) → get_or (front ++ last ∷ []) (length front) d ≡ last = λ d. get_or_at front last [] d (length front) refl in
    let part : (d k : ℕ) → k < length front → get_or (front ++ last ∷ []) k d ≡ get_or front k d = λ d k within. get_or_append_left front (last ∷ []) d k within in
    AllPairs-cons (λ a b. a ≢ b) last front
    (λ k d within same. once k (length front) d within (omega arith) (part d k within ∙ sym same ∙ sym (ends d)))
    (λ i j d before within same. once i j d before (omega arith) (part d i (omega arith) ∙ same ∙ sym (part d j within)))
