-- Ways grow at their end, are cut at their front, and close to a ring.
use Rattle.std.proofs.Common.{◌≡◌, ℕ, zero, suc, ◌+◌, ◌<◌, List, [], ◌∷◌, ◌++◌, length, get_or, take, drop, reverse, Option, subst, refl, sym, ◌∙◌, ap, arith}
use Rattle.std.proofs.lemmas.List.{drop_more, drop-append-le, reverse-append}
use Rattle.std.proofs.lemmas.Grind.{reverse_onto}
use Rattle.object_orders.specs.Orders.{IsOnce, EachNext}
use Rattle.order_graph.specs.Searches.{IsNext, ComesRound}
use Rattle.order_graph.proofs.Lists.{once_drop}

pub EachNext-push : (R : ℕ → ℕ → Type 0) (xs : List ℕ) (a b : ℕ) → EachNext R (xs ++ a ∷ []) → R a b → EachNext R ((xs ++ a ∷ []) ++ b ∷ [])
EachNext-push R [] a b way step = (step, tt)
EachNext-push R (x ∷ []) a b way step = (way.0, (step, tt))
EachNext-push R (x ∷ y ∷ xs) a b way step = (way.0, EachNext-push R (y ∷ xs) a b way.1 step)

EachNext-tail : (R : ℕ → ℕ → Type 0) (x : ℕ) (xs : List ℕ) → EachNext R (x ∷ xs) → EachNext R xs
EachNext-tail R x [] way = tt
EachNext-tail R x (y ∷ xs) way = way.1

pub EachNext-drop : (R : ℕ → ℕ → Type 0) (n : ℕ) (xs : List ℕ) → EachNext R xs → EachNext R (drop n xs)
EachNext-drop R zero xs way = way
EachNext-drop R (suc n) [] way = tt
EachNext-drop R (suc n) (x ∷ xs) way = EachNext-drop R n xs (EachNext-tail R x xs way)

pub EachNext-weaker : (R S : ℕ → ℕ → Type 0) → ((a b : ℕ) → R a b → S a b) → (xs : List ℕ) → EachNext R xs → EachNext S xs
EachNext-weaker R S so [] way = tt
EachNext-weaker R S so (x ∷ []) way = tt
EachNext-weaker R S so (x ∷ y ∷ xs) way = (so x y way.0, EachNext-weaker R S so (y ∷ xs) way.1)

-- what each step hands on goes from the first object to the last
pub carried : (R : ℕ → ℕ → Type 0) (P : ℕ → Type 0) → ((a b : ℕ) → R a b → P a → P b) → (xs : List ℕ) (x : ℕ) → EachNext R (xs ++ x ∷ []) → P (get_or (xs ++ x ∷ []) 0 0) → P x
carried R P on [] x way first = first
carried R P on (a ∷ []) x way first = on a x way.0 first
carried R P on (a ∷ b ∷ xs) x way first = carried R P on (b ∷ xs) x way.1 (on a b way.0 first)

-- a way keeps its first object
pub starts_push : (xs : List ℕ) (a b : ℕ) → get_or ((xs ++ a ∷ []) ++ b ∷ []) 0 0 ≡ get_or (xs ++ a ∷ []) 0 0
starts_push [] a b = refl
starts_push (x ∷ xs) a b = refl

-- a way that comes to an object that it has passed
pub ring : (next : List (Option ℕ)) (way : List ℕ) (at place : ℕ) → IsOnce way → EachNext (IsNext next) (way ++ at ∷ []) → place < length way → get_or way place 0 ≡ at → ComesRound next (drop place way)
ring next way at place once steps within is =
    let rest = drop (place + 1) way in
    let cut : drop place way ≡ at ∷ rest = drop_more way place 0 within ∙ ap (λ k. k ∷ rest) is in
    let part = subst (EachNext (IsNext next)) (drop-append-le place way (at ∷ []) (omega arith)) (EachNext-drop (IsNext next) place _ steps) in
    record {
      first = at;
      rest = rest;
      whole = cut;
      once = once_drop place way once;
      round = subst (λ xs. EachNext (IsNext next) (xs ++ at ∷ [])) cut part;
    }

reverse-cons : (a : ℕ) (xs : List ℕ) → reverse (a ∷ xs) ≡ reverse xs ++ a ∷ []
reverse-cons a xs = reverse_onto xs a []

-- a way, last object first, goes back
EachNext-reverse : (R : ℕ → ℕ → Type 0) (xs : List ℕ) → EachNext R xs → EachNext (λ a b. R b a) (reverse xs)
EachNext-reverse R [] way = tt
EachNext-reverse R (a ∷ []) way = tt
EachNext-reverse R (a ∷ b ∷ xs) way =
    let S : ℕ → ℕ → Type 0 = λ x y. R y x in
    let back = subst (EachNext S) (reverse-cons b xs) (EachNext-reverse R (b ∷ xs) way.1) in
    let whole : reverse (a ∷ b ∷ xs) ≡ (reverse xs ++ b ∷ []) ++ a ∷ [] = reverse-cons a (b ∷ xs) ∙ ap (λ ys. ys ++ a ∷ []) (reverse-cons b xs) in
    subst (EachNext S) (sym whole) (EachNext-push S (reverse xs) b a back way.0)

-- once round from the object after a is once round from a
from_next : (R : ℕ → ℕ → Type 0) (front : List ℕ) (a : ℕ) → EachNext R (a ∷ front ++ a ∷ []) → EachNext R ((front ++ a ∷ []) ++ take 1 (front ++ a ∷ []))
from_next R [] a way = way
from_next R (b ∷ front) a way = EachNext-push R (b ∷ front) a b way.1 way.0

-- what comes round by the next objects comes round the other way, last object first
pub round_back : (R : ℕ → ℕ → Type 0) (a : ℕ) (rest : List ℕ) → EachNext R (a ∷ rest ++ a ∷ []) → EachNext (λ x y. R y x) (reverse (a ∷ rest) ++ take 1 (reverse (a ∷ rest)))
round_back R a rest way =
    let S : ℕ → ℕ → Type 0 = λ x y. R y x in
    let back = subst (EachNext S) (reverse-append (a ∷ rest) (a ∷ []) ∙ ap (λ ys. a ∷ ys) (reverse-cons a rest)) (EachNext-reverse R (a ∷ rest ++ a ∷ []) way) in
    subst (λ ys. EachNext S (ys ++ take 1 ys)) (sym (reverse-cons a rest)) (from_next S (reverse rest) a back)
