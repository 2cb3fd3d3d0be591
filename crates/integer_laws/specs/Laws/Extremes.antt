-- The least and the greatest of a list of numbers, and of a function over a list.
--
--   greatest_is          the greatest of the values is so, of a list that is not empty
--   greatest_unique      and no other value is
use Rattle.std.proofs.Common.{◌≡◌, List, ◌∷◌, map, fold, refl, sym, subst, arith, ℤ, ◌≤ℤ◌, ◌⊎◌, inl, inr, All, Contains}
use Rattle.std.proofs.lemmas.Int.{ints, fold-int_max_bounds, fold-int_max_reached}
use Rattle.std.specs.Int.{int_max}
use Rattle.integer_laws.specs.Members.{In}
use Rattle.integer_laws.specs.Laws.Members.{In-from_contains, All-in, In-map, In-map_cases}
use Rattle.integer_laws.specs.Extremes.{greatest, IsGreatest}

pub greatest_is : {A : Type 0} (f : A → ℤ) (x : A) (xs : List A) → IsGreatest f (x ∷ xs) (greatest (map f (x ∷ xs)))
greatest_is {A} f x xs = by (fold-int_max_reached (f x) (map f xs) g refl)
  where
    g : ℤ
    g = fold int_max (f x) (map f xs)

    most : (f x ≤ℤ g) × All (λ v. v ≤ℤ g) (map f xs)
    most = fold-int_max_bounds (f x) (map f xs) g refl

    bound : (y : A) → In y (x ∷ xs) → f y ≤ℤ g
    bound y (inl e) = subst (λ t. f t ≤ℤ g) (sym e) most.0
    bound y (inr i) = All-in (λ v. v ≤ℤ g) (map f xs) (f y) most.1 (In-map f xs y i)

    by : (g ≡ f x) ⊎ Contains (map f xs) g → IsGreatest f (x ∷ xs) g
    by (inl e) = record { bound = bound; at = x; member = inl refl; reached = sym e }
    by (inr c) =
        let m = In-map_cases f xs g (In-from_contains (map f xs) g c) in
        record { bound = bound; at = m.0; member = inr m.1; reached = sym m.2 }

pub greatest_unique : {A : Type 0} (f : A → ℤ) (xs : List A) (g h : ℤ) → IsGreatest f xs g → IsGreatest f xs h → g ≡ h
greatest_unique f xs g h a b =
    let low = b.bound a.at a.member in
    let high = a.bound b.at b.member in
    let g_is = a.reached in
    let h_is = b.reached in
    omega (arith, ints)
