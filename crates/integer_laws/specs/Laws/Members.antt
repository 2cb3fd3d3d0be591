-- Membership as a sum, for proofs by recursion on a list, and the way from and to std's words.
--
--   In-from_contains, Contains-from_in   from and to std's `Contains xs x`
--   All-in, All-from_in                  what holds of `All`, of each member, and back
--   In-append_left, In-append_right      a member of one list is one of the joined list
--   In-append_cases                      and one of the joined list is one of either
--   In-map, In-map_cases                 a member of a mapped list comes from a member
use Rattle.std.proofs.Common.{◌≡◌, ℕ, zero, suc, ◌<◌, List, [], ◌∷◌, ◌++◌, length, get_or, map, All, Contains, refl, ap, sym, subst, arith, ◌⊎◌, inl, inr}
use Rattle.std.proofs.lemmas.List.Elements.{All-nil, All-cons}
use Rattle.integer_laws.specs.Members.{In}

pub In-from_contains : {A : Type 0} (xs : List A) (x : A) → Contains xs x → In x xs
In-from_contains {A} xs x c = at xs c.0 c.1 c.2
  where
    at : (ys : List A) (k : ℕ) → k < length ys → get_or ys k x ≡ x → In x ys
    at [] k h e = absurd (omega arith)
    at (y ∷ ys) zero h e = inl (sym e)
    at (y ∷ ys) (suc k) h e = inr (at ys k (omega arith) e)

pub Contains-from_in : {A : Type 0} (xs : List A) (x : A) → In x xs → Contains xs x
Contains-from_in [] x i = absurd i
Contains-from_in (y ∷ ys) x (inl e) = (0, omega arith, sym e)
Contains-from_in (y ∷ ys) x (inr i) = let c = Contains-from_in ys x i in (suc c.0, omega arith, c.2)

pub All-in : {A : Type 0} (P : A → Type 0) (xs : List A) (x : A) → All P xs → In x xs → P x
All-in P xs x all i = let c = Contains-from_in xs x i in subst P c.2 (all c.0 x c.1)

pub All-from_in : {A : Type 0} (P : A → Type 0) (xs : List A) → ((x : A) → In x xs → P x) → All P xs
All-from_in P [] h = All-nil P
All-from_in P (x ∷ xs) h = All-cons P x xs (h x (inl refl)) (All-from_in P xs (λ y i. h y (inr i)))

pub In-append_left : {A : Type 0} (xs ys : List A) (x : A) → In x xs → In x (xs ++ ys)
In-append_left [] ys x i = absurd i
In-append_left (y ∷ xs) ys x (inl e) = inl e
In-append_left (y ∷ xs) ys x (inr i) = inr (In-append_left xs ys x i)

pub In-append_right : {A : Type 0} (xs ys : List A) (x : A) → In x ys → In x (xs ++ ys)
In-append_right [] ys x i = i
In-append_right (y ∷ xs) ys x i = inr (In-append_right xs ys x i)

pub In-append_cases : {A : Type 0} (xs ys : List A) (x : A) → In x (xs ++ ys) → In x xs ⊎ In x ys
In-append_cases [] ys x i = inr i
In-append_cases (y ∷ xs) ys x (inl e) = inl (inl e)
In-append_cases (y ∷ xs) ys x (inr i) = elim (In-append_cases xs ys x i) [ inl j ↦ inl (inr j) | inr j ↦ inr j ]

pub In-map : {A B : Type 0} (f : A → B) (xs : List A) (x : A) → In x xs → In (f x) (map f xs)
In-map f [] x i = absurd i
In-map f (y ∷ xs) x (inl e) = inl (ap f e)
In-map f (y ∷ xs) x (inr i) = inr (In-map f xs x i)

pub In-map_cases : {A B : Type 0} (f : A → B) (xs : List A) (y : B) → In y (map f xs) → (x : A) × In x xs × (y ≡ f x)
In-map_cases f [] y i = absurd i
In-map_cases f (x ∷ xs) y (inl e) = (x, inl refl, e)
In-map_cases f (x ∷ xs) y (inr i) = let r = In-map_cases f xs y i in (r.0, inr r.1, r.2)
