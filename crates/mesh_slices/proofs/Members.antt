-- What flat maps have as members, and what holds of them.
use Rattle.std.proofs.Common.{◌≡◌, Bool, true, false, cond, List, [], ◌∷◌, flat_map, All, Contains, refl, inl, inr, subst, arith}
use Rattle.std.proofs.lemmas.List.Elements.{All-nil, All-cons, All-append, All-tail, Contains-append_left, Contains-append_right}
use Rattle.integer_laws.specs.Members.{In}

-- a member at the head
pub at_head : {X : Type 0} (x : X) (xs : List X) → Contains (x ∷ xs) x
at_head x xs = (0, omega arith, refl)

-- what is a member of one of the lists is a member of the flat list
pub to_flat : {X Y : Type 0} (f : X → List Y) (y : Y) (x : X) (xs : List X) → In x xs → Contains (f x) y → Contains (flat_map f xs) y
to_flat f y x [] h c = elim h [ ]
to_flat f y x (z ∷ zs) (inl e) c = Contains-append_left (f z) (flat_map f zs) y (subst (λ t. Contains (f t) y) e c)
to_flat f y x (z ∷ zs) (inr h) c = Contains-append_right (f z) (flat_map f zs) y (to_flat f y x zs h c)

pub all_flat : {X Y : Type 0} (P : X → Type 0) (Q : Y → Type 0) (f : X → List Y) → ((x : X) → P x → All Q (f x)) → (xs : List X) → All P xs → All Q (flat_map f xs)
all_flat P Q f h [] all = All-nil Q
all_flat P Q f h (x ∷ xs) all = All-append Q (f x) (flat_map f xs) (h x (all 0 x (omega arith))) (all_flat P Q f h xs (All-tail P x xs all))

pub all_if : {X : Type 0} (P : X → Type 0) (b : Bool) (x : X) → (b ≡ true → P x) → All P (cond b (x ∷ []) [])
all_if P true x h = All-cons P x [] (h refl) (All-nil P)
all_if P false x h = All-nil P
