-- The free variables of a basis that has a form are independent.
--
--   IsIndependent vs             no combination of the vectors vanishes, but the one of zeros
--   vectors_of vars rows basis   one, and what the free variables mean
--   independent                  they are independent where the basis has a form
--
--   true_or_false                a test answers one or the other
--   equal_is, is_equal           what the test of equal numbers says, and back
--   in_basis, is_in_member       the same of `is_in`
--   In-filter, In-range          a member that passes a test is kept, and a number of a range is in it
--   Climbs low end zs            zs rises, from `low` on and below `end`
--   from_zero                    a list that rises climbs from 0
use Rattle.std.proofs.Common.{◌≡◌, ℕ, zero, suc, ◌+◌, ◌-◌, ◌<◌, ◌≤◌, List, [], ◌∷◌, length, map, get_or, replicate, refl, ap, sym, subst, ◌∙◌, arith, ℤ, pos, ◌+ℤ◌, ◌*ℤ◌, ◌⊎◌, inl, inr, Bool, true, false, ◌||◌}
use Rattle.std.proofs.lemmas.Bool.{cases_lt}
use Rattle.std.proofs.lemmas.Bool.Decides.{nat_tests}
use Rattle.std.proofs.lemmas.Int.{ints}
use Rattle.std.proofs.lemmas.List.{length-map}
use Rattle.std.proofs.lemmas.List.Filters.{length-filter_both}
use Rattle.std.proofs.lemmas.List.FromFn.{length-range_with_len}
use Rattle.std.specs.Prelude.{not, nat_eq, nat_lt, if◌then◌else◌, slice_set, cond}
use Rattle.std.specs.List.{filter, range_with_len}
use Rattle.integer_laws.specs.Members.{In}
use Rattle.integer_laws.specs.Laws.Members.{In-map}
use Rattle.integer_laws.specs.Laws.Ring.{expand}
use Rattle.integer_laws.specs.Vectors.{dot, scale, unit}
use Rattle.integer_laws.specs.Laws.Vectors.{dot-plus, dot-scale, dot-unit}
use lib.Dec.{T}
use Rattle.row_laws.specs.Laws.Kernel.{Kernel, kernel, zero_or_not, cancel_factor}
use Rattle.seq_model.specs.Dictionaries.{meaning, one, combination, is_in, free_of, Says, Rises, Form}
use Rattle.seq_model.specs.declared.row.Row.{Row}
use Rattle.seq_model.specs.Systems.{row_at}

abbrev pub IsIndependent : List (List ℤ) → Type 0
IsIndependent vs = (es : List ℤ) → length es ≡ length vs → ((k : ℕ) → get_or (combination es vs) k (pos 0) ≡ pos 0) → (j : ℕ) → get_or es j (pos 0) ≡ pos 0

abbrev pub vectors_of : ℕ → List Row → List ℕ → List (List ℤ)
vectors_of vars rows basis = one vars ∷ map (meaning vars rows) (free_of (vars + length rows) basis)

-- ---- products with a combination
zero_sum : (e x y : ℤ) → x ≡ pos 0 → y ≡ pos 0 → e *ℤ x +ℤ y ≡ pos 0
zero_sum e x y h k = rw (h, k) (nothing e)
  where
    nothing : (e : ℤ) → e *ℤ pos 0 +ℤ pos 0 ≡ pos 0
    nothing e = simp expand

combine_none : (es : List ℤ) (vs : List (List ℤ)) (u : List ℤ) → ((v : List ℤ) → In v vs → dot v u ≡ pos 0) → dot (combination es vs) u ≡ pos 0
combine_none [] vs u h = refl
combine_none (e ∷ es) [] u h = refl
combine_none (e ∷ es) (v ∷ vs) u h =
    dot-plus (scale e v) (combination es vs) u
    ∙ ap (λ t. t +ℤ dot (combination es vs) u) (dot-scale e v u)
    ∙ zero_sum e (dot v u) (dot (combination es vs) u) (h v (inl refl)) (combine_none es vs u (λ w i. h w (inr i)))

abbrev others_of : ℕ → List (List ℤ) → List (List ℤ)
others_of k [] = []
others_of zero (v ∷ vs) = vs
others_of (suc k) (v ∷ vs) = v ∷ others_of k vs

length_others : (k : ℕ) (vs : List (List ℤ)) → k < length vs → length vs ≡ suc (length (others_of k vs))
length_others k [] h = absurd (omega (arith, h))
length_others zero (v ∷ vs) h = refl
length_others (suc k) (v ∷ vs) h = ap suc (length_others k vs (omega (arith, h)))

which : (k : ℕ) (vs : List (List ℤ)) (v : List ℤ) → In v vs → (v ≡ get_or vs k []) ⊎ In v (others_of k vs)
which k [] v i = absurd i
which zero (w ∷ vs) v (inl s) = inl s
which zero (w ∷ vs) v (inr i) = inr i
which (suc k) (w ∷ vs) v (inl s) = inr (inl s)
which (suc k) (w ∷ vs) v (inr i) = by (which k vs v i)
  where
    by : ((v ≡ get_or vs k []) ⊎ In v (others_of k vs)) → (v ≡ get_or vs k []) ⊎ In v (w ∷ others_of k vs)
    by (inl s) = inl s
    by (inr j) = inr (inr j)

pub combine_one : (es : List ℤ) (vs : List (List ℤ)) (u : List ℤ) (k : ℕ) → length es ≡ length vs → k < length vs → ((v : List ℤ) → In v (others_of k vs) → dot v u ≡ pos 0)
    → dot (combination es vs) u ≡ get_or es k (pos 0) *ℤ dot (get_or vs k []) u
combine_one [] [] u k l h z = absurd (omega (arith, h))
combine_one [] (v ∷ vs) u k l h z = absurd (omega (arith, l))
combine_one (e ∷ es) [] u k l h z = absurd (omega (arith, l))
combine_one (e ∷ es) (v ∷ vs) u zero l h z =
    dot-plus (scale e v) (combination es vs) u ∙ settle (e *ℤ dot v u) _ _ (dot-scale e v u) (combine_none es vs u z)
  where
    settle : (x y w : ℤ) → y ≡ x → w ≡ pos 0 → y +ℤ w ≡ x
    settle x y w p q = omega (arith, ints, p, q)
combine_one (e ∷ es) (v ∷ vs) u (suc k) l h z =
    dot-plus (scale e v) (combination es vs) u
    ∙ ap (λ t. t +ℤ dot (combination es vs) u) (dot-scale e v u)
    ∙ settle e (dot v u) (dot (combination es vs) u) (z v (inl refl))
    ∙ combine_one es vs u k (omega (arith, l)) (omega (arith, h)) (λ w i. z w (inr i))
  where
    settle : (e x y : ℤ) → x ≡ pos 0 → e *ℤ x +ℤ y ≡ y
    settle e x y p = rw p (plain e y)
      where
        plain : (e y : ℤ) → e *ℤ pos 0 +ℤ y ≡ y
        plain e y = simp expand (omega (arith, ints))

zero_dot : (a u : List ℤ) → ((k : ℕ) → get_or a k (pos 0) ≡ pos 0) → dot a u ≡ pos 0
zero_dot [] u h = refl
zero_dot (x ∷ a) [] h = refl
zero_dot (x ∷ a) (y ∷ u) h = settle x y (dot a u) (h 0) (zero_dot a u (λ k. h (suc k)))
  where
    settle : (x y d : ℤ) → x ≡ pos 0 → d ≡ pos 0 → x *ℤ y +ℤ d ≡ pos 0
    settle x y d p q = rw (p, q) (plain y)
      where
        plain : (y : ℤ) → pos 0 *ℤ y +ℤ pos 0 ≡ pos 0
        plain y = simp expand

pub past_the_end : (xs : List ℤ) (k : ℕ) → length xs ≤ k → get_or xs k (pos 0) ≡ pos 0
past_the_end [] k h = refl
past_the_end (x ∷ xs) zero h = absurd (omega (arith, h))
past_the_end (x ∷ xs) (suc k) h = past_the_end xs k (omega (arith, h))

-- vectors to which only zeros are orthogonal, and no more of them than their length, are independent
independent_if : (n : ℕ) (vs : List (List ℤ)) → length vs ≤ n → ((u : List ℤ) → length u ≡ n → ((v : List ℤ) → In v vs → dot v u ≡ pos 0) → (k : ℕ) → get_or u k (pos 0) ≡ pos 0) → IsIndependent vs
independent_if n vs few only es long none j = by (cases_lt j (length es))
  where
    place : j < length es → (get_or es j (pos 0) ≡ pos 0 → ⊥) → ⊥
    place h n0 =
        let less : length (others_of j vs) < n = (let m = length_others j vs l in omega (arith, m, few)) in
        let k = kernel n (others_of j vs) less in
        k.some (only k.u k.long (λ v i. all k v (which j vs v i)) k.place)
      where
        l : j < length vs
        l = subst (λ m. j < m) long h

        all : (k : Kernel n (others_of j vs)) (v : List ℤ) → ((v ≡ get_or vs j []) ⊎ In v (others_of j vs)) → dot v k.u ≡ pos 0
        all k v (inr i) = k.none v i
        all k v (inl s) = ap (λ w. dot w k.u) s ∙ cancel_factor (get_or es j (pos 0)) (dot (get_or vs j []) k.u) n0 (sym (combine_one es vs k.u j long l k.none) ∙ zero_dot (combination es vs) k.u none)

    by : (j < length es) ⊎ (length es ≤ j) → get_or es j (pos 0) ≡ pos 0
    by (inr h) = past_the_end es j h
    by (inl h) = decide (zero_or_not (get_or es j (pos 0)))
      where
        decide : ((get_or es j (pos 0) ≡ pos 0) ⊎ (get_or es j (pos 0) ≡ pos 0 → ⊥)) → get_or es j (pos 0) ≡ pos 0
        decide (inl e) = e
        decide (inr n0) = absurd (place h n0)

-- ---- which variables are free
pub true_or_false : (b : Bool) → (b ≡ true) ⊎ (b ≡ false)
true_or_false true = inl refl
true_or_false false = inr refl

pub equal_is : (x y : ℕ) → nat_eq x y ≡ true → x ≡ y
equal_is x y e = grind (arith, nat_tests)

pub is_equal : (x y : ℕ) → x ≡ y → nat_eq x y ≡ true
is_equal x y e = grind (arith, nat_tests)

pub in_basis : (basis : List ℕ) (z : ℕ) → is_in basis z ≡ true → In z basis
in_basis [] z e = absurd (subst T (sym e) tt)
in_basis (b ∷ basis) z e = by (true_or_false (nat_eq z b)) (in_basis basis z)
  where
    by : ((nat_eq z b ≡ true) ⊎ (nat_eq z b ≡ false)) → (is_in basis z ≡ true → In z basis) → In z (b ∷ basis)
    by (inl t) later = inl (equal_is z b t)
    by (inr f) later = inr (later (ap (λ t. t || is_in basis z) (sym f) ∙ e))

pub is_in_member : (basis : List ℕ) (z : ℕ) → In z basis → is_in basis z ≡ true
is_in_member [] z i = absurd i
is_in_member (b ∷ basis) z (inl s) = ap (λ t. t || is_in basis z) (is_equal z b s)
is_in_member (b ∷ basis) z (inr i) = ap (λ t. nat_eq z b || t) (is_in_member basis z i) ∙ any (nat_eq z b)
  where
    any : (b : Bool) → (b || true) ≡ true
    any true = refl
    any false = refl

pub In-filter : (p : ℕ → Bool) (xs : List ℕ) (x : ℕ) → p x ≡ true → In x xs → In x (filter p xs)
In-filter p [] x e i = absurd i
In-filter p (y ∷ xs) x e (inl s) = subst (λ b. In x (cond b (y ∷ filter p xs) (filter p xs))) (sym (ap p (sym s) ∙ e)) (inl s)
In-filter p (y ∷ xs) x e (inr i) = kept (p y) (In-filter p xs x e i)
  where
    kept : (b : Bool) → In x (filter p xs) → In x (cond b (y ∷ filter p xs) (filter p xs))
    kept true rest = inr rest
    kept false rest = rest

pub In-range : (a n x : ℕ) → a ≤ x → x < a + n → In x (range_with_len a n)
In-range a zero x h k = absurd (omega (arith, h, k))
In-range a (suc n) x h k = by (cases_lt a x) (λ l. In-range (a + 1) n x (omega (arith, l)) (omega (arith, k)))
  where
    by : (a < x) ⊎ (x ≤ a) → (a < x → In x (range_with_len (a + 1) n)) → In x (a ∷ range_with_len (a + 1) n)
    by (inl l) later = inr (later l)
    by (inr l) later = inl (omega (arith, h, l))

-- ---- a rising basis takes as many variables as it has
abbrev pub Climbs : ℕ → ℕ → List ℕ → Type 0
Climbs low end [] = Unit {0}
Climbs low end (z ∷ zs) = (low ≤ z) × (z < end) × Climbs (z + 1) end zs

climbs : (end low : ℕ) (z : ℕ) (zs : List ℕ) → low ≤ z → Rises end (z ∷ zs) → Climbs low end (z ∷ zs)
climbs end low z [] h r = (h, r, tt)
climbs end low z (y ∷ zs) h r =
    let c = climbs end (z + 1) y zs (omega (arith, r.0)) r.1 in
    (h, omega (arith, r.0, c.1), c)

pub from_zero : (end : ℕ) (zs : List ℕ) → Rises end zs → Climbs 0 end zs
from_zero end [] r = tt
from_zero end (z ∷ zs) r = climbs end 0 z zs (omega arith) r

pub taken : (p : ℕ → Bool) (low n end : ℕ) (zs : List ℕ) → end ≡ low + n → Climbs low end zs → ((z : ℕ) → In z zs → p z ≡ true) → length zs ≤ length (filter p (range_with_len low n))
taken p low n end [] e c h = omega arith
taken p low zero end (z ∷ zs) e c h = absurd (omega (arith, e, c.0, c.1))
taken p low (suc n) end (z ∷ zs) e c h =
    by (cases_lt low z) (λ l. taken p (low + 1) n end (z ∷ zs) (omega (arith, e)) (omega (arith, l), c.1, c.2) h)
    (λ s. taken p (low + 1) n end zs (omega (arith, e)) (subst (λ m. Climbs (m + 1) end zs) s c.2) (λ y i. h y (inr i)))
  where
    more : (b : Bool) (k : ℕ) → k ≤ length (filter p (range_with_len (low + 1) n)) → k ≤ length (cond b (low ∷ filter p (range_with_len (low + 1) n)) (filter p (range_with_len (low + 1) n)))
    more true k l = omega (arith, l)
    more false k l = l

    kept : (b : Bool) → b ≡ true → length zs ≤ length (filter p (range_with_len (low + 1) n)) → length (z ∷ zs) ≤ length (cond b (low ∷ filter p (range_with_len (low + 1) n)) (filter p (range_with_len (low + 1) n)))
    kept true e l = omega (arith, l)
    kept false e l = absurd (subst T (sym e) tt)

    by : (low < z) ⊎ (z ≤ low) → (low < z → length (z ∷ zs) ≤ length (filter p (range_with_len (low + 1) n))) → (z ≡ low → length zs ≤ length (filter p (range_with_len (low + 1) n)))
        → length (z ∷ zs) ≤ length (filter p (range_with_len low (suc n)))
    by (inl l) above here = more (p low) (length (z ∷ zs)) (above l)
    by (inr l) above here =
        let s : z ≡ low = omega (arith, l, c.0) in
        kept (p low) (sym (ap p s) ∙ h z (inl refl)) (here s)

-- ---- a form spans all variables
says_of : (vars : ℕ) (rows : List Row) (d : ℤ) (free basis : List ℕ) (lines : List (List ℤ)) → Says vars rows d free basis lines → (z : ℕ) → In z basis
    → (line : List ℤ) × (scale d (meaning vars rows z) ≡ combination line (one vars ∷ map (meaning vars rows) free))
says_of vars rows d free [] lines s z i = absurd i
says_of vars rows d free (b ∷ basis) [] s z i = absurd s
says_of vars rows d free (b ∷ basis) (line ∷ lines) s z (inl e) = (line, ap (λ t. scale d (meaning vars rows t)) e ∙ s.0.1)
says_of vars rows d free (b ∷ basis) (line ∷ lines) s z (inr i) = says_of vars rows d free basis lines s.1 z i

pub variable_is : (vars : ℕ) (rows : List Row) (z : ℕ) → z < vars → meaning vars rows z ≡ unit (suc vars) (suc z)
variable_is vars rows z h = ap (λ (b : Bool). if b then pos 0 ∷ slice_set (replicate vars (pos 0)) z (pos 1) else (row_at rows (z - vars)).c ∷ (row_at rows (z - vars)).a) (below z vars h)
  where
    below : (z n : ℕ) → z < n → nat_lt z n ≡ true
    below z n h = grind (arith, nat_tests)

pub only_zeros : (vars : ℕ) (rows : List Row) (basis : List ℕ) → Form vars rows basis → (u : List ℤ) → length u ≡ suc vars → ((v : List ℤ) → In v (vectors_of vars rows basis) → dot v u ≡ pos 0)
    → (k : ℕ) → get_or u k (pos 0) ≡ pos 0
only_zeros vars rows basis f u long z zero = sym (dot-unit (suc vars) 0 u (omega arith)) ∙ z (one vars) (inl refl)
only_zeros vars rows basis f u long z (suc k) = by (cases_lt k vars)
  where
    as_entry : k < vars → dot (meaning vars rows k) u ≡ get_or u (suc k) (pos 0)
    as_entry h = ap (λ v. dot v u) (variable_is vars rows k h) ∙ dot-unit (suc vars) (suc k) u (omega (arith, h))

    basic : k < vars → is_in basis k ≡ true → get_or u (suc k) (pos 0) ≡ pos 0
    basic h e =
        let s = says_of vars rows f.d (free_of (vars + length rows) basis) basis f.lines f.says k (in_basis basis k e) in
        let none : f.d *ℤ dot (meaning vars rows k) u ≡ pos 0 = sym (dot-scale f.d (meaning vars rows k) u) ∙ ap (λ v. dot v u) s.1 ∙ combine_none s.0 (vectors_of vars rows basis) u z in
        sym (as_entry h) ∙ cancel_factor f.d (dot (meaning vars rows k) u) (λ e. absurd (omega (arith, ints, e, f.positive))) none

    free : k < vars → is_in basis k ≡ false → get_or u (suc k) (pos 0) ≡ pos 0
    free h e =
        let i = In-filter (λ x. not (is_in basis x)) (range_with_len 0 (vars + length rows)) k (ap not e) (In-range 0 (vars + length rows) k (omega arith) (omega (arith, h))) in
        sym (as_entry h) ∙ z (meaning vars rows k) (inr (In-map (meaning vars rows) (free_of (vars + length rows) basis) k i))

    by : (k < vars) ⊎ (vars ≤ k) → get_or u (suc k) (pos 0) ≡ pos 0
    by (inr h) = past_the_end u (suc k) (omega (arith, h, long))
    by (inl h) = decide (true_or_false (is_in basis k))
      where
        decide : ((is_in basis k ≡ true) ⊎ (is_in basis k ≡ false)) → get_or u (suc k) (pos 0) ≡ pos 0
        decide (inl e) = basic h e
        decide (inr e) = free h e

pub few_free : (vars : ℕ) (rows : List Row) (basis : List ℕ) → length basis ≡ length rows → Rises (vars + length rows) basis → length (vectors_of vars rows basis) ≤ suc vars
few_free vars rows basis many rises =
    let range = range_with_len 0 (vars + length rows) in
    let basics = taken (is_in basis) 0 (vars + length rows) (vars + length rows) basis (omega arith) (from_zero (vars + length rows) basis rises) (λ z i. is_in_member basis z i) in
    let all = length-filter_both (is_in basis) (λ z. not (is_in basis z)) (λ z. refl) range in
    let long = length-range_with_len 0 (vars + length rows) in
    let mapped = length-map (free_of (vars + length rows) basis) (meaning vars rows) in
    omega (arith, basics, all, long, mapped, many)

pub independent : (vars : ℕ) (rows : List Row) (basis : List ℕ) → Form vars rows basis → IsIndependent (vectors_of vars rows basis)
independent vars rows basis f = independent_if (suc vars) (vectors_of vars rows basis) (few_free vars rows basis f.many f.rising) (only_zeros vars rows basis f)
