-- The numbers of a pivoted line, one by one.
use Rattle.std.proofs.Common.{◌≡◌, ◌↔◌, ℕ, zero, suc, ◌+◌, ◌<◌, ◌≤◌, ◌^◌, ◌*◌, List, [], ◌∷◌, ◌++◌, length, map, get_or, set, take, take_all, All, refl, ap, sym, subst, ◌∙◌, arith, ℤ, pos, ◌-ℤ◌, ◌*ℤ◌, ◌⊎◌, inl, inr, Bool, true, false, IsTrue, unsigned_abs, int_div, length-set}
use Rattle.std.proofs.lemmas.Bool.{cases_lt}
use Rattle.std.proofs.lemmas.Bool.Decides.{nat_tests}
use lib.Dec.{T}
use Rattle.std.proofs.lemmas.List.{length-map, get_or-set_same, get_or-set_other, take_more}
use Rattle.std.proofs.lemmas.List.Elements.{All-nil, All-push, All-get_or}
use Rattle.std.proofs.Math.Nat.{eq-one_of_dvd-one, dvd-mul_right}
use Rattle.std.specs.Int.{◌∣◌}
use Rattle.std.specs.Prelude.{nat_eq, if◌then◌else◌}
use Rattle.integer_laws.specs.Divisors.{IsGcdOf}
use Rattle.integer_laws.specs.Laws.Divisors.{divides_gcd}
use Rattle.integer_laws.specs.Members.{In}
use Rattle.integer_laws.specs.Laws.Members.{All-in, All-from_in, In-append_left, In-append_right}
use Rattle.integer_laws.specs.Vectors.{combined}
use Rattle.integer_laws.specs.Laws.Vectors.{get_or-combined, length-combined}
use Rattle.row_laws.specs.Laws.OneForm.{any_default}
use Rattle.row_pivots.specs.Ends.{Small}
use Rattle.row_dictionary.specs.Mixing.{mixed, mixed_numbers, mixed_line, IsCommon}
use Rattle.row_dictionary.specs.declared.number.Mix.{Mix}

pub long_numbers : (m : Mix) (zs ys : List ℤ) → length zs ≡ length ys → length (mixed_numbers m zs ys) ≡ length zs
long_numbers m zs ys l = let c = length-combined m.p m.q zs ys in length-set (combined m.p m.q zs ys) m.place (m.d *ℤ m.q) ∙ omega (arith, c, l)

pub long_line : (m : Mix) (zs ys : List ℤ) → length zs ≡ length ys → length (mixed_line m zs ys) ≡ length zs
long_line m zs ys l = length-map (mixed_numbers m zs ys) (λ x. int_div x m.g) ∙ long_numbers m zs ys l

is_here : (i k : ℕ) → nat_eq i k ≡ true → i ≡ k
is_here i k e = grind (arith, nat_tests)

is_elsewhere : (i k : ℕ) → nat_eq i k ≡ false → i ≡ k → ⊥
is_elsewhere i k e s = grind (arith, nat_tests)

pub number_is : (m : Mix) (zs ys : List ℤ) (i : ℕ) (d : ℤ) → length zs ≡ length ys → i < length zs → mixed m i (get_or zs i (pos 0)) (get_or ys i (pos 0)) ≡ get_or (mixed_numbers m zs ys) i d
number_is m zs ys i d l h = by (nat_eq i m.place) refl
  where
    long : length (combined m.p m.q zs ys) ≡ length zs
    long = let c = length-combined m.p m.q zs ys in omega (arith, c, l)

    by : (b : Bool) → nat_eq i m.place ≡ b → (if b then m.d *ℤ m.q else m.p *ℤ get_or zs i (pos 0) -ℤ m.q *ℤ get_or ys i (pos 0)) ≡ get_or (mixed_numbers m zs ys) i d
    by true e =
        let s = is_here i m.place e in
        sym (get_or-set_same (combined m.p m.q zs ys) i (m.d *ℤ m.q) d (omega (arith, long, h))) ∙ ap (λ t. get_or (set (combined m.p m.q zs ys) t (m.d *ℤ m.q)) i d) s
    by false e =
        sym (get_or-combined m.p m.q zs ys i) ∙ any_default (combined m.p m.q zs ys) i (pos 0) d (omega (arith, long, h))
        ∙ sym (get_or-set_other (combined m.p m.q zs ys) m.place i (m.d *ℤ m.q) d (is_elsewhere i m.place e))

pub at_map : (f : ℤ → ℤ) (xs : List ℤ) (i : ℕ) (d e : ℤ) → i < length xs → get_or (map f xs) i d ≡ f (get_or xs i e)
at_map f [] i d e h = absurd (omega (arith, h))
at_map f (x ∷ xs) zero d e h = refl
at_map f (x ∷ xs) (suc i) d e h = at_map f xs i d e (omega (arith, h))

pub quotient_is : (m : Mix) (zs ys : List ℤ) (i : ℕ) (d : ℤ) → length zs ≡ length ys → i < length zs → int_div (mixed m i (get_or zs i (pos 0)) (get_or ys i (pos 0))) m.g ≡ get_or (mixed_line m zs ys) i d
quotient_is m zs ys i d l h =
    ap (λ t. int_div t m.g) (number_is m zs ys i (pos 0) l h) ∙ sym (at_map (λ x. int_div x m.g) (mixed_numbers m zs ys) i d (pos 0) (let k = long_numbers m zs ys l in omega (arith, k, h)))

-- ---- common divisors
pub common_none : (s : ℤ) (xs : List ℤ) → IsCommon s (take 0 xs) s
common_none s xs k = (λ h. (h, All-nil (λ x. k ∣ unsigned_abs x)), λ p. p.0)

pub common_more : (s : ℤ) (xs : List ℤ) (i : ℕ) (found x g : ℤ) → i < length xs → IsCommon s (take i xs) found → x ≡ get_or xs i (pos 0) → IsGcdOf found x g → IsCommon s (take (i + 1) xs) g
common_more s xs i found x g h c e is k = (there, back)
  where
    more : take (i + 1) xs ≡ take i xs ++ get_or xs i (pos 0) ∷ []
    more = take_more xs i (pos 0) h

    there : k ∣ unsigned_abs g → (k ∣ unsigned_abs s) × All (λ x. k ∣ unsigned_abs x) (take (i + 1) xs)
    there v =
        let both = (divides_gcd found x g k is).0 v in
        let old = (c k).0 both.0 in
        (old.0, subst (All (λ x. k ∣ unsigned_abs x)) (sym more) (All-push (λ x. k ∣ unsigned_abs x) (take i xs) (get_or xs i (pos 0)) old.1 (subst (λ t. k ∣ unsigned_abs t) e both.1)))

    back : (k ∣ unsigned_abs s) × All (λ x. k ∣ unsigned_abs x) (take (i + 1) xs) → k ∣ unsigned_abs g
    back p =
        let all = subst (All (λ x. k ∣ unsigned_abs x)) more p.1 in
        let front = All-from_in (λ x. k ∣ unsigned_abs x) (take i xs) (λ y m. All-in (λ x. k ∣ unsigned_abs x) (take i xs ++ get_or xs i (pos 0) ∷ []) y all (In-append_left (take i xs) (get_or xs i (pos 0) ∷ []) y m)) in
        let last = All-in (λ x. k ∣ unsigned_abs x) (take i xs ++ get_or xs i (pos 0) ∷ []) (get_or xs i (pos 0)) all (In-append_right (take i xs) (get_or xs i (pos 0) ∷ []) (get_or xs i (pos 0)) (inl refl)) in
        (divides_gcd found x g k is).1 ((c k).1 (p.0, front), subst (λ t. k ∣ unsigned_abs t) (sym e) last)

one_divides : (k n : ℕ) → k ≡ 1 → k ∣ n
one_divides k n e = subst (λ t. t ∣ n) (sym e) (subst (λ t. 1 ∣ t) (times n) (dvd-mul_right 1 n))
  where
    times : (n : ℕ) → 1 * n ≡ n
    times n = omega arith

from_take : (P : ℤ → Type 0) (xs : List ℤ) (i : ℕ) → All P xs → All P (take i xs)
from_take P xs i all = All-from_in P (take i xs) (λ y m. All-in P xs y all (kept xs i y m))
  where
    kept : (xs : List ℤ) (i : ℕ) (y : ℤ) → In y (take i xs) → In y xs
    kept [] zero y m = m
    kept [] (suc i) y m = m
    kept (x ∷ xs) zero y m = absurd m
    kept (x ∷ xs) (suc i) y (inl e) = inl e
    kept (x ∷ xs) (suc i) y (inr m) = inr (kept xs i y m)

pub common_one : (s : ℤ) (xs : List ℤ) (i : ℕ) (found : ℤ) → found ≡ pos 1 → IsCommon s (take i xs) found → IsCommon s xs (pos 1)
common_one s xs i found e c k = (there, λ p. subst (λ t. k ∣ unsigned_abs t) e ((c k).1 (p.0, from_take (λ x. k ∣ unsigned_abs x) xs i p.1)))
  where
    there : k ∣ 1 → (k ∣ unsigned_abs s) × All (λ x. k ∣ unsigned_abs x) xs
    there v = let o = eq-one_of_dvd-one v in (one_divides k (unsigned_abs s) o, All-from_in (λ x. k ∣ unsigned_abs x) xs (λ y m. one_divides k (unsigned_abs y) o))

-- all numbers are multiples of what was found
pub common_settled : (s : ℤ) (xs : List ℤ) (i : ℕ) (found : ℤ) → IsCommon s (take i xs) found → IsCommon found xs found → IsCommon s xs found
common_settled s xs i found c all k = (λ h. (((c k).0 h).0, ((all k).0 h).1), λ p. (c k).1 (p.0, from_take (λ x. k ∣ unsigned_abs x) xs i p.1))

pub common_all : (s : ℤ) (xs : List ℤ) (i : ℕ) (found : ℤ) → length xs ≤ i → IsCommon s (take i xs) found → IsCommon s xs found
common_all s xs i found h c = subst (λ t. IsCommon s t found) (take_all i xs h) c

-- ---- small numbers
pub small_more : (xs : List ℤ) (i : ℕ) (x : ℤ) → i < length xs → All Small (take i xs) → x ≡ get_or xs i (pos 0) → Small x → All Small (take (i + 1) xs)
small_more xs i x h all e s = subst (All Small) (sym (take_more xs i (pos 0) h)) (All-push Small (take i xs) (get_or xs i (pos 0)) all (subst Small e s))

pub small_all : (xs : List ℤ) (i : ℕ) → length xs ≤ i → All Small (take i xs) → All Small xs
small_all xs i h all = subst (All Small) (take_all i xs h) all

pub not_small : (xs : List ℤ) (i : ℕ) (x : ℤ) → i < length xs → x ≡ get_or xs i (pos 0) → 2 ^ 62 ≤ unsigned_abs x → All Small xs → ⊥
not_small xs i x h e w all = let s = subst Small (sym e) (All-get_or Small xs i (pos 0) h all) in absurd (omega (arith, s, w))

pub not_wide : (b : Bool) (x : ℤ) → (IsTrue b ↔ (2 ^ 62 ≤ unsigned_abs x)) → b ≡ false → Small x
not_wide b x k e = by (cases_lt (unsigned_abs x) (2 ^ 62))
  where
    by : (unsigned_abs x < 2 ^ 62) ⊎ (2 ^ 62 ≤ unsigned_abs x) → Small x
    by (inl h) = h
    by (inr h) = absurd (subst T (sym (k.1 h) ∙ e) tt)
