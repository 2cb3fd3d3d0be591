-- The noted places of variables, and a divisor that divides.
use Rattle.std.proofs.Common.{◌≡◌, ◌≢◌, ◌↔◌, ℕ, zero, suc, ◌+◌, ◌-◌, ◌<◌, ◌≤◌, List, [], ◌∷◌, ◌++◌, length, get_or, set, refl, ap, sym, subst, ◌∙◌, arith, ◌⊎◌, inl, inr, length-set, Contains, ℤ, pos, ◌<ℤ◌, unsigned_abs, int_rem}
use Rattle.std.proofs.lemmas.Bool.{cases_lt}
use Rattle.std.proofs.lemmas.List.{get_or-set_same, get_or-set_other}
use Rattle.std.proofs.lemmas.List.FromFn.{length-range_with_len}
use Rattle.std.specs.List.{range_with_len}
use Rattle.integer_laws.specs.Members.{In}
use Rattle.integer_laws.specs.Laws.Members.{In-from_contains, Contains-from_in, In-append_cases}
use Rattle.row_pivots.specs.Laws.Grown.{at_end, length-more, fresh_more}
use Rattle.integer_laws.specs.Divisors.{IsGcdOf}
use Rattle.integer_laws.specs.Laws.Divisors.{gcd_zero, gcd_step}
use Rattle.std.proofs.lemmas.Int.{ints}
use Rattle.std.proofs.lemmas.Nat.Gcd.{IsGcd-swap}
use Rattle.row_laws.specs.Laws.Pivots.{below}
use Rattle.row_pivots.specs.Laws.Measure.{place_is}
use Rattle.row_pivots.specs.Laws.Pivoting.{get_or-In}
use Rattle.row_pivots.specs.Laws.Points.{climbs_fresh}
use Rattle.row_pivots.specs.Laws.Sorted.{range_climbs}
use Rattle.row_pivots.specs.Laws.Turned.{fresh_set, set_members}
use Rattle.row_pivots.specs.Tables.{Fresh, place_of}
use Rattle.row_dictionary.specs.Laws.Found.{place_unique}
use Rattle.row_dictionary.specs.Laws.Placing.{place_end, placed_in, range_next}
use Rattle.row_dictionary.specs.Seen.{ArePlaces, IsPlaced}

pub kept : (places list : List ℕ) (z at : ℕ) → ArePlaces places list → at ≡ get_or places z 0 → (at < length list) × (get_or list at 0 ≡ z) → at ≡ place_of z list
kept places list z at p e s = e ∙ (p z (subst (λ t. In t list) s.1 (get_or-In list at 0 s.0))).1

pub kept_none : (places list : List ℕ) (z at : ℕ) → ArePlaces places list → at ≡ get_or places z 0 → ((at < length list) × (get_or list at 0 ≡ z) → ⊥) → length list ≡ place_of z list
kept_none places list z at p e n = by (cases_lt (place_of z list) (length list))
  where
    by : (place_of z list < length list) ⊎ (length list ≤ place_of z list) → length list ≡ place_of z list
    by (inr h) = let k = place_end z list in omega (arith, h, k)
    by (inl h) =
        let i = placed_in z list h in
        let is : at ≡ place_of z list = e ∙ (p z i).1 in
        absurd (n (subst (λ t. t < length list) (sym is) h, ap (λ t. get_or list t 0) is ∙ (place_is z list i).1))

pub kept_among : (places list : List ℕ) (z at : ℕ) → ArePlaces places list → at ≡ get_or places z 0 → ((at < length list) × (get_or list at 0 ≡ z)) ↔ Contains list z
kept_among places list z at p e = (
  λ s. Contains-from_in list z (subst (λ t. In t list) s.1 (get_or-In list at 0 s.0)),
  λ c.
      let i = In-from_contains list z c in
      let is : at ≡ place_of z list = e ∙ (p z i).1 in
      let h = place_is z list i in
      (subst (λ t. t < length list) (sym is) h.0, ap (λ t. get_or list t 0) is ∙ h.1),
)

-- one of two lists, of which a member gives way to one of the other list
turned_places : (places list : List ℕ) (k y x j i : ℕ) → ArePlaces places list → Fresh list → k < length list → (In y list → ⊥) → get_or list k 0 ≡ x → x ≢ y → x < length places → y < length places
    → (other : List ℕ) → length other ≡ length places → get_or other y 0 ≡ k → ((z : ℕ) → z ≢ x → z ≢ y → get_or other z 0 ≡ get_or places z 0) → ArePlaces other (set list k y)
turned_places places list k y x j i p f h n at d in_x in_y other long here there z m = by ((set_members list k y z h f n).0 m)
  where
    fresh : Fresh (set list k y)
    fresh = fresh_set list k y f n

    by : (z ≡ y) ⊎ (In z list × (z ≢ get_or list k 0)) → (z < length other) × (get_or other z 0 ≡ place_of z (set list k y))
    by (inl e) = (
      subst (λ t. t < length other) (sym e) (subst (λ t. y < t) (sym long) in_y),
      ap (λ t. get_or other t 0) e ∙ here ∙ sym (place_unique z (set list k y) k fresh (subst (λ t. k < t) (sym (length-set list k y)) h) (get_or-set_same list k y 0 h ∙ sym e)),
    )
    by (inr q) =
        let old = p z q.0 in
        let is = place_is z list q.0 in
        let away : place_of z list ≡ k → ⊥ = λ e. q.1 (sym is.1 ∙ ap (λ t. get_or list t 0) e) in (
          subst (λ t. z < t) (sym long) old.0,
          there z (λ e. q.1 (e ∙ sym at)) (λ e. n (subst (λ t. In t list) e q.0)) ∙ old.1
              ∙ sym (place_unique z (set list k y) (place_of z list) fresh (subst (λ t. place_of z list < t) (sym (length-set list k y)) is.0) (get_or-set_other list k (place_of z list) y 0 away ∙ is.1)),
        )

pub exchanged : (places basic free : List ℕ) (r s : ℕ) → IsPlaced places basic free → r < length basic → s < length free
    → IsPlaced (set (set places (get_or basic r 0) s) (get_or free s 0) r) (set basic r (get_or free s 0)) (set free s (get_or basic r 0))
exchanged places basic free r s p hr hs = record {
  fresh_basic = fresh_set basic r (get_or free s 0) p.fresh_basic (λ k. p.apart (get_or free s 0) k in_into);
  fresh_free = fresh_set free s (get_or basic r 0) p.fresh_free (λ k. p.apart (get_or basic r 0) in_out k);
  apart = λ z i j. parted z ((set_members basic r (get_or free s 0) z hr p.fresh_basic (λ k. p.apart (get_or free s 0) k in_into)).0 i) ((set_members free s (get_or basic r 0) z hs p.fresh_free (λ k. p.apart (get_or basic r 0) in_out k)).0 j);
  of_basic = turned_places places basic r (get_or free s 0) (get_or basic r 0) 0 0 p.of_basic p.fresh_basic hr (λ k. p.apart (get_or free s 0) k in_into) refl differ long_out long_into
      (set (set places (get_or basic r 0) s) (get_or free s 0) r) long into_at rest;
  of_free = turned_places places free s (get_or basic r 0) (get_or free s 0) 0 0 p.of_free p.fresh_free hs (λ k. p.apart (get_or basic r 0) in_out k) refl (λ e. differ (sym e)) long_into long_out
      (set (set places (get_or basic r 0) s) (get_or free s 0) r) long out_at (λ z a b. rest z b a);
  many = let a = long in let b = p.many in let c = length-set basic r (get_or free s 0) in let d = length-set free s (get_or basic r 0) in omega (arith, a, b, c, d);
}
  where
    in_out : In (get_or basic r 0) basic
    in_out = get_or-In basic r 0 hr

    in_into : In (get_or free s 0) free
    in_into = get_or-In free s 0 hs

    differ : get_or basic r 0 ≢ get_or free s 0
    differ e = p.apart (get_or basic r 0) in_out (subst (λ t. In t free) (sym e) in_into)

    long_out : get_or basic r 0 < length places
    long_out = (p.of_basic (get_or basic r 0) in_out).0

    long_into : get_or free s 0 < length places
    long_into = (p.of_free (get_or free s 0) in_into).0

    long : length (set (set places (get_or basic r 0) s) (get_or free s 0) r) ≡ length places
    long = length-set (set places (get_or basic r 0) s) (get_or free s 0) r ∙ length-set places (get_or basic r 0) s

    into_at : get_or (set (set places (get_or basic r 0) s) (get_or free s 0) r) (get_or free s 0) 0 ≡ r
    into_at = get_or-set_same (set places (get_or basic r 0) s) (get_or free s 0) r 0 (subst (λ t. get_or free s 0 < t) (sym (length-set places (get_or basic r 0) s)) long_into)

    out_at : get_or (set (set places (get_or basic r 0) s) (get_or free s 0) r) (get_or basic r 0) 0 ≡ s
    out_at = get_or-set_other (set places (get_or basic r 0) s) (get_or free s 0) (get_or basic r 0) r 0 differ ∙ get_or-set_same places (get_or basic r 0) s 0 long_out

    rest : (z : ℕ) → z ≢ get_or basic r 0 → z ≢ get_or free s 0 → get_or (set (set places (get_or basic r 0) s) (get_or free s 0) r) z 0 ≡ get_or places z 0
    rest z a b = get_or-set_other (set places (get_or basic r 0) s) (get_or free s 0) z r 0 b ∙ get_or-set_other places (get_or basic r 0) z s 0 a

    parted : (z : ℕ) → (z ≡ get_or free s 0) ⊎ (In z basic × (z ≢ get_or basic r 0)) → (z ≡ get_or basic r 0) ⊎ (In z free × (z ≢ get_or free s 0)) → ⊥
    parted z (inl e) (inl f) = differ (sym f ∙ e)
    parted z (inl e) (inr k) = k.1 e
    parted z (inr k) (inl f) = k.1 f
    parted z (inr k) (inr l) = p.apart z k.0 l.0

in_front : (xs ys : List ℕ) (k d : ℕ) → k < length xs → get_or (xs ++ ys) k d ≡ get_or xs k d
in_front [] ys k d h = absurd (omega (arith, h))
in_front (x ∷ xs) ys zero d h = refl
in_front (x ∷ xs) ys (suc k) d h = in_front xs ys k d (omega (arith, h))

-- ---- one more
pub grown_places : (places basic free : List ℕ) → IsPlaced places basic free → IsPlaced (places ++ length basic ∷ []) (basic ++ (length basic + length free) ∷ []) free
grown_places places basic free p = record {
  fresh_basic = fresh;
  fresh_free = p.fresh_free;
  apart = λ y i k. apart y (In-append_cases basic (z ∷ []) y i) k;
  of_basic = λ y i. of_basic y (In-append_cases basic (z ∷ []) y i);
  of_free = λ y i. let k = p.of_free y i in (let m = length-more places (length basic) in omega (arith, k.0, m), in_front places (length basic ∷ []) y 0 k.0 ∙ k.1);
  many = let a = length-more places (length basic) in let b = length-more basic z in let m = p.many in omega (arith, a, b, m);
}
  where
    z : ℕ
    z = length basic + length free

    new : In (length basic + length free) basic → ⊥
    new i = let k = (p.of_basic (length basic + length free) i).0 in let m = p.many in absurd (omega (arith, k, m))

    fresh : Fresh (basic ++ (length basic + length free) ∷ [])
    fresh = fresh_more basic (length basic + length free) p.fresh_basic new

    apart : (y : ℕ) → In y basic ⊎ In y ((length basic + length free) ∷ []) → In y free → ⊥
    apart y (inl i) k = p.apart y i k
    apart y (inr (inl e)) k = let h = (p.of_free y k).0 in let m = p.many in absurd (omega (arith, h, m, e))
    apart y (inr (inr i)) k = absurd i

    of_basic : (y : ℕ) → In y basic ⊎ In y ((length basic + length free) ∷ []) → (y < length (places ++ length basic ∷ [])) × (get_or (places ++ length basic ∷ []) y 0 ≡ place_of y (basic ++ (length basic + length free) ∷ []))
    of_basic y (inl i) =
        let k = p.of_basic y i in
        let at = place_is y basic i in (
          let m = length-more places (length basic) in omega (arith, k.0, m),
          in_front places (length basic ∷ []) y 0 k.0 ∙ k.1
              ∙ sym (place_unique y (basic ++ (length basic + length free) ∷ []) (place_of y basic) fresh (let m = length-more basic (length basic + length free) in omega (arith, at.0, m)) (in_front basic ((length basic + length free) ∷ []) (place_of y basic) 0 at.0 ∙ at.1)),
        )
    of_basic y (inr (inl e)) =
        let m = p.many in
        let l = length-more places (length basic) in
        let same : y ≡ length places = omega (arith, e, m) in (
          omega (arith, l, same),
          ap (λ t. get_or (places ++ length basic ∷ []) t 0) same ∙ at_end places (length basic) 0
              ∙ sym (place_unique y (basic ++ (length basic + length free) ∷ []) (length basic) fresh (let k = length-more basic (length basic + length free) in omega (arith, k)) (at_end basic (length basic + length free) 0 ∙ sym e)),
        )
    of_basic y (inr (inr i)) = absurd i

-- ---- where all begins
at_range : (a n k d : ℕ) → k < n → get_or (range_with_len a n) k d ≡ a + k
at_range a zero k d h = absurd (omega (arith, h))
at_range a (suc n) zero d h = omega arith
at_range a (suc n) (suc k) d h = let e = at_range (a + 1) n k d (omega (arith, h)) in omega (arith, e)

past_front : (xs ys : List ℕ) (k d : ℕ) → length xs ≤ k → get_or (xs ++ ys) k d ≡ get_or ys (k - length xs) d
past_front [] ys k d h = ap (λ t. get_or ys t d) (less k)
  where
    less : (k : ℕ) → k ≡ k - 0
    less k = omega arith
past_front (x ∷ xs) ys zero d h = absurd (omega (arith, h))
past_front (x ∷ xs) ys (suc k) d h = past_front xs ys k d (omega (arith, h)) ∙ ap (λ t. get_or ys t d) (one_less k (length xs))
  where
    one_less : (a b : ℕ) → a - b ≡ suc a - suc b
    one_less a b = omega arith

long_joined : (xs ys : List ℕ) → length (xs ++ ys) ≡ length xs + length ys
long_joined [] ys = omega arith
long_joined (x ∷ xs) ys = let e = long_joined xs ys in omega (arith, e)

pub placed_first : (vars count : ℕ) → IsPlaced (range_with_len 0 vars ++ range_with_len 0 count) (range_with_len vars count) (range_with_len 0 vars)
placed_first vars count = record {
  fresh_basic = climbs_fresh vars (vars + count) (range_with_len vars count) (range_climbs vars count (vars + count) refl);
  fresh_free = climbs_fresh 0 vars (range_with_len 0 vars) (range_climbs 0 vars vars (plain vars));
  apart = λ z i j. let a = high z i in let b = low z j in absurd (omega (arith, a.0, b));
  of_basic = λ z i. basic z (high z i);
  of_free = λ z i. free z (low z i);
  many = let a = A in let l = all in let b = length-range_with_len vars count in omega (arith, a, l, b);
}
  where
    plain : (n : ℕ) → n ≡ 0 + n
    plain n = omega arith

    high : (z : ℕ) → In z (range_with_len vars count) → (vars ≤ z) × (z < vars + count)
    high z i = below vars (vars + count) (range_with_len vars count) z (range_climbs vars count (vars + count) refl) i

    low : (z : ℕ) → In z (range_with_len 0 vars) → z < vars
    low z i = (below 0 vars (range_with_len 0 vars) z (range_climbs 0 vars vars (plain vars)) i).1

    A : length (range_with_len 0 vars) ≡ vars
    A = length-range_with_len 0 vars

    B : length (range_with_len 0 count) ≡ count
    B = length-range_with_len 0 count

    all : length (range_with_len 0 vars ++ range_with_len 0 count) ≡ vars + count
    all = let j = long_joined (range_with_len 0 vars) (range_with_len 0 count) in let a = A in let b = B in omega (arith, j, a, b)

    basic : (z : ℕ) → (vars ≤ z) × (z < vars + count) → (z < length (range_with_len 0 vars ++ range_with_len 0 count)) × (get_or (range_with_len 0 vars ++ range_with_len 0 count) z 0 ≡ place_of z (range_with_len vars count))
    basic z h =
        let a = A in
        let l = all in
        let n = length-range_with_len vars count in
        let in_k : z - vars < count = omega (arith, h.0, h.1) in
        let p : get_or (range_with_len 0 vars ++ range_with_len 0 count) z 0 ≡ get_or (range_with_len 0 count) (z - length (range_with_len 0 vars)) 0 = past_front (range_with_len 0 vars) (range_with_len 0 count) z 0 (omega (arith, a, h.0)) in
        let q : get_or (range_with_len 0 count) (z - length (range_with_len 0 vars)) 0 ≡ get_or (range_with_len 0 count) (z - vars) 0 = ap (λ t. get_or (range_with_len 0 count) (z - t) 0) a in
        let v : get_or (range_with_len 0 count) (z - vars) 0 ≡ z - vars = let e = at_range 0 count (z - vars) 0 in_k in omega (arith, e) in
        let w : get_or (range_with_len vars count) (z - vars) 0 ≡ z = let e = at_range vars count (z - vars) 0 in_k in omega (arith, e, h.0) in
        (omega (arith, l, h.1), p ∙ q ∙ v ∙ sym (place_unique z (range_with_len vars count) (z - vars) (climbs_fresh vars (vars + count) (range_with_len vars count) (range_climbs vars count (vars + count) refl)) (omega (arith, n, in_k)) w))

    free : (z : ℕ) → z < vars → (z < length (range_with_len 0 vars ++ range_with_len 0 count)) × (get_or (range_with_len 0 vars ++ range_with_len 0 count) z 0 ≡ place_of z (range_with_len 0 vars))
    free z h =
        let a = A in
        let l = all in
        let w : get_or (range_with_len 0 vars) z 0 ≡ z = let e = at_range 0 vars z 0 h in omega (arith, e) in (
          omega (arith, l, h),
          in_front (range_with_len 0 vars) (range_with_len 0 count) z 0 (omega (arith, a, h)) ∙ w
              ∙ sym (place_unique z (range_with_len 0 vars) z (climbs_fresh 0 vars (range_with_len 0 vars) (range_climbs 0 vars vars (plain vars))) (omega (arith, a, h)) w),
        )

pub range_zero : (n : ℕ) → range_with_len 0 (n + 1) ≡ range_with_len 0 n ++ n ∷ []
range_zero n = range_next 0 n ∙ ap (λ t. range_with_len 0 n ++ t ∷ []) (plain n)
  where
    plain : (n : ℕ) → 0 + n ≡ n
    plain n = omega arith

pub joined_next : (xs : List ℕ) (n : ℕ) → (xs ++ range_with_len 0 n) ++ n ∷ [] ≡ xs ++ range_with_len 0 (n + 1)
joined_next [] n = sym (range_zero n)
joined_next (x ∷ xs) n = ap (λ t. x ∷ t) (joined_next xs n)

pub divisor_is : (f x : ℤ) → pos 0 <ℤ f → int_rem x f ≡ pos 0 → IsGcdOf f x f
divisor_is f x p e = record { nonneg = omega (arith, ints, p); is = IsGcd-swap (unsigned_abs x) (unsigned_abs f) (unsigned_abs f) (gcd_step x f (pos 0) f (sym e) alone).is }
  where
    alone : IsGcdOf f (pos 0) f
    alone = record { nonneg = omega (arith, ints, p); is = (gcd_zero f (pos 0) refl).is }
