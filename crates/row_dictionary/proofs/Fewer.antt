-- The noted places once the variable of the last number is gone, and the last basic one has come to its place.
use Rattle.std.proofs.Common.{◌≡◌, ◌≢◌, ℕ, suc, ◌+◌, ◌-◌, ◌<◌, ◌≤◌, List, [], ◌∷◌, ◌++◌, length, get_or, set, take, refl, ap, sym, subst, ◌∙◌, arith, ◌⊎◌, inl, inr, length-set, Contains}
use Rattle.std.proofs.lemmas.Bool.{cases_lt}
use Rattle.std.proofs.lemmas.List.{get_or-set_same, get_or-set_other, get_or-take, length-take}
use Rattle.std.specs.List.{swap_remove}
use Rattle.integer_laws.specs.Laws.Members.{In-from_contains, In-append_left, In-append_right}
use Rattle.integer_laws.specs.Members.{In}
use Rattle.row_laws.specs.Laws.OneForm.{any_default}
use Rattle.row_pivots.specs.Laws.Grown.{at_end, length-more}
use Rattle.row_pivots.specs.Laws.Measure.{place_is}
use Rattle.row_pivots.specs.Laws.Pivoting.{get_or-In}
use Rattle.row_pivots.specs.Laws.Shrunk.{ending, remove_last, remove_other, fresh_front, get_or-front}
use Rattle.row_pivots.specs.Laws.Turned.{fresh_set, set_members}
use Rattle.row_pivots.specs.Tables.{Fresh, place_of}
use Rattle.row_dictionary.specs.Laws.Found.{place_unique}
use Rattle.row_dictionary.specs.Seen.{IsPlaced}

front_place : (bs : List ℕ) (b y : ℕ) → Fresh (bs ++ b ∷ []) → In y bs → place_of y (bs ++ b ∷ []) ≡ place_of y bs
front_place bs b y f i =
    let at = place_is y bs i in
    place_unique y (bs ++ b ∷ []) (place_of y bs) f (let m = length-more bs b in omega (arith, at.0, m)) (get_or-front bs b (place_of y bs) at.0 ∙ at.1)

less : (y n m : ℕ) → suc n ≡ m → y < m → (y ≢ n) → y < n
less y n m e h d = by (cases_lt y n)
  where
    by : (y < n) ⊎ (n ≤ y) → y < n
    by (inl k) = k
    by (inr k) = absurd (d (omega (arith, e, h, k)))

pub taken_long : (xs : List ℕ) (n : ℕ) → suc n ≡ length xs → length (take n xs) ≡ n
taken_long xs n e = let l = length-take n xs in omega (arith, l, e)

-- the variable of the last number stands last
last_goes : (places bs free : List ℕ) (n : ℕ) → IsPlaced places (bs ++ n ∷ []) free → suc n ≡ length places → IsPlaced (take n places) bs free
last_goes places bs free n p e = record {
  fresh_basic = ff.0;
  fresh_free = p.fresh_free;
  apart = λ y i j. p.apart y (In-append_left bs (n ∷ []) y i) j;
  of_basic = λ y i. basic y i (p.of_basic y (In-append_left bs (n ∷ []) y i));
  of_free = λ y j. free_at y j (p.of_free y j);
  many = let a = long in let b = p.many in let c = length-more bs n in omega (arith, a, b, c, e);
}
  where
    ff : Fresh bs × (In n bs → ⊥)
    ff = fresh_front bs n p.fresh_basic

    long : length (take n places) ≡ n
    long = taken_long places n e

    basic : (y : ℕ) → In y bs → (y < length places) × (get_or places y 0 ≡ place_of y (bs ++ n ∷ [])) → (y < length (take n places)) × (get_or (take n places) y 0 ≡ place_of y bs)
    basic y i k =
        let h = less y n (length places) e k.0 (λ s. ff.1 (subst (λ t. In t bs) s i)) in
        (let l = long in omega (arith, l, h), get_or-take n places y 0 h ∙ k.1 ∙ front_place bs n y p.fresh_basic i)

    free_at : (y : ℕ) → In y free → (y < length places) × (get_or places y 0 ≡ place_of y free) → (y < length (take n places)) × (get_or (take n places) y 0 ≡ place_of y free)
    free_at y j k =
        let h = less y n (length places) e k.0 (λ s. p.apart n (In-append_right bs (n ∷ []) n (inl refl)) (subst (λ t. In t free) s j)) in
        (let l = long in omega (arith, l, h), get_or-take n places y 0 h ∙ k.1)

-- it stands before the last one, which comes to its place
other_comes : (places bs free : List ℕ) (b r n : ℕ) → IsPlaced places (bs ++ b ∷ []) free → suc n ≡ length places → r < length bs → get_or bs r 0 ≡ n → IsPlaced (set (take n places) b r) (set bs r b) free
other_comes places bs free b r n p e in_r is = record {
  fresh_basic = fresh;
  fresh_free = p.fresh_free;
  apart = λ y i j. apart y (members y i) j;
  of_basic = λ y i. basic y (members y i);
  of_free = λ y j. free_at y j (p.of_free y j);
  many = let a = long in let k = p.many in let c = length-more bs b in let d = length-set bs r b in let f = length-set (take n places) b r in omega (arith, a, k, c, d, e, f);
}
  where
    ff : Fresh bs × (In b bs → ⊥)
    ff = fresh_front bs b p.fresh_basic

    long : length (take n places) ≡ n
    long = taken_long places n e

    in_n : In n bs
    in_n = subst (λ t. In t bs) is (get_or-In bs r 0 in_r)

    fresh : Fresh (set bs r b)
    fresh = fresh_set bs r b ff.0 ff.1

    members : (y : ℕ) → In y (set bs r b) → (y ≡ b) ⊎ (In y bs × (y ≢ get_or bs r 0))
    members y i = (set_members bs r b y in_r ff.0 ff.1).0 i

    in_b : In b (bs ++ b ∷ [])
    in_b = In-append_right bs (b ∷ []) b (inl refl)

    low_b : b < n
    low_b = less b n (length places) e (p.of_basic b in_b).0 (λ s. ff.1 (subst (λ t. In t bs) (sym s) in_n))

    apart : (y : ℕ) → (y ≡ b) ⊎ (In y bs × (y ≢ get_or bs r 0)) → In y free → ⊥
    apart y (inl s) j = p.apart b in_b (subst (λ t. In t free) s j)
    apart y (inr k) j = p.apart y (In-append_left bs (b ∷ []) y k.0) j

    read : (y : ℕ) → (y ≢ b) → y < n → get_or (set (take n places) b r) y 0 ≡ get_or places y 0
    read y d h = get_or-set_other (take n places) b y r 0 d ∙ get_or-take n places y 0 h

    put_long : length (set (take n places) b r) ≡ n
    put_long = length-set (take n places) b r ∙ long

    basic : (y : ℕ) → (y ≡ b) ⊎ (In y bs × (y ≢ get_or bs r 0)) → (y < length (set (take n places) b r)) × (get_or (set (take n places) b r) y 0 ≡ place_of y (set bs r b))
    basic y (inl s) = subst (λ t. (t < length (set (take n places) b r)) × (get_or (set (take n places) b r) t 0 ≡ place_of t (set bs r b))) (sym s) (
      let l = put_long in let k = low_b in omega (arith, l, k),
      get_or-set_same (take n places) b r 0 (let l = long in let k = low_b in omega (arith, l, k))
          ∙ sym (place_unique b (set bs r b) r fresh (let l = length-set bs r b in omega (arith, l, in_r)) (get_or-set_same bs r b 0 in_r)),
    )
    basic y (inr k) =
        let q = p.of_basic y (In-append_left bs (b ∷ []) y k.0) in
        let h = less y n (length places) e q.0 (λ s. k.1 (s ∙ sym is)) in
        let at = place_is y bs k.0 in (
          let l = put_long in omega (arith, l, h),
          read y (λ s. ff.1 (subst (λ t. In t bs) s k.0)) h ∙ q.1 ∙ front_place bs b y p.fresh_basic k.0
              ∙ sym (place_unique y (set bs r b) (place_of y bs) fresh (let l = length-set bs r b in let m = at.0 in omega (arith, l, m))
              (get_or-set_other bs r (place_of y bs) b 0 (λ s. k.1 (sym at.1 ∙ ap (λ t. get_or bs t 0) s)) ∙ at.1)),
        )

    free_at : (y : ℕ) → In y free → (y < length places) × (get_or places y 0 ≡ place_of y free) → (y < length (set (take n places) b r)) × (get_or (set (take n places) b r) y 0 ≡ place_of y free)
    free_at y j k =
        let h = less y n (length places) e k.0 (λ s. p.apart n (In-append_left bs (b ∷ []) n in_n) (subst (λ t. In t free) s j)) in
        (let l = put_long in omega (arith, l, h), read y (λ s. p.apart b in_b (subst (λ t. In t free) s j)) h ∙ k.1)

-- ---- by the place that is read
abbrev Stays : List ℕ → List ℕ → ℕ → ℕ → List ℕ → Type 0
Stays places free n r left = (r < length left → ⊥) → IsPlaced (take n places) left free

abbrev Comes : List ℕ → List ℕ → ℕ → ℕ → List ℕ → Type 0
Comes places free n r left = r < length left → (moved : ℕ) → moved ≡ get_or left r 0 → (moved < n) × IsPlaced (set (take n places) moved r) left free

one_less_placed : (places bs free : List ℕ) (b n r : ℕ) → IsPlaced places (bs ++ b ∷ []) free → suc n ≡ length places → r < suc (length bs) → get_or (bs ++ b ∷ []) r 0 ≡ n
    → Stays places free n r (swap_remove (bs ++ b ∷ []) r 0) × Comes places free n r (swap_remove (bs ++ b ∷ []) r 0)
one_less_placed places bs free b n r p e h is = by (cases_lt r (length bs))
  where
    before : (in_r : r < length bs) → Stays places free n r (set bs r b) × Comes places free n r (set bs r b)
    before in_r = (
      λ no. absurd (no (let l = length-set bs r b in omega (arith, l, in_r))),
      λ k moved m.
          subst (λ t. (t < n) × IsPlaced (set (take n places) t r) (set bs r b) free) (sym (m ∙ get_or-set_same bs r b 0 in_r)) (low, other_comes places bs free b r n p e in_r here),
    )
      where
        here : get_or bs r 0 ≡ n
        here = sym (get_or-front bs b r in_r) ∙ is

        in_n : In n bs
        in_n = subst (λ t. In t bs) here (get_or-In bs r 0 in_r)

        low : b < n
        low = less b n (length places) e (p.of_basic b (In-append_right bs (b ∷ []) b (inl refl))).0 (λ s. (fresh_front bs b p.fresh_basic).1 (subst (λ t. In t bs) (sym s) in_n))

    at_last : r ≡ length bs → Stays places free n r bs × Comes places free n r bs
    at_last s = (λ no. last_goes places bs free n (subst (λ t. IsPlaced places (bs ++ t ∷ []) free) (sym (at_end bs b 0) ∙ ap (λ t. get_or (bs ++ b ∷ []) t 0) (sym s) ∙ is) p) e, λ k. absurd (omega (arith, s, k)))

    by : (r < length bs) ⊎ (length bs ≤ r) → Stays places free n r (swap_remove (bs ++ b ∷ []) r 0) × Comes places free n r (swap_remove (bs ++ b ∷ []) r 0)
    by (inl in_r) = subst (λ (t : List ℕ). Stays places free n r t × Comes places free n r t) (sym (remove_other bs b 0 r in_r)) (before in_r)
    by (inr k) =
        let s : r ≡ length bs = omega (arith, k, h) in
        subst (λ (t : List ℕ). Stays places free n r t × Comes places free n r t) (sym (ap (λ t. swap_remove (bs ++ b ∷ []) t 0) s ∙ remove_last bs b 0)) (at_last s)

pub less_placed : (places basic free : List ℕ) (n r : ℕ) → IsPlaced places basic free → suc n ≡ length places → r < length basic → get_or basic r 0 ≡ n
    → Stays places free n r (swap_remove basic r 0) × Comes places free n r (swap_remove basic r 0)
less_placed places basic free n r p e h is =
    let x = ending basic (omega (arith, h)) in
    subst (λ (t : List ℕ). Stays places free n r (swap_remove t r 0) × Comes places free n r (swap_remove t r 0)) (sym x.is)
    (one_less_placed places x.front free x.last n r (subst (λ (t : List ℕ). IsPlaced places t free) x.is p) e (let l = ap length x.is ∙ length-more x.front x.last in omega (arith, h, l)) (subst (λ (t : List ℕ). get_or t r 0 ≡ n) x.is is))

-- what is read as the place of the variable of the last number
pub record LastAt (places basic free : List ℕ) (n at : ℕ) : Type 0 where
  pub last : suc n ≡ length places
  pub place : at ≡ place_of (length basic + length free - 1) basic
  pub inside : at < length basic
  pub is : get_or basic at 0 ≡ n

pub last_at : (places basic free : List ℕ) (n at d : ℕ) → IsPlaced places basic free → n ≡ length places - 1 → at ≡ get_or places n d → Contains basic (length basic + length free - 1) → LastAt places basic free n at
last_at places basic free n at d p e r c = record {
  last = last;
  place = place;
  inside = subst (λ t. t < length basic) (sym place) found.0;
  is = ap (λ t. get_or basic t 0) place ∙ found.1 ∙ sym same;
}
  where
    z : ℕ
    z = length basic + length free - 1

    in_z : In (length basic + length free - 1) basic
    in_z = In-from_contains basic (length basic + length free - 1) c

    found : (place_of (length basic + length free - 1) basic < length basic) × (get_or basic (place_of (length basic + length free - 1) basic) 0 ≡ length basic + length free - 1)
    found = place_is (length basic + length free - 1) basic in_z

    some : 0 < length basic
    some = let h = found.0 in omega (arith, h)

    last : suc n ≡ length places
    last = let m = p.many in let s = some in omega (arith, m, s, e)

    same : n ≡ length basic + length free - 1
    same = let m = p.many in omega (arith, m, e)

    place : at ≡ place_of (length basic + length free - 1) basic
    place = r ∙ any_default places n d 0 (let l = last in omega (arith, l)) ∙ ap (λ t. get_or places t 0) same ∙ (p.of_basic (length basic + length free - 1) in_z).1

pub any_removed : (xs : List ℕ) (r a b : ℕ) → r < length xs → swap_remove xs r a ≡ swap_remove xs r b
any_removed xs r a b h = ap (λ y. take (length xs - 1) (set xs r y)) (any_default xs (length xs - 1) a b (omega (arith, h)))
