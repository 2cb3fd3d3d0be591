-- Sums over lists that have no edge twice.
use Rattle.std.proofs.Common.{◌≡◌, ℕ, zero, suc, ◌<◌, ◌≤◌, List, [], ◌∷◌, ◌++◌, refl, ap, sym, subst, arith, ◌⊎◌, inl, inr, sum_by}
use Rattle.std.specs.Prelude.{◌≢◌}
use Rattle.std.proofs.lemmas.List.Kept.{AllPairs-cons}
use Rattle.std.proofs.lemmas.List.Sums.{sum_by-cons, sum_by-append}
use Rattle.integer_laws.specs.Members.{In}
use Rattle.integer_laws.specs.Laws.Members.{All-from_in, Contains-from_in, In-append_left, In-append_right, In-append_cases}
use Rattle.mesh_checks.specs.Edges.{Edge, IsOnce}

-- no member stands twice, by recursion
abbrev pub Once : List Edge → Type 0
Once [] = Unit {0}
Once (e ∷ es) = (In e es → ⊥) × Once es

pub Once-from_pairs : (es : List Edge) → IsOnce es → Once es
Once-from_pairs [] once = tt
Once-from_pairs (e ∷ es) once = (
  (λ i. let c = Contains-from_in es e i in once 0 (suc c.0) e (omega arith) (omega arith) (sym c.2)),
  Once-from_pairs es (λ i j d h k. once (suc i) (suc j) d (omega arith) (omega arith)),
)

pub IsOnce-from_once : (es : List Edge) → Once es → IsOnce es
IsOnce-from_once [] once = λ i j d low high. absurd (omega arith)
IsOnce-from_once (e ∷ es) once = AllPairs-cons ◌≢◌ e es (All-from_in (λ d. e ≢ d) es (λ d i q. once.0 (subst (λ t. In t es) (sym q) i))) (IsOnce-from_once es once.1)

-- what stands before a member, and what stands after it
pub record SplitAt (e : Edge) (es : List Edge) : Type 0 where
  pub front : List Edge
  pub back : List Edge
  pub is : es ≡ front ++ e ∷ back

split_at : (e : Edge) (es : List Edge) → In e es → SplitAt e es
split_at e [] i = absurd i
split_at e (d ∷ es) (inl q) = record { front = []; back = es; is = ap (λ t. t ∷ es) (sym q) }
split_at e (d ∷ es) (inr i) = let s = split_at e es i in record { front = d ∷ s.front; back = s.back; is = ap (λ t. d ∷ t) s.is }

-- a member that isn't e stands before or after it
stays : (e d : Edge) (front back : List Edge) → (d ≡ e → ⊥) → In d (front ++ e ∷ back) → In d (front ++ back)
stays e d front back other i = by (In-append_cases front (e ∷ back) d i)
  where
    by : In d front ⊎ In d (e ∷ back) → In d (front ++ back)
    by (inl j) = In-append_left front back d j
    by (inr (inl q)) = absurd (other q)
    by (inr (inr j)) = In-append_right front back d j

-- a list that has each edge where f isn't 0 has the greatest sum of f
pub sum_at_most : (f : Edge → ℕ) (ds es : List Edge) → Once ds → ((e : Edge) → In e ds → 0 < f e → In e es) → sum_by f ds ≤ sum_by f es
sum_at_most f [] es once has = omega arith
sum_at_most f (d ∷ ds) es once has = by (f d) refl (λ fs h. sum_at_most f ds fs once.1 h)
  where
    by : (n : ℕ) → f d ≡ n → ((fs : List Edge) → ((e : Edge) → In e ds → 0 < f e → In e fs) → sum_by f ds ≤ sum_by f fs) → sum_by f (d ∷ ds) ≤ sum_by f es
    by zero q most =
        let rest : sum_by f ds ≤ sum_by f es = most es (λ e i h. has e (inr i) h) in
        let e = sum_by-cons f d ds in
        omega arith
    by (suc n) q most =
        let positive : 0 < f d = omega arith in
        let s = split_at d es (has d (inl refl) positive) in
        let rest : sum_by f ds ≤ sum_by f (s.front ++ s.back) =
        most (s.front ++ s.back) (λ e i h. stays d e s.front s.back (λ q. once.0 (subst (λ t. In t ds) q i)) (subst (In e) s.is (has e (inr i) h))) in
        let e = sum_by-cons f d ds in
        let whole = ap (sum_by f) s.is in
        let a = sum_by-append f s.front (d ∷ s.back) in
        let b = sum_by-append f s.front s.back in
        let c = sum_by-cons f d s.back in
        omega arith

-- two lists with each edge where f isn't 0 have one sum of f
pub one_sum : (f : Edge → ℕ) (ds es : List Edge) → Once ds → Once es → ((e : Edge) → 0 < f e → In e ds) → ((e : Edge) → 0 < f e → In e es) → sum_by f ds ≡ sum_by f es
one_sum f ds es d e hasd hase =
    let low = sum_at_most f ds es d (λ x i h. hase x h) in
    let high = sum_at_most f es ds e (λ x i h. hasd x h) in
    omega arith

pub sum_alike : (f g : Edge → ℕ) (es : List Edge) → ((e : Edge) → In e es → f e ≡ g e) → sum_by f es ≡ sum_by g es
sum_alike f g [] h = refl
sum_alike f g (e ∷ es) h =
    let first = h e (inl refl) in
    let rest = sum_alike f g es (λ d i. h d (inr i)) in
    let a = sum_by-cons f e es in
    let b = sum_by-cons g e es in
    omega arith
