-- The derived order and equality of spots.
use Rattle.std.proofs.Common.{◌≡◌, List, [], ◌∷◌, refl, ap, ap₂, sym, subst, ◌∙◌, arith, ℤ, ◌<ℤ◌, inl, inr, Bool, true, Ordering, Less, Equal, Greater}
use Rattle.std.specs.Ordering.{int_cmp, int_eq, on, eq_of_both, eq_by_cmp, ordering_then}
use Rattle.std.specs.List.Sorted.{IsStrictlySortedBy, IsSorted, IsPermutation}
use Rattle.std.specs.List.{dedup}
use Rattle.std.specs.Cmp.{IsTotalOrder, IsEquivalence}
use Rattle.std.proofs.lemmas.Int.{ints}
use Rattle.std.proofs.lemmas.Bool.Decides.{nat_tests}
use Rattle.std.proofs.lemmas.Cmp.{int_cmp_total, int_eq_equiv, on_total, then_total, on_equiv, and_equiv, int_ranked, by_ranked}
use Rattle.std.proofs.lemmas.List.Kept.{Contains-dedup, Contains-from_dedup, IsStrictlySortedBy-dedup}
use Rattle.std.proofs.lemmas.List.Sorted.{Contains-permutation, IsPermutation-sym}
use Rattle.seq_model.specs.declared.printer.Spot.{Spot}
use Rattle.integer_laws.specs.Members.{In}
use Rattle.integer_laws.specs.Laws.Members.{In-from_contains, Contains-from_in}
use Rattle.model_laws.specs.Laws.Turning.{before_from_cases}
use Rattle.outline_laws.specs.Corners.{IsBefore}
use Rattle.outline_laws.specs.Chains.{RisesFrom, IsRising, SameMembers}

abbrev pub spot_cmp : Spot → Spot → Ordering
spot_cmp a b = ordering_then (int_cmp a.x b.x) (int_cmp a.y b.y)

abbrev pub spot_eq : Spot → Spot → Bool
spot_eq = eq_of_both (on (λ (s : Spot). s.x) int_eq) (on (λ (s : Spot). s.y) int_eq)

pub spot_total : IsTotalOrder spot_cmp
spot_total = then_total (on_total (λ (s : Spot). s.x) int_cmp_total) (on_total (λ (s : Spot). s.y) int_cmp_total)

pub spot_equiv : IsEquivalence spot_eq
spot_equiv = and_equiv (on_equiv (λ (s : Spot). s.x) int_eq_equiv) (on_equiv (λ (s : Spot). s.y) int_eq_equiv)

pub spot_ties : (a b : Spot) → spot_eq a b ≡ eq_by_cmp spot_cmp a b
spot_ties a b = grind (arith, ints, nat_tests)

abbrev spot : ℤ → ℤ → Spot
spot x y = record { x = x; y = y }

pub same_spot : (a b : Spot) → spot_eq a b ≡ true → a ≡ b
same_spot a b e =
    let x : a.x ≡ b.x = grind (arith, ints, nat_tests) in
    let y : a.y ≡ b.y = grind (arith, ints, nat_tests) in
    ap₂ spot x y

before : (a b : Spot) → spot_cmp a b ≡ Less → IsBefore a b
before a b e = by_ranked (a.x <ℤ b.x) (a.x ≡ b.x) (b.x <ℤ a.x) (int_cmp a.x b.x) (int_ranked a.x b.x (int_cmp a.x b.x) refl) (λ o h. before_from_cases a b (inl h)) (λ o h. before_from_cases a b (inr (h, y_less o))) (λ o h. absurd (never o))
  where
    y_less : int_cmp a.x b.x ≡ Equal → a.y <ℤ b.y
    y_less o = less_of (int_cmp a.y b.y) refl (sym (ap (λ t. ordering_then t (int_cmp a.y b.y)) o) ∙ e)
      where
        less_of : (r : Ordering) → r ≡ int_cmp a.y b.y → int_cmp a.y b.y ≡ Less → a.y <ℤ b.y
        less_of r q l = grind (arith, ints, nat_tests)

    never : int_cmp a.x b.x ≡ Greater → ⊥
    never o = not_less (sym (ap (λ t. ordering_then t (int_cmp a.y b.y)) o) ∙ e)
      where
        not_less : Greater ≡ Less → ⊥
        not_less q = cc

rises_from : (a : Spot) (ps : List Spot) → IsStrictlySortedBy spot_cmp (a ∷ ps) → RisesFrom a ps
unfolding IsStrictlySortedBy
rises_from a [] h = tt
rises_from a (b ∷ more) h = (before a b h.0.0, rises_from b more h.1)

rises : (ids : List Spot) → IsStrictlySortedBy spot_cmp ids → IsRising ids
rises [] h = tt
rises (a ∷ ps) h = rises_from a ps h

pub rising_of : (xs ys : List Spot) → IsSorted spot_cmp xs → ys ≡ dedup spot_eq xs → IsRising ys
rising_of xs ys s e = subst IsRising (sym e) (rises (dedup spot_eq xs) (IsStrictlySortedBy-dedup spot_total spot_ties xs s))

pub members_of : (S xs ys : List Spot) → IsPermutation S xs → ys ≡ dedup spot_eq xs → SameMembers S ys
members_of S xs ys p e s = (
  (λ i. subst (In s) (sym e) (In-from_contains (dedup spot_eq xs) s (Contains-dedup spot_equiv same_spot xs s (Contains-permutation S xs s p (Contains-from_in S s i))))),
  λ i. In-from_contains S s (Contains-permutation xs S s (IsPermutation-sym S xs p) (Contains-from_dedup spot_eq xs s (Contains-from_in (dedup spot_eq xs) s (subst (In s) e i)))),
)
