-- The derived equality of spots, and of lists of them.
use Rattle.std.proofs.Common.{◌≡◌, Bool, true, List, ap₂, subst, arith, ℤ}
use Rattle.std.specs.Bool.{Decides}
use Rattle.std.specs.Ordering.{int_eq, on, eq_of_both}
use Rattle.std.specs.Cmp.Lexicographic.{pointwise}
use Rattle.std.specs.Prelude.{IsTrue, ◌↔◌}
use Rattle.std.proofs.lemmas.Int.{ints}
use Rattle.std.proofs.lemmas.Bool.Decides.{nat_tests}
use Rattle.std.proofs.lemmas.Slice.Eq.{slice_eq-Decides}
use Rattle.seq_model.specs.declared.printer.Spot.{Spot}

abbrev pub spot_eq : Spot → Spot → Bool
spot_eq = eq_of_both (on (λ (s : Spot). s.x) int_eq) (on (λ (s : Spot). s.y) int_eq)

abbrev spot : ℤ → ℤ → Spot
spot x y = record { x = x; y = y }

same_spots : (a b : Spot) → Decides (spot_eq a b) (a ≡ b)
same_spots a b = (same, back)
  where
    same : spot_eq a b ≡ true → a ≡ b
    same e =
        let x : a.x ≡ b.x = grind (arith, ints, nat_tests) in
        let y : a.y ≡ b.y = grind (arith, ints, nat_tests) in
        ap₂ spot x y

    itself : (s : Spot) → spot_eq s s ≡ true
    itself s = grind (arith, ints, nat_tests)

    back : a ≡ b → spot_eq a b ≡ true
    back e = subst (λ s. spot_eq a s ≡ true) e (itself a)

pub same_lists : (xs ys : List Spot) (r : Bool) → r ≡ pointwise spot_eq xs ys → IsTrue r ↔ (xs ≡ ys)
same_lists xs ys r e = slice_eq-Decides same_spots xs ys r e
