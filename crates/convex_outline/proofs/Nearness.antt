-- From the order of near spots to the corners of any list with the same members, and to the clauses of `hull`.
use Rattle.std.proofs.Common.{◌<◌, ◌≤◌, List, length, arith, ℤ, pos, negsuc, neg_ℤ, ◌-ℤ◌, ◌≤ℤ◌, ◌<ℤ◌, All, Contains, unsigned_abs}
use Rattle.std.specs.Prelude.{◌↔◌}
use Rattle.std.proofs.lemmas.Int.{ints}
use Rattle.integer_laws.specs.Laws.Members.{All-in, All-from_in, Contains-from_in}
use Rattle.seq_model.specs.declared.printer.Spot.{Spot}
use Rattle.seq_model.specs.Points.{Point, at_spot}
use Rattle.seq_model.specs.Outlines.{Inner, Within}
use Rattle.outline_laws.specs.Corners.{IsNarrow}
use Rattle.outline_laws.specs.Chains.{IsRising, SameMembers, both_chains}
use Rattle.outline_laws.specs.Hulls.{Hull}
use Rattle.outline_laws.specs.Laws.Keeping.{keeps_as, short_hull}
use Rattle.outline_laws.specs.Laws.EveryList.{Wide, rising_hull}

low_end : (y : ℤ) → unsigned_abs y < 2097152 → (neg_ℤ (pos 2097151) ≤ℤ y) × (y ≤ℤ pos 2097151)
low_end (pos n) h = (omega (arith, ints), omega (arith, ints))
low_end (negsuc n) h = (omega (arith, ints), omega (arith, ints))

near_wide : (S : List Spot) → All IsNarrow S → Wide (pos 4194304) S
near_wide S near = record { least = omega (arith, ints); apart = λ a b i j. apart a.y b.y (low_end a.y (All-in IsNarrow S a near i).1).1 (low_end b.y (All-in IsNarrow S b near j).1).0 }
  where
    apart : (x y : ℤ) → x ≤ℤ pos 2097151 → neg_ℤ (pos 2097151) ≤ℤ y → (x -ℤ y) <ℤ pos 4194304
    apart x y h k = omega (arith, ints)

pub near_hull : (S xs : List Spot) → SameMembers S xs → All IsNarrow xs → IsRising xs → 2 ≤ length xs → Hull S (both_chains xs)
near_hull S xs same near rising long =
    let h = rising_hull (pos 4194304) xs (near_wide xs near) rising long in
    record { corners = h.corners; keeps = keeps_as xs S (both_chains xs) (λ s i. (same s).1 i) (λ s i. (same s).0 i) h.keeps }

pub alone_hull : (S xs : List Spot) → SameMembers S xs → length xs < 2 → Hull S xs
alone_hull S xs same short =
    let h = short_hull xs short in
    record { corners = h.corners; keeps = keeps_as xs S xs (λ s i. (same s).1 i) (λ s i. (same s).0 i) h.keeps }

-- the clauses of `hull`
pub members_of_hull : (S C : List Spot) → Hull S C → All (Contains S) C
members_of_hull S C h = All-from_in (Contains S) C (λ s i. Contains-from_in S s (h.keeps.members s i))

pub within_hull : (S C : List Spot) → Hull S C → All (λ s. Within C (at_spot s)) S
within_hull S C h = All-from_in (λ s. Within C (at_spot s)) S (λ s i. h.keeps.within s i)

pub inner_hull : (S C : List Spot) → Hull S C → (q : Point) → Inner C q ↔ Inner S q
inner_hull S C h q = (h.keeps.to_list q, h.keeps.to_corners q)

pub narrow_hull : (S C : List Spot) → Hull S C → All IsNarrow S → All IsNarrow C
narrow_hull S C h near = All-from_in IsNarrow C (λ s i. All-in IsNarrow S s near (h.keeps.members s i))
