-- A mesh that is from 0 to 100 mm high has at most ten bands of 10 mm.
use Rattle.std.proofs.Common.{◌≤◌, ℤ, pos, neg_ℤ, ◌≤ℤ◌, List, [], ◌∷◌, fold, max, unsigned_abs, arith}
use Rattle.std.proofs.lemmas.Int.{ints, clamps}
use Rattle.std.specs.Int.{int_max, int_min}
use Rattle.integer_laws.specs.Extremes.{greatest, least}
use Rattle.integer_laws.specs.Laws.Quotients.{ceil_is}
use Rattle.integer_laws.specs.Quotients.{IsCeil, ceil}
use Rattle.seq_model.specs.Bands.{band_count, height_of, heights}
use Rattle.seq_model.specs.declared.mesh.Facet.{Facet}
use Rattle.trial_laws.specs.Laws.Solids.{AreLow, IsLow}

max_low : (a b : ℤ) → IsLow a → IsLow b → IsLow (int_max a b)
max_low a b p q = (omega (arith, ints, clamps, p.0, q.0), omega (arith, ints, clamps, p.1, q.1))

min_low : (a b : ℤ) → IsLow a → IsLow b → IsLow (int_min a b)
min_low a b p q = (omega (arith, ints, clamps, p.0, q.0), omega (arith, ints, clamps, p.1, q.1))

greatest_from : (fs : List Facet) (x : ℤ) → IsLow x → AreLow fs → IsLow (fold int_max x (heights fs))
greatest_from [] x low all = low
greatest_from (f ∷ fs) x low all =
    greatest_from fs (int_max (int_max (int_max x f.a.z) f.b.z) f.c.z)
    (max_low (int_max (int_max x f.a.z) f.b.z) f.c.z (max_low (int_max x f.a.z) f.b.z (max_low x f.a.z low all.0.0) all.0.1) all.0.2) all.1

least_from : (fs : List Facet) (x : ℤ) → IsLow x → AreLow fs → IsLow (fold int_min x (heights fs))
least_from [] x low all = low
least_from (f ∷ fs) x low all =
    least_from fs (int_min (int_min (int_min x f.a.z) f.b.z) f.c.z)
    (min_low (int_min (int_min x f.a.z) f.b.z) f.c.z (min_low (int_min x f.a.z) f.b.z (min_low x f.a.z low all.0.0) all.0.1) all.0.2) all.1

greatest_low : (fs : List Facet) → AreLow fs → IsLow (greatest (heights fs))
greatest_low [] all = (omega (arith, ints), omega (arith, ints))
greatest_low (f ∷ fs) all = greatest_from fs (int_max (int_max f.a.z f.b.z) f.c.z) (max_low (int_max f.a.z f.b.z) f.c.z (max_low f.a.z f.b.z all.0.0 all.0.1) all.0.2) all.1

least_low : (fs : List Facet) → AreLow fs → IsLow (least (heights fs))
least_low [] all = (omega (arith, ints), omega (arith, ints))
least_low (f ∷ fs) all = least_from fs (int_min (int_min f.a.z f.b.z) f.c.z) (min_low (int_min f.a.z f.b.z) f.c.z (min_low f.a.z f.b.z all.0.0 all.0.1) all.0.2) all.1

ten : (h q : ℤ) → h ≤ℤ pos 100_000 → neg_ℤ (pos 100_000) ≤ℤ h → IsCeil h (pos 10_000) q → max 1 (unsigned_abs q) ≤ 10
ten h q above below c = omega (arith, ints, above, below, c.low, c.high)

pub ten_bands : (fs : List Facet) → AreLow fs → band_count fs (pos 10_000) ≤ 10
ten_bands fs all =
    let high = greatest_low fs all in
    let low = least_low fs all in
    let above : height_of fs ≤ℤ pos 100_000 = omega (arith, ints, high.1, low.0) in
    let below : neg_ℤ (pos 100_000) ≤ℤ height_of fs = omega (arith, ints, high.0, low.1) in
    ten (height_of fs) (ceil (height_of fs) (pos 10_000)) above below (ceil_is (height_of fs) (pos 10_000) (omega (arith, ints)))
