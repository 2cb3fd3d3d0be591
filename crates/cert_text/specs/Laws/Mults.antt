-- Pairs none of which is too great fit the types of multipliers.
use Rattle.std.proofs.Common.{◌≡◌, pos, ◌≤ℤ◌, List, [], ◌∷◌, Bool, true, false, ◌||◌, refl, All, arith}
use Rattle.std.proofs.lemmas.Int.{ints}
use Rattle.std.proofs.lemmas.Bool.Decides.{nat_tests}
use Rattle.std.proofs.lemmas.List.Elements.{All-nil, All-cons, All-head, All-tail}
use Rattle.std.specs.List.{list_any}
use Rattle.cert_text.specs.Lines.{is_far_pair, is_big}
use Rattle.cert_text.specs.declared.pairs.Pair.{Pair}

pub record IsDue (p : Pair) : Type 0 where
  pub row : pos 0 ≤ℤ p.row
  pub times : pos 0 ≤ℤ p.times

pub record IsFitting (p : Pair) : Type 0 where
  pub row_low : pos 0 ≤ℤ p.row
  pub row_high : p.row ≤ℤ pos 4_294_967_295
  pub times_low : pos 0 ≤ℤ p.times
  pub times_high : p.times ≤ℤ pos 4_611_686_018_427_387_903

one_fits : (p : Pair) → IsDue p → is_far_pair p ≡ false → is_big p ≡ false → IsFitting p
one_fits p d f b = record { row_low = d.row; row_high = grind (arith, nat_tests, ints, f); times_low = d.times; times_high = grind (arith, nat_tests, ints, b) }

neither : (a b : Bool) → (a || b) ≡ false → (a ≡ false) × (b ≡ false)
neither true b e = absurd cc
neither false b e = (refl, e)

pub all_fit : (ps : List Pair) → All IsDue ps → list_any is_far_pair ps ≡ false → list_any is_big ps ≡ false → All IsFitting ps
all_fit [] d f b = All-nil IsFitting
all_fit (p ∷ ps) d f b =
    let far = neither (is_far_pair p) (list_any is_far_pair ps) f in
    let big = neither (is_big p) (list_any is_big ps) b in
    All-cons IsFitting p ps (one_fits p (All-head IsDue p ps d) far.0 big.0) (all_fit ps (All-tail IsDue p ps d) far.1 big.1)
