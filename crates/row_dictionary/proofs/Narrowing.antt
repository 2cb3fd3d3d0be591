-- Where all numbers are below 2^30 in size, a pivoted line is small.
use Rattle.std.proofs.Common.{◌≡◌, ℕ, suc, ◌<◌, ◌≤◌, ◌^◌, List, length, get_or, sym, subst, arith, ℤ, pos, negsuc, ◌-ℤ◌, ◌*ℤ◌, Bool, true, false, unsigned_abs, int_div, All, div-le_self}
use Rattle.std.proofs.lemmas.Int.{ints, unsigned_abs-mul}
use Rattle.std.proofs.lemmas.List.Elements.{All-get_or}
use Rattle.std.specs.Prelude.{nat_eq, if◌then◌else◌}
use Rattle.integer_laws.specs.Laws.Steps.{product_below}
use Rattle.row_pivots.specs.Ends.{Small}
use Rattle.row_dictionary.specs.Mixing.{mixed, mixed_line, Narrow, IsNarrowMix}
use Rattle.row_dictionary.specs.declared.number.Mix.{Mix}
use Rattle.row_dictionary.proofs.Numbers.{quotient_is, long_line}

pub quot_size : (a d : ℤ) → 0 < unsigned_abs d → unsigned_abs (int_div a d) ≤ unsigned_abs a
quot_size (pos a) (pos d) h = div-le_self a d
quot_size (negsuc a) (pos d) h = let k = div-le_self (suc a) d in omega (arith, ints, k)
quot_size (pos a) (negsuc d) h = let k = div-le_self a (suc d) in omega (arith, ints, k)
quot_size (negsuc a) (negsuc d) h = div-le_self (suc a) (suc d)

product_size : (x y : ℤ) → Narrow x → Narrow y → unsigned_abs (x *ℤ y) < 2 ^ 60
product_size x y h k = subst (λ t. t < 2 ^ 60) (sym (unsigned_abs-mul x y)) (product_below (unsigned_abs x) (unsigned_abs y) (2 ^ 30) (2 ^ 30) h k)

number_size : (m : Mix) (j : ℕ) (z y : ℤ) → IsNarrowMix m → Narrow z → Narrow y → Small (mixed m j z y)
number_size m j z y n h k = by (nat_eq j m.place)
  where
    apart : (a b : ℤ) → unsigned_abs a < 2 ^ 60 → unsigned_abs b < 2 ^ 60 → unsigned_abs (a -ℤ b) < 2 ^ 62
    apart a b h k = omega (arith, ints, h, k)

    by : (b : Bool) → Small (if b then m.d *ℤ m.q else m.p *ℤ z -ℤ m.q *ℤ y)
    by true = let s = product_size m.d m.q n.0 n.2 in omega (arith, s)
    by false = apart (m.p *ℤ z) (m.q *ℤ y) (product_size m.p z n.1 h) (product_size m.q y n.2 k)

pub narrow_line : (m : Mix) (zs ys : List ℤ) → length zs ≡ length ys → 0 < unsigned_abs m.g → IsNarrowMix m → All Narrow zs → All Narrow ys → All Small (mixed_line m zs ys)
narrow_line m zs ys l g n hz hy = λ i d h.
    let k = long_line m zs ys l in
    let within : i < length zs = omega (arith, k, h) in
    let within_y : i < length ys = omega (arith, l, within) in
    let s = number_size m i (get_or zs i (pos 0)) (get_or ys i (pos 0)) n (All-get_or Narrow zs i (pos 0) within hz) (All-get_or Narrow ys i (pos 0) within_y hy) in
    let q = quot_size (mixed m i (get_or zs i (pos 0)) (get_or ys i (pos 0))) m.g g in
    subst Small (quotient_is m zs ys i d l within) (at_most q s)
  where
    at_most : {a b : ℕ} → a ≤ b → b < 2 ^ 62 → a < 2 ^ 62
    at_most h k = omega (arith, h, k)
