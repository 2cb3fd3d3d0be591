-- The numbers that a reading gathers give the length, and a decimal has one length alone.
use Rattle.std.proofs.Common.{◌≡◌, ℕ, suc, ◌+◌, ◌*◌, ◌^◌, ◌<◌, ℤ, pos, negsuc, ◌+ℤ◌, ◌-ℤ◌, ◌*ℤ◌, List, length, Option, Some, None, refl, sym, ap, ◌∙◌, arith, subst, cond}
use Rattle.std.specs.Str.Parse.{digits_value}
use Rattle.std.proofs.lemmas.Int.{ints}
use Rattle.std.proofs.lemmas.Nat.{pow-add}
use Rattle.std.proofs.Math.Nat.{mul_assoc}
use Rattle.integer_laws.specs.Laws.Ring as Ring
use Rattle.seq_num.specs.Nearest.{IsNearest, half_up}
use Rattle.seq_num.specs.Laws.Nearest.{half_up_is, nearest_half, IsNearest-neg, nearest_unique}
use Rattle.decimal_lengths.specs.Decimals.{Sign, absent, plus, minus, signed, all_digits, Exponent, exponent_value, fraction_digits, Parts, IsDecimal, mantissa, power}
use Rattle.decimal_lengths.specs.Lengths.{IsRounded, IsLength}
use Rattle.decimal_lengths.specs.Scanning.{Spelled, is_minus, State, reading, IsComplete}
use Rattle.decimal_lengths.specs.Sizes.{ups, downs, size_of}
use Rattle.decimal_lengths.proofs.SizeLaws.{half_up-whole, half_up-factor, ten_pow_pos}
use Rattle.decimal_lengths.proofs.Coming.{exponent_sign, exponent_size, numbers_of, last_phase, comes_through}
use Rattle.decimal_lengths.proofs.Following.{decimal_read}

pub signed-times : (s : Sign) (n m : ℕ) → signed s (n * m) ≡ signed s n *ℤ pos m
signed-times absent n m = refl
signed-times plus n m = refl
signed-times minus n m = sym (Ring.neg-mul (pos n) (pos m))

signed_nearest : (s : Sign) (n d : ℕ) → 0 < d → IsNearest (signed s n) (pos d) (signed s (half_up n d))
signed_nearest absent n d p = nearest_half n d (half_up n d) p (half_up_is n d p)
signed_nearest plus n d p = nearest_half n d (half_up n d) p (half_up_is n d p)
signed_nearest minus n d p = IsNearest-neg (pos n) (pos d) (pos (half_up n d)) (nearest_half n d (half_up n d) p (half_up_is n d p))

rounded_up : (n a b t : ℕ) → a ≡ t + b → half_up (n * 10 ^ a) (10 ^ b) ≡ n * 10 ^ t
rounded_up n a b t e =
    ap (λ k. half_up (n * k) (10 ^ b)) (ap (λ k. 10 ^ k) e ∙ pow-add 10 t b)
    ∙ ap (λ m. half_up m (10 ^ b)) (sym (mul_assoc n (10 ^ t) (10 ^ b)))
    ∙ half_up-whole (n * 10 ^ t) (10 ^ b) (ten_pow_pos b)

rounded_down : (n a b t : ℕ) → b ≡ t + a → half_up (n * 10 ^ a) (10 ^ b) ≡ half_up n (10 ^ t)
rounded_down n a b t e =
    ap (half_up (n * 10 ^ a)) (ap (λ k. 10 ^ k) e ∙ pow-add 10 t a) ∙ half_up-factor n (10 ^ t) (10 ^ a) (ten_pow_pos t) (ten_pow_pos a)

rounded_shift : (s : Sign) (n a b : ℕ) (k : ℤ) → k ≡ pos a -ℤ pos b → IsRounded (signed s n) k (signed s (half_up (n * 10 ^ a) (10 ^ b)))
rounded_shift s n a b (pos t) e = ap (signed s) (rounded_up n a b t (omega (arith, ints))) ∙ signed-times s n (10 ^ t)
rounded_shift s n a b (negsuc t) e =
    rw (rounded_down n a b (suc t) (omega (arith, ints))) (signed_nearest s n (10 ^ suc t) (ten_pow_pos (suc t)))

exponent_shift : (e : Option Exponent) (f : ℕ)
    → (exponent_value e -ℤ pos f) +ℤ pos 3 ≡ pos (3 + cond (is_minus (exponent_sign e)) 0 (exponent_size e)) -ℤ pos (f + cond (is_minus (exponent_sign e)) (exponent_size e) 0)
exponent_shift None f = omega (arith, ints)
exponent_shift (Some e) f = signed_shift e.sign (digits_value 10 e.digits) f
  where
    signed_shift : (s : Sign) (n f : ℕ) → (signed s n -ℤ pos f) +ℤ pos 3 ≡ pos (3 + cond (is_minus s) 0 n) -ℤ pos (f + cond (is_minus s) n 0)
    signed_shift absent n f = omega (arith, ints)
    signed_shift plus n f = omega (arith, ints)
    signed_shift minus n f = omega (arith, ints)

parts_rounded : (p : Parts) → IsRounded (mantissa p) (power p +ℤ pos 3) (signed p.sign (size_of (numbers_of p)))
parts_rounded p = rounded_shift p.sign (digits_value 10 (all_digits p)) (ups (numbers_of p)) (downs (numbers_of p)) (power p +ℤ pos 3) (exponent_shift p.exponent (length (fraction_digits p.fraction)))

abbrev end_of : Parts → State
end_of p = record { phase = last_phase p.fraction p.exponent; numbers = numbers_of p }

-- a reading of a decimal ends with the numbers of its parts
read_end : (bytes : List ℕ) (s : State) (d : IsDecimal bytes) → reading bytes ≡ Some s → s ≡ end_of d.parts
read_end bytes s d e = (let same : Some s ≡ Some (end_of d.parts) = sym e ∙ ap reading d.spelled ∙ comes_through d.parts d.formed in cc)

pub length_read : (bytes : List ℕ) (s : State) → reading bytes ≡ Some s → IsComplete s.phase → IsLength bytes (signed s.numbers.sign (size_of s.numbers))
length_read bytes s e done =
    let d = decimal_read bytes s e done in
    record {
      decimal = d;
      rounded = (let P : State → Type 0 = λ s. IsRounded (mantissa d.parts) (power d.parts +ℤ pos 3) (signed s.numbers.sign (size_of s.numbers)) in
          subst P (sym (read_end bytes s d e)) (parts_rounded d.parts));
    }

rounded_unique : (m k q r : ℤ) → IsRounded m k q → IsRounded m k r → q ≡ r
rounded_unique m (pos k) q r h g = h ∙ sym g
rounded_unique m (negsuc k) q r h g = nearest_unique m (pos (10 ^ suc k)) q r (let p = ten_pow_pos (suc k) in omega (arith, ints)) h g

same_numbers : (bytes : List ℕ) (d e : IsDecimal bytes) → numbers_of d.parts ≡ numbers_of e.parts
same_numbers bytes d e =
    let came : Some (end_of d.parts) ≡ Some (end_of e.parts) = sym (comes_through d.parts d.formed) ∙ ap reading (sym d.spelled ∙ e.spelled) ∙ comes_through e.parts e.formed in
    let same : end_of d.parts ≡ end_of e.parts = cc in
    ap (λ (s : State). s.numbers) same

abbrev IsRoundedOf : ℤ → Spelled → Type 0
IsRoundedOf um x = IsRounded (signed x.sign x.digits) (pos (ups x) -ℤ pos (downs x)) um

of_numbers : (p : Parts) (um : ℤ) → IsRounded (mantissa p) (power p +ℤ pos 3) um → IsRoundedOf um (numbers_of p)
of_numbers p um h =
    let P : ℤ → Type 0 = λ k. IsRounded (mantissa p) k um in
    subst P (exponent_shift p.exponent (length (fraction_digits p.fraction))) h

pub one_length : (bytes : List ℕ) (q r : ℤ) → IsLength bytes q → IsLength bytes r → q ≡ r
one_length bytes q r h g =
    let x = numbers_of g.decimal.parts in
    let P : Spelled → Type 0 = IsRoundedOf q in
    let first : IsRoundedOf q x = subst P (same_numbers bytes h.decimal g.decimal) (of_numbers h.decimal.parts q h.rounded) in
    rounded_unique (signed x.sign x.digits) (pos (ups x) -ℤ pos (downs x)) q r first (of_numbers g.decimal.parts r g.rounded)
