-- Digits without a leading zero are the decimal digits of their value, and of no other number.
use Rattle.std.proofs.Common.{◌≡◌, ◌≢◌, ℕ, zero, suc, ◌+◌, ◌*◌, ◌-◌, ◌/◌, ◌%◌, ◌<◌, ◌≤◌, ◌^◌, List, [], ◌∷◌, ◌++◌, length, get_or, take, decimal, refl, sym, ap, ◌∙◌, arith, subst}
use Rattle.std.proofs.lemmas.List.{get_or_append_left, length_push, take_more}
use Rattle.std.proofs.lemmas.Fmt.{decimal_is_IsNumeral_wide, decimal_step_wide, decimal_digit, decimal_by_steps_wide}
use Rattle.std.proofs.lemmas.Str.Parse.{digits_value-take-le, digit_at}
use Rattle.std.specs.Str.Parse.{digits_value, AllDigits}
use Rattle.seq_num.specs.Spelling.{IsDigitsOf}

-- how the digits of n begin
pub record BeginsDigits (n : ℕ) (ds : List ℕ) : Type 0 where
  pub some : 0 < length ds
  pub first : 0 < n → 48 < get_or ds 0 0
  pub single : n ≡ 0 → length ds ≡ 1

pub decimal_begins : (n : ℕ) → n < 10 ^ 64 → BeginsDigits n (decimal n)
decimal_begins n h =
    decimal_by_steps_wide BeginsDigits
    (λ n small. record { some = omega arith; first = λ p. omega arith; single = λ z. refl })
    (λ n ds big ih. record {
      some = omega (arith, length_push ds (48 + n % 10));
      first = λ p. (let k : 48 < get_or ds 0 0 = ih.first (omega arith) in let some : 0 < length ds = ih.some in rw get_or_append_left k);
      single = λ z. absurd (omega arith);
    }) n h

pub decimal_value : (n : ℕ) → n < 10 ^ 64 → digits_value 10 (decimal n) ≡ n
decimal_value n small = (decimal_is_IsNumeral_wide n small).1

pub decimal_all_digits : (n : ℕ) → n < 10 ^ 64 → AllDigits 10 (decimal n)
decimal_all_digits n small = (decimal_is_IsNumeral_wide n small).0.1

pub no_leading_zero : (bs : List ℕ) (n : ℕ) → n < 10 ^ 64 → bs ≡ decimal n → get_or bs 0 0 ≡ 48 → length bs ≡ 1
no_leading_zero bs zero small e z = ap length e ∙ (decimal_begins 0 small).single refl
no_leading_zero bs (suc n) small e z =
    let s = decimal_begins (suc n) small in
    let f : get_or bs 0 0 ≡ get_or (decimal (suc n)) 0 0 = ap (λ l. get_or l 0 0) e in
    absurd (omega (arith, s.first (omega arith)))

pub not_empty : (bs : List ℕ) (n : ℕ) → n < 10 ^ 64 → bs ≡ decimal n → 0 < length bs
not_empty bs n small e = let s = decimal_begins n small in omega (arith, ap length e, s.some)

pub each_digit : (bs : List ℕ) (n i : ℕ) → n < 10 ^ 64 → bs ≡ decimal n → i < length bs → (48 ≤ get_or bs i 0) × (get_or bs i 0 ≤ 57)
each_digit bs n i small e h =
    let P : List ℕ → Type 0 = λ l. AllDigits 10 l in
    digit_at bs i (subst P (sym e) (decimal_all_digits n small)) h

pub decimal_digits : (n : ℕ) → n < 2 ^ 100 → IsDigitsOf n (decimal n)
decimal_digits n small =
    record {
      numeral = (decimal_is_IsNumeral_wide n (omega arith)).0;
      value = decimal_value n (omega arith);
      first = no_leading_zero (decimal n) n (omega arith) refl;
    }

pub same_number : (m n : ℕ) → m < 10 ^ 64 → n < 10 ^ 64 → decimal m ≡ decimal n → m ≡ n
same_number m n h k e = sym (decimal_value m h) ∙ ap (digits_value 10) e ∙ decimal_value n k

-- the first i digits are those of n
pub record Front (bs : List ℕ) (i n : ℕ) : Type 0 where
  pub none : i ≡ 0 → n ≡ 0
  pub spelled : 0 < i → decimal n ≡ take i bs
  pub positive : 0 < i → 0 < n

-- one digit more
pub front_more : (bs : List ℕ) (i n d : ℕ) → i < length bs → d ≡ get_or bs i 0 - 48 → (48 ≤ get_or bs i 0) × (get_or bs i 0 ≤ 57) → get_or bs 0 0 ≢ 48 → n * 10 + d < 10 ^ 64 → Front bs i n → Front bs (i + 1) (n * 10 + d)
front_more bs zero n d h is digit nonzero big f =
    let e : 48 + d ≡ get_or bs 0 0 = omega arith in
    let small : d < 10 = omega arith in
    let z : n ≡ 0 = f.none refl in
    let v : n * 10 + d ≡ d = omega arith in
    record {
      none = λ z. absurd (omega arith);
      spelled = λ _. ap decimal v ∙ decimal_digit d small ∙ ap (λ x. x ∷ []) e ∙ sym (take_more bs 0 0 h);
      positive = λ _. omega arith;
    }
front_more bs (suc i) n d h is digit nonzero big f =
    let small : d < 10 = omega arith in
    let p : 0 < n = f.positive (omega arith) in
    let s : decimal n ≡ take (suc i) bs = f.spelled (omega arith) in
    let q : (n * 10 + d) / 10 ≡ n = omega arith in
    let r : 48 + (n * 10 + d) % 10 ≡ get_or bs (suc i) 0 = omega arith in
    record {
      none = λ z. absurd (omega arith);
      spelled = λ _. decimal_step_wide (n * 10 + d) (omega arith) big ∙ ap (λ m. decimal m ++ (48 + (n * 10 + d) % 10) ∷ []) q ∙ ap (λ l. l ++ (48 + (n * 10 + d) % 10) ∷ []) s ∙ ap (λ x. take (suc i) bs ++ x ∷ []) r ∙ sym (take_more bs (suc i) 0 h);
      positive = λ _. omega arith;
    }

-- more digits are of no smaller number
pub front_at_most : (bs : List ℕ) (i n m : ℕ) → 0 < i → n < 10 ^ 64 → m < 10 ^ 64 → Front bs i n → bs ≡ decimal m → n ≤ m
front_at_most bs i n m p small_n small_m f e =
    let c : digits_value 10 (take i bs) ≡ n = ap (digits_value 10) (sym (f.spelled p)) ∙ decimal_value n small_n in
    let d : digits_value 10 bs ≡ m = ap (digits_value 10) e ∙ decimal_value m small_m in
    omega (arith, digits_value-take-le 10 bs i (omega arith))
