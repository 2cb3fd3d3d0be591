-- What is written is read again.
use Rattle.std.proofs.Common.{◌≡◌, ℕ, zero, suc, ◌+◌, ◌*◌, ◌/◌, ◌%◌, ◌^◌, ◌<◌, ◌≤◌, ℤ, pos, negsuc, ◌+ℤ◌, ◌-ℤ◌, unsigned_abs, List, [], ◌∷◌, ◌++◌, length, Option, Some, None, refl, sym, ap, ap₂, ◌∙◌, arith, subst, decimal, take, slice_set, ◌<ℤ◌, ⊎_elim}
use Rattle.std.proofs.lemmas.Bool.{cases_lt}
use Rattle.std.proofs.lemmas.Int.{ints}
use Rattle.std.proofs.lemmas.Bool.Decides.{nat_tests}
use Rattle.std.proofs.lemmas.List.{append-nil, length-append}
use Rattle.std.proofs.lemmas.Fmt.{decimal_is_IsNumeral}
use Rattle.std.specs.Char.{digit_value}
use Rattle.std.specs.Str.Parse.{digits_value, digits_value_after, AllDigits}
use Rattle.decimal_lengths.specs.Decimals.{Sign, absent, minus, sign_text, signed, fraction_text, fraction_digits, Parts, text, IsFormed, mantissa, power}
use Rattle.decimal_lengths.specs.Lengths.{IsRounded, IsReadAs}
use Rattle.decimal_lengths.proofs.Coming.{digits_value-append}
use Rattle.decimal_lengths.proofs.Measuring.{signed-times}
use Rattle.decimal_lengths.specs.Spelling.{three_digits, thousandths, sign_of_length, millimetres}

digit_value-of : (d : ℕ) → d < 10 → digit_value (48 + d) ≡ d
digit_value-of d h = grind (arith, nat_tests)

-- n thousandths as digits behind a point
record Fraction (n : ℕ) : Type 0 where
  fraction : Option (List ℕ)
  written : thousandths n ≡ fraction_text fraction
  digits : AllDigits 10 (fraction_digits fraction)
  places : ℕ
  filled : length (fraction_digits fraction) + places ≡ 3
  value : (w : ℕ) → digits_value_after 10 w (fraction_digits fraction) * 10 ^ places ≡ w * 1000 + n

none_behind : Fraction 0
none_behind = record { fraction = None; written = refl; digits = tt; places = 3; filled = refl; value = λ w. omega arith }

one_trimmed : (n : ℕ) → 0 < n → n < 1000 → n % 100 ≡ 0 → thousandths n ≡ 46 ∷ (48 + n / 100) ∷ []
one_trimmed n some few e = grind (arith, nat_tests)

two_trimmed : (n : ℕ) → n < 1000 → 0 < n % 100 → n % 10 ≡ 0 → thousandths n ≡ 46 ∷ (48 + n / 100) ∷ (48 + n / 10 % 10) ∷ []
two_trimmed n few some e = grind (arith, nat_tests)

three_trimmed : (n : ℕ) → n < 1000 → 0 < n % 10 → thousandths n ≡ 46 ∷ three_digits n
three_trimmed n few some = grind (arith, nat_tests)

one_behind : (n : ℕ) → 0 < n → n < 1000 → n % 100 ≡ 0 → Fraction n
one_behind n some few e =
    let first : digit_value (48 + n / 100) ≡ n / 100 = digit_value-of (n / 100) (omega arith) in
    record {
      fraction = Some ((48 + n / 100) ∷ []);
      written = one_trimmed n some few e;
      digits = (omega arith, tt);
      places = 2;
      filled = refl;
      value = λ w. omega arith;
    }

two_behind : (n : ℕ) → n < 1000 → 0 < n % 100 → n % 10 ≡ 0 → Fraction n
two_behind n few some e =
    let first : digit_value (48 + n / 100) ≡ n / 100 = digit_value-of (n / 100) (omega arith) in
    let second : digit_value (48 + n / 10 % 10) ≡ n / 10 % 10 = digit_value-of (n / 10 % 10) (omega arith) in
    record {
      fraction = Some ((48 + n / 100) ∷ (48 + n / 10 % 10) ∷ []);
      written = two_trimmed n few some e;
      digits = (omega arith, (omega arith, tt));
      places = 1;
      filled = refl;
      value = λ w. omega arith;
    }

three_behind : (n : ℕ) → n < 1000 → 0 < n % 10 → Fraction n
three_behind n few some =
    let first : digit_value (48 + n / 100) ≡ n / 100 = digit_value-of (n / 100) (omega arith) in
    let second : digit_value (48 + n / 10 % 10) ≡ n / 10 % 10 = digit_value-of (n / 10 % 10) (omega arith) in
    let third : digit_value (48 + n % 10) ≡ n % 10 = digit_value-of (n % 10) (omega arith) in
    record {
      fraction = Some (three_digits n);
      written = three_trimmed n few some;
      digits = (omega arith, (omega arith, (omega arith, tt)));
      places = 0;
      filled = refl;
      value = λ w. omega arith;
    }

hundreds_behind : (n : ℕ) → n < 1000 → n % 100 ≡ 0 → Fraction n
hundreds_behind zero few e = none_behind
hundreds_behind (suc n) few e = one_behind (suc n) (omega arith) few e

tens_behind : (n : ℕ) → n < 1000 → n % 10 ≡ 0 → Fraction n
tens_behind n few e = ⊎_elim (λ h. two_behind n few h e) (λ h. hundreds_behind n few (omega arith)) (cases_lt 0 (n % 100))

behind : (n : ℕ) → n < 1000 → Fraction n
behind n few = ⊎_elim (λ h. three_behind n few h) (λ h. tens_behind n few (omega arith)) (cases_lt 0 (n % 10))

sign_behind : (um : ℤ) → Sign
sign_behind (pos n) = absent
sign_behind (negsuc n) = minus

sign_written : (um : ℤ) → sign_of_length um ≡ sign_text (sign_behind um)
unfolding sign_behind
sign_written (pos n) = refl
sign_written (negsuc n) = refl

signed_size : (um : ℤ) → signed (sign_behind um) (unsigned_abs um) ≡ um
unfolding sign_behind
signed_size (pos n) = refl
signed_size (negsuc n) = omega (arith, ints)

-- the parts that are written
parts_of : (um : ℤ) → Fraction (unsigned_abs um % 1000) → Parts
parts_of um f = record { sign = sign_behind um; whole = decimal (unsigned_abs um / 1000); fraction = f.fraction; exponent = None }

AllDigits-both : (xs ys : List ℕ) → AllDigits 10 xs → AllDigits 10 ys → AllDigits 10 (xs ++ ys)
AllDigits-both [] ys h k = k
AllDigits-both (c ∷ cs) ys h k = (h.0, AllDigits-both cs ys h.1 k)

digits_value-whole : (w : ℕ) (ds : List ℕ) → w < 2 ^ 64 → digits_value 10 (decimal w ++ ds) ≡ digits_value_after 10 w ds
digits_value-whole w ds small = digits_value-append 0 (decimal w) ds ∙ ap (λ v. digits_value_after 10 v ds) (decimal_is_IsNumeral w small).1

formed : (um : ℤ) (f : Fraction (unsigned_abs um % 1000)) → unsigned_abs um / 1000 < 2 ^ 64 → IsFormed (parts_of um f)
unfolding parts_of
formed um f small =
    let whole = decimal_is_IsNumeral (unsigned_abs um / 1000) small in
    record {
      digits = (omega (arith, whole.0.0, length-append (decimal (unsigned_abs um / 1000)) (fraction_digits f.fraction)), AllDigits-both (decimal (unsigned_abs um / 1000)) (fraction_digits f.fraction) whole.0.1 f.digits);
      exponent = tt;
    }

written : (um : ℤ) (f : Fraction (unsigned_abs um % 1000)) → millimetres um ≡ text (parts_of um f)
unfolding parts_of
written um f =
    let whole = decimal (unsigned_abs um / 1000) in
    ap₂ (λ s t. s ++ (whole ++ t)) (sign_written um) (f.written ∙ sym (append-nil (fraction_text f.fraction)))

rounded : (um : ℤ) (f : Fraction (unsigned_abs um % 1000)) → unsigned_abs um / 1000 < 2 ^ 64 → IsRounded (mantissa (parts_of um f)) (power (parts_of um f) +ℤ pos 3) um
unfolding parts_of
rounded um f small =
    let n = unsigned_abs um in
    let digits = fraction_digits f.fraction in
    let places : pos 0 -ℤ pos (length digits) +ℤ pos 3 ≡ pos f.places = (let e = f.filled in omega (arith, ints)) in
    let value : digits_value 10 (decimal (n / 1000) ++ digits) * 10 ^ f.places ≡ n = ap (λ v. v * 10 ^ f.places) (digits_value-whole (n / 1000) digits small) ∙ f.value (n / 1000) ∙ omega arith in
    let P : ℤ → Type 0 = λ k. IsRounded (signed (sign_behind um) (digits_value 10 (decimal (n / 1000) ++ digits))) k um in
    subst P (sym places) (sym (signed_size um) ∙ ap (signed (sign_behind um)) (sym value) ∙ signed-times (sign_behind um) _ (10 ^ f.places))

pub spelled_reads : (um : ℤ) → unsigned_abs um ≤ 10000000 → length (millimetres um) ≤ 64 → IsReadAs (millimetres um) um
spelled_reads um near short =
    let f = behind (unsigned_abs um % 1000) (omega arith) in
    let small : unsigned_abs um / 1000 < 2 ^ 64 = omega arith in
    record {
      short = short;
      value = record {
        decimal = record { parts = parts_of um f; formed = formed um f small; spelled = written um f };
        rounded = rounded um f small;
      };
      near = near;
    }

pub sign_put : (um : ℤ) (bytes : List ℕ) → 0 < length bytes → um <ℤ pos 0 → take 1 (slice_set bytes 0 45) ≡ sign_of_length um
sign_put (pos n) bytes some h = absurd (omega (arith, ints))
sign_put (negsuc n) [] some h = absurd (omega arith)
sign_put (negsuc n) (c ∷ cs) some h = refl
