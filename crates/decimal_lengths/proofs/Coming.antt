-- A reading comes through each decimal, and gathers its numbers.
use Rattle.std.proofs.Common.{◌≡◌, ℕ, ◌+◌, ◌*◌, List, [], ◌∷◌, ◌++◌, length, Bool, true, false, Option, Some, None, IfSome, refl, ap, sym, ◌∙◌, fold, arith, add-zero, zero-add, codes, if◌then◌else◌, ap₂, append_assoc}
use Rattle.std.proofs.lemmas.List.Sums.{fold-append}
use Rattle.std.proofs.lemmas.List.{append-nil}
use Rattle.std.specs.Char.{digit_value}
use Rattle.std.specs.Str.Parse.{digits_value, digits_value_after, AllDigits, IsNumeral}
use Rattle.decimal_lengths.specs.declared.scanning.Phase.{Phase}
use Rattle.decimal_lengths.specs.declared.scanning.Phase.TheVariants as Phases
use Rattle.decimal_lengths.specs.Decimals.{Sign, absent, plus, minus, sign_text, Exponent, exponent_text, fraction_text, fraction_digits, Parts, text, all_digits, IsFormed}
use Rattle.decimal_lengths.specs.Scanning.{Spelled, nothing, State, step, start, reading, IsComplete}
use Rattle.decimal_lengths.proofs.KindLaws.{kind_of-digit}

-- the state in a phase
abbrev pub at : Phase → Spelled → Option State
at phase x = Some (record { phase = phase; numbers = x })

-- the digits go on with those of x
abbrev pub with_whole : Spelled → List ℕ → Spelled
with_whole x ds = record x { digits = digits_value_after 10 x.digits ds }

abbrev pub with_fraction : Spelled → List ℕ → Spelled
with_fraction x ds = record x { digits = digits_value_after 10 x.digits ds; fraction = x.fraction + length ds }

abbrev pub with_exponent : Spelled → List ℕ → Spelled
with_exponent x ds = record x { exponent = digits_value_after 10 x.exponent ds }

-- digits that leave the phase as it is
whole_run : (x : Spelled) (ds : List ℕ) → AllDigits 10 ds → fold step (at Phases.Whole x) ds ≡ at Phases.Whole (with_whole x ds)
whole_run x [] h = refl
whole_run x (c ∷ cs) h = rw (kind_of-digit c h.0) (whole_run (record x { digits = x.digits * 10 + digit_value c }) cs h.1)

fraction_run : (x : Spelled) (ds : List ℕ) → AllDigits 10 ds → fold step (at Phases.Fraction x) ds ≡ at Phases.Fraction (with_fraction x ds)
fraction_run x [] h = ap (λ n. at Phases.Fraction (record x { fraction = n })) (sym (add-zero x.fraction))
fraction_run x (c ∷ cs) h =
    let more : x.fraction + 1 + length cs ≡ x.fraction + length (c ∷ cs) = omega arith in
    rw (kind_of-digit c h.0) (fraction_run (record x { digits = x.digits * 10 + digit_value c; fraction = x.fraction + 1 }) cs h.1
    ∙ ap (λ n. at Phases.Fraction (record x { digits = digits_value_after 10 (x.digits * 10 + digit_value c) cs; fraction = n })) more)

exponent_run : (x : Spelled) (ds : List ℕ) → AllDigits 10 ds → fold step (at Phases.Exponent x) ds ≡ at Phases.Exponent (with_exponent x ds)
exponent_run x [] h = refl
exponent_run x (c ∷ cs) h = rw (kind_of-digit c h.0) (exponent_run (record x { exponent = x.exponent * 10 + digit_value c }) cs h.1)

-- the phase behind a sign, and that behind the digits and the point
abbrev pub front_phase : Sign → Phase
front_phase absent = Phases.Start
front_phase plus = Phases.Signed
front_phase minus = Phases.Signed

abbrev pub digits_phase : Option (List ℕ) → Phase
digits_phase None = Phases.Whole
digits_phase (Some ds) = Phases.Fraction

-- digits and points that lead into a phase
whole_enter : (s : Sign) (x : Spelled) (c : ℕ) (cs : List ℕ) → AllDigits 10 (c ∷ cs) → fold step (at (front_phase s) x) (c ∷ cs) ≡ at Phases.Whole (with_whole x (c ∷ cs))
whole_enter absent x c cs h = rw (kind_of-digit c h.0) (whole_run (record x { digits = x.digits * 10 + digit_value c }) cs h.1)
whole_enter plus x c cs h = rw (kind_of-digit c h.0) (whole_run (record x { digits = x.digits * 10 + digit_value c }) cs h.1)
whole_enter minus x c cs h = rw (kind_of-digit c h.0) (whole_run (record x { digits = x.digits * 10 + digit_value c }) cs h.1)

bare_point : (s : Sign) (x : Spelled) → step (at (front_phase s) x) 46 ≡ at Phases.BarePoint x
bare_point absent x = refl
bare_point plus x = refl
bare_point minus x = refl

bare_fraction : (x : Spelled) (c : ℕ) (cs : List ℕ) → AllDigits 10 (c ∷ cs) → fold step (at Phases.BarePoint x) (c ∷ cs) ≡ at Phases.Fraction (with_fraction x (c ∷ cs))
bare_fraction x c cs h =
    let more : x.fraction + 1 + length cs ≡ x.fraction + length (c ∷ cs) = omega arith in
    rw (kind_of-digit c h.0) (fraction_run (record x { digits = x.digits * 10 + digit_value c; fraction = x.fraction + 1 }) cs h.1
    ∙ ap (λ n. at Phases.Fraction (record x { digits = digits_value_after 10 (x.digits * 10 + digit_value c) cs; fraction = n })) more)

abbrev pub with_point : Spelled → Option (List ℕ) → Spelled
with_point x None = x
with_point x (Some ds) = with_fraction x ds

pub AllDigits-append : (xs ys : List ℕ) → AllDigits 10 (xs ++ ys) → AllDigits 10 xs × AllDigits 10 ys
AllDigits-append [] ys h = (tt, h)
AllDigits-append (c ∷ cs) ys h = let r = AllDigits-append cs ys h.1 in ((h.0, r.0), r.1)

digits_run : (s : Sign) (x : Spelled) (whole : List ℕ) (fraction : Option (List ℕ)) → IsNumeral 10 (whole ++ fraction_digits fraction)
    → fold step (at (front_phase s) x) (whole ++ fraction_text fraction) ≡ at (digits_phase fraction) (with_point (with_whole x whole) fraction)
digits_run s x [] None h = absurd (omega (arith, h.0))
digits_run s x [] (Some []) h = absurd (omega (arith, h.0))
digits_run s x [] (Some (c ∷ cs)) h = ap (λ s. fold step s (c ∷ cs)) (bare_point s x) ∙ bare_fraction x c cs h.1
digits_run s x (c ∷ cs) None h = rw (append-nil (c ∷ cs)) (whole_enter s x c cs (AllDigits-append (c ∷ cs) [] h.1).0)
digits_run s x (c ∷ cs) (Some ds) h =
    let digits = AllDigits-append (c ∷ cs) ds h.1 in
    fold-append step (at (front_phase s) x) (c ∷ cs) (46 ∷ ds) ∙ ap (λ s. fold step s (46 ∷ ds)) (whole_enter s x c cs digits.0) ∙ fraction_run (with_whole x (c ∷ cs)) ds digits.1

abbrev pub with_sign : Sign → Spelled
with_sign s = record nothing { sign = s }

sign_run : (s : Sign) → fold step (Some start) (sign_text s) ≡ at (front_phase s) (with_sign s)
sign_run absent = refl
sign_run plus = refl
sign_run minus = refl

-- the exponent
abbrev pub signed_phase : Sign → Phase
signed_phase absent = Phases.Letter
signed_phase plus = Phases.ExponentSigned
signed_phase minus = Phases.ExponentSigned

abbrev pub with_exponent_sign : Spelled → Sign → Spelled
with_exponent_sign x s = record x { exponent_sign = s }

letter_run : (fraction : Option (List ℕ)) (x : Spelled) (capital : Bool)
    → fold step (at (digits_phase fraction) x) (if capital then codes "E" else codes "e") ≡ at Phases.Letter x
letter_run None x true = refl
letter_run None x false = refl
letter_run (Some ds) x true = refl
letter_run (Some ds) x false = refl

exponent_sign_run : (x : Spelled) (s : Sign) → x.exponent_sign ≡ absent → fold step (at Phases.Letter x) (sign_text s) ≡ at (signed_phase s) (with_exponent_sign x s)
exponent_sign_run x absent e = ap (λ s. at Phases.Letter (record x { exponent_sign = s })) e
exponent_sign_run x plus e = refl
exponent_sign_run x minus e = refl

exponent_enter : (s : Sign) (x : Spelled) (c : ℕ) (cs : List ℕ) → AllDigits 10 (c ∷ cs)
    → fold step (at (signed_phase s) x) (c ∷ cs) ≡ at Phases.Exponent (with_exponent x (c ∷ cs))
exponent_enter absent x c cs h = rw (kind_of-digit c h.0) (exponent_run (record x { exponent = x.exponent * 10 + digit_value c }) cs h.1)
exponent_enter plus x c cs h = rw (kind_of-digit c h.0) (exponent_run (record x { exponent = x.exponent * 10 + digit_value c }) cs h.1)
exponent_enter minus x c cs h = rw (kind_of-digit c h.0) (exponent_run (record x { exponent = x.exponent * 10 + digit_value c }) cs h.1)

exponent_digits_run : (s : Sign) (x : Spelled) (ds : List ℕ) → IsNumeral 10 ds → fold step (at (signed_phase s) x) ds ≡ at Phases.Exponent (with_exponent x ds)
exponent_digits_run s x [] h = absurd (omega (arith, h.0))
exponent_digits_run s x (c ∷ cs) h = exponent_enter s x c cs h.1

abbrev pub last_phase : Option (List ℕ) → Option Exponent → Phase
last_phase fraction None = digits_phase fraction
last_phase fraction (Some e) = Phases.Exponent

abbrev pub with_tail : Spelled → Option Exponent → Spelled
with_tail x None = x
with_tail x (Some e) = with_exponent (with_exponent_sign x e.sign) e.digits

tail_run : (fraction : Option (List ℕ)) (x : Spelled) (exponent : Option Exponent) → x.exponent_sign ≡ absent
    → IfSome exponent (λ e. IsNumeral 10 e.digits)
    → fold step (at (digits_phase fraction) x) (exponent_text exponent) ≡ at (last_phase fraction exponent) (with_tail x exponent)
tail_run fraction x None a h = refl
tail_run fraction x (Some e) a h =
    let letter : List ℕ = if e.capital then codes "E" else codes "e" in
    fold-append step (at (digits_phase fraction) x) letter (sign_text e.sign ++ e.digits)
    ∙ ap (λ s. fold step s (sign_text e.sign ++ e.digits)) (letter_run fraction x e.capital)
    ∙ fold-append step (at Phases.Letter x) (sign_text e.sign) e.digits
    ∙ ap (λ s. fold step s e.digits) (exponent_sign_run x e.sign a)
    ∙ exponent_digits_run e.sign (with_exponent_sign x e.sign) e.digits h

-- the numbers of a decimal
abbrev pub exponent_sign : Option Exponent → Sign
exponent_sign None = absent
exponent_sign (Some e) = e.sign

abbrev pub exponent_size : Option Exponent → ℕ
exponent_size None = 0
exponent_size (Some e) = digits_value 10 e.digits

abbrev pub numbers_of : Parts → Spelled
numbers_of p = record {
  sign = p.sign;
  digits = digits_value 10 (all_digits p);
  fraction = length (fraction_digits p.fraction);
  exponent_sign = exponent_sign p.exponent;
  exponent = exponent_size p.exponent;
}

pub digits_value-append : (n : ℕ) (xs ys : List ℕ) → digits_value_after 10 n (xs ++ ys) ≡ digits_value_after 10 (digits_value_after 10 n xs) ys
digits_value-append n [] ys = refl
digits_value-append n (c ∷ cs) ys = digits_value-append (n * 10 + digit_value c) cs ys

gathered : (s : Sign) (whole : List ℕ) (fraction : Option (List ℕ)) (exponent : Option Exponent)
    → with_tail (with_point (with_whole (with_sign s) whole) fraction) exponent ≡ numbers_of (record { sign = s; whole = whole; fraction = fraction; exponent = exponent })
gathered s whole None None = ap (λ ds. record { sign = s; digits = digits_value 10 ds; fraction = 0; exponent_sign = absent; exponent = 0 }) (sym (append-nil whole))
gathered s whole None (Some e) = ap (λ ds. record { sign = s; digits = digits_value 10 ds; fraction = 0; exponent_sign = e.sign; exponent = digits_value 10 e.digits }) (sym (append-nil whole))
gathered s whole (Some ds) None = ap₂ (λ v n. record { sign = s; digits = v; fraction = n; exponent_sign = absent; exponent = 0 }) (sym (digits_value-append 0 whole ds)) (zero-add (length ds))
gathered s whole (Some ds) (Some e) = ap₂ (λ v n. record { sign = s; digits = v; fraction = n; exponent_sign = e.sign; exponent = digits_value 10 e.digits }) (sym (digits_value-append 0 whole ds)) (zero-add (length ds))

pub comes_through : (p : Parts) → IsFormed p → reading (text p) ≡ at (last_phase p.fraction p.exponent) (numbers_of p)
comes_through p formed =
    let digits = p.whole ++ fraction_text p.fraction in
    let tail = exponent_text p.exponent in
    ap (λ t. reading (sign_text p.sign ++ t)) (sym (append_assoc p.whole (fraction_text p.fraction) tail))
    ∙ fold-append step (Some start) (sign_text p.sign) (digits ++ tail)
    ∙ ap (λ s. fold step s (digits ++ tail)) (sign_run p.sign)
    ∙ fold-append step (at (front_phase p.sign) (with_sign p.sign)) digits tail
    ∙ ap (λ s. fold step s tail) (digits_run p.sign (with_sign p.sign) p.whole p.fraction formed.digits)
    ∙ tail_run p.fraction (with_point (with_whole (with_sign p.sign) p.whole) p.fraction) p.exponent (no_exponent p.sign p.whole p.fraction) formed.exponent
    ∙ ap (at (last_phase p.fraction p.exponent)) (gathered p.sign p.whole p.fraction p.exponent)
  where
    no_exponent : (s : Sign) (whole : List ℕ) (fraction : Option (List ℕ)) → (with_point (with_whole (with_sign s) whole) fraction).exponent_sign ≡ absent
    no_exponent s whole None = refl
    no_exponent s whole (Some ds) = refl

pub last_complete : (fraction : Option (List ℕ)) (exponent : Option Exponent) → IsComplete (last_phase fraction exponent)
last_complete None None = tt
last_complete (Some ds) None = tt
last_complete None (Some e) = tt
last_complete (Some ds) (Some e) = tt
