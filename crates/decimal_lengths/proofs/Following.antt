-- What may follow in each phase, up to the end of a decimal; and that a reading comes through nothing else.
use Rattle.std.proofs.Common.{◌≡◌, ℕ, ◌<◌, List, [], ◌∷◌, ◌++◌, length, true, false, Option, Some, None, IfSome, refl, ap, ap₂, sym, ◌∙◌, fold, arith, subst, ◌⊎◌, inl, inr}
use Rattle.std.specs.Option.{option_map}
use Rattle.std.specs.Str.Parse.{AllDigits, IsNumeral}
use Rattle.decimal_lengths.specs.declared.scanning.Kind.{Kind}
use Rattle.decimal_lengths.specs.declared.scanning.Kind.TheVariants as Kinds
use Rattle.decimal_lengths.specs.declared.scanning.Phase.{Phase}
use Rattle.decimal_lengths.specs.declared.scanning.Phase.TheVariants as Phases
use Rattle.decimal_lengths.specs.Decimals.{Sign, absent, plus, minus, sign_text, Exponent, exponent_text, fraction_text, fraction_digits, IsDecimal}
use Rattle.decimal_lengths.specs.Scanning.{kind_of, next_phase, Spelled, with_kind, State, step, start, reading, IsComplete}
use Rattle.decimal_lengths.proofs.KindLaws.{IsOfKind, kind_of-is}
use Rattle.decimal_lengths.proofs.Coming.{at}

record AfterLetter (bytes : List ℕ) : Type 0 where
  sign : Sign
  digits : List ℕ
  formed : IsNumeral 10 digits
  spelled : bytes ≡ sign_text sign ++ digits

record AfterPoint (bytes : List ℕ) : Type 0 where
  digits : List ℕ
  exponent : Option Exponent
  all : AllDigits 10 digits
  formed : IfSome exponent (λ e. IsNumeral 10 e.digits)
  spelled : bytes ≡ digits ++ exponent_text exponent

record AfterSign (bytes : List ℕ) : Type 0 where
  whole : List ℕ
  fraction : Option (List ℕ)
  exponent : Option Exponent
  all : AllDigits 10 (whole ++ fraction_digits fraction)
  formed : IfSome exponent (λ e. IsNumeral 10 e.digits)
  spelled : bytes ≡ whole ++ (fraction_text fraction ++ exponent_text exponent)

abbrev Rest : Phase → List ℕ → Type 0
Rest Phases.Start bytes = IsDecimal bytes
Rest Phases.Signed bytes = (r : AfterSign bytes) × (0 < length (r.whole ++ fraction_digits r.fraction))
Rest Phases.Whole bytes = AfterSign bytes
Rest Phases.BarePoint bytes = (r : AfterPoint bytes) × (0 < length r.digits)
Rest Phases.Fraction bytes = AfterPoint bytes
Rest Phases.Letter bytes = AfterLetter bytes
Rest Phases.ExponentSigned bytes = IsNumeral 10 bytes
Rest Phases.Exponent bytes = AllDigits 10 bytes

abbrev RestIn : Option Phase → List ℕ → Type 0
RestIn None bytes = ⊥
RestIn (Some phase) bytes = Rest phase bytes

some_digits : (c : ℕ) (cs : List ℕ) → 0 < length (c ∷ cs)
some_digits c cs = omega arith

-- one more digit, or an exponent, in front
digit_sign : (c : ℕ) (cs : List ℕ) → IsNumeral 10 (c ∷ []) → AfterSign cs → AfterSign (c ∷ cs)
digit_sign c cs k h = record { whole = c ∷ h.whole; fraction = h.fraction; exponent = h.exponent; all = (k.1.0, h.all); formed = h.formed; spelled = ap (λ t. c ∷ t) h.spelled }

digit_point : (c : ℕ) (cs : List ℕ) → IsNumeral 10 (c ∷ []) → AfterPoint cs → AfterPoint (c ∷ cs)
digit_point c cs k h = record { digits = c ∷ h.digits; exponent = h.exponent; all = (k.1.0, h.all); formed = h.formed; spelled = ap (λ t. c ∷ t) h.spelled }

point_sign : (c : ℕ) (cs : List ℕ) → c ≡ 46 → AfterPoint cs → AfterSign (c ∷ cs)
point_sign c cs k h = record { whole = []; fraction = Some h.digits; exponent = h.exponent; all = h.all; formed = h.formed; spelled = ap₂ (λ a t. a ∷ t) k h.spelled }

exponent_of : (c : ℕ) (cs : List ℕ) → (c ≡ 101) ⊎ (c ≡ 69) → AfterLetter cs → (e : Exponent) × IsNumeral 10 e.digits × (c ∷ cs ≡ exponent_text (Some e))
exponent_of c cs (inl k) h = (record { capital = false; sign = h.sign; digits = h.digits }, h.formed, ap₂ (λ a t. a ∷ t) k h.spelled)
exponent_of c cs (inr k) h = (record { capital = true; sign = h.sign; digits = h.digits }, h.formed, ap₂ (λ a t. a ∷ t) k h.spelled)

one_digit : (c d : ℕ) → IsOfKind c (Kinds.Digit d) → IsNumeral 10 (c ∷ [])
one_digit c d k = (omega arith, (k.0, tt))

decimal : (sign : Sign) (bytes cs : List ℕ) → bytes ≡ sign_text sign ++ cs → (r : AfterSign cs) → 0 < length (r.whole ++ fraction_digits r.fraction) → IsDecimal bytes
decimal sign bytes cs e r some =
    record {
      parts = record { sign = sign; whole = r.whole; fraction = r.fraction; exponent = r.exponent };
      formed = record { digits = (some, r.all); exponent = r.formed };
      spelled = e ∙ ap (λ t. sign_text sign ++ t) r.spelled;
    }

rest_more : (phase : Phase) (kind : Kind) (c : ℕ) (cs : List ℕ) → IsOfKind c kind → RestIn (next_phase phase kind) cs → Rest phase (c ∷ cs)
unfolding digit_sign point_sign digit_point
rest_more Phases.Start (Kinds.Digit d) c cs k h = decimal absent (c ∷ cs) (c ∷ cs) refl (digit_sign c cs (one_digit c d k) h) (some_digits c (h.whole ++ fraction_digits h.fraction))
rest_more Phases.Start (Kinds.Sign true) c cs k h = decimal minus (c ∷ cs) cs (ap (λ a. a ∷ cs) k) h.0 h.1
rest_more Phases.Start (Kinds.Sign false) c cs k h = decimal plus (c ∷ cs) cs (ap (λ a. a ∷ cs) k) h.0 h.1
rest_more Phases.Start Kinds.Point c cs k h = decimal absent (c ∷ cs) (c ∷ cs) refl (point_sign c cs k h.0) h.1
rest_more Phases.Signed (Kinds.Digit d) c cs k h = (digit_sign c cs (one_digit c d k) h, some_digits c (h.whole ++ fraction_digits h.fraction))
rest_more Phases.Signed Kinds.Point c cs k h = (point_sign c cs k h.0, h.1)
rest_more Phases.Whole (Kinds.Digit d) c cs k h = digit_sign c cs (one_digit c d k) h
rest_more Phases.Whole Kinds.Point c cs k h = point_sign c cs k h
rest_more Phases.Whole Kinds.Letter c cs k h =
    let e = exponent_of c cs k h in
    record { whole = []; fraction = None; exponent = Some e.0; all = tt; formed = e.1; spelled = e.2 }
rest_more Phases.BarePoint (Kinds.Digit d) c cs k h = (digit_point c cs (one_digit c d k) h, some_digits c h.digits)
rest_more Phases.Fraction (Kinds.Digit d) c cs k h = digit_point c cs (one_digit c d k) h
rest_more Phases.Fraction Kinds.Letter c cs k h =
    let e = exponent_of c cs k h in
    record { digits = []; exponent = Some e.0; all = tt; formed = e.1; spelled = e.2 }
rest_more Phases.Letter (Kinds.Digit d) c cs k h = record { sign = absent; digits = c ∷ cs; formed = (some_digits c cs, (k.0, h)); spelled = refl }
rest_more Phases.Letter (Kinds.Sign true) c cs k h = record { sign = minus; digits = cs; formed = h; spelled = ap (λ a. a ∷ cs) k }
rest_more Phases.Letter (Kinds.Sign false) c cs k h = record { sign = plus; digits = cs; formed = h; spelled = ap (λ a. a ∷ cs) k }
rest_more Phases.ExponentSigned (Kinds.Digit d) c cs k h = (some_digits c cs, (k.0, h))
rest_more Phases.Exponent (Kinds.Digit d) c cs k h = (k.0, h)
rest_more _ _ c cs k h = absurd h

rest_none : (phase : Phase) → IsComplete phase → Rest phase []
rest_none Phases.Whole h = record { whole = []; fraction = None; exponent = None; all = tt; formed = tt; spelled = refl }
rest_none Phases.Fraction h = record { digits = []; exponent = None; all = tt; formed = tt; spelled = refl }
rest_none Phases.Exponent h = tt
rest_none _ h = absurd h

-- nothing goes on once no decimal goes on
pub fold-None : (bytes : List ℕ) → fold step None bytes ≡ None
fold-None [] = refl
fold-None (c ∷ cs) = fold-None cs

rest_from : (next : Option Phase) (x : Phase → Spelled) (bytes : List ℕ) (end : State)
    → ((phase : Phase) (x : Spelled) → fold step (at phase x) bytes ≡ Some end → Rest phase bytes)
    → fold step (option_map (λ phase. record { phase = phase; numbers = x phase }) next) bytes ≡ Some end → RestIn next bytes
rest_from None x bytes end rest e = absurd (let n = fold-None bytes in cc)
rest_from (Some phase) x bytes end rest e = rest phase (x phase) e

rest_of : (phase : Phase) (x : Spelled) (bytes : List ℕ) (end : State) → IsComplete end.phase → fold step (at phase x) bytes ≡ Some end → Rest phase bytes
rest_of phase x [] end done e = rest_none phase (let P : State → Type 0 = λ s. IsComplete s.phase in subst P (sym (let same : record { phase = phase; numbers = x } ≡ end = cc in same)) done)
rest_of phase x (c ∷ cs) end done e =
    rest_more phase (kind_of c) c cs (kind_of-is c) (rest_from (next_phase phase (kind_of c)) (λ next. with_kind x next (kind_of c)) cs end (λ q y came. rest_of q y cs end done came) e)

-- what a reading comes through is a decimal
pub decimal_read : (bytes : List ℕ) (end : State) → reading bytes ≡ Some end → IsComplete end.phase → IsDecimal bytes
decimal_read bytes end e done = rest_of Phases.Start start.numbers bytes end done e
