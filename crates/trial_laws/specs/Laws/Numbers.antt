-- Whole numbers of millimetres, as they are spelled in a made file.
--
--   spelled_black    no byte of a spelling is white; nor does one end a line (`spelled_in_line`), nor is one 0 (`spelled_plain`)
--   spelled_reads    it is read as 1,000 times the number, in micrometres
--   number_at        so is a spelling behind white bytes
use Rattle.std.proofs.Common.{◌≡◌, ℕ, ◌*◌, ◌<◌, ◌≤◌, ◌^◌, ℤ, pos, ◌*ℤ◌, Bool, true, not, nat_le, List, [], ◌∷◌, ◌++◌, length, drop, decimal, refl, sym, ap, ◌∙◌, subst, arith, Ok, None}
use Rattle.std.proofs.lemmas.Bool.Decides.{nat_tests}
use Rattle.std.proofs.lemmas.Fmt.{decimal_is_IsNumeral_wide, length-decimal-le}
use Rattle.std.proofs.lemmas.Int.{ints}
use Rattle.std.proofs.lemmas.List.{append-nil}
use Rattle.std.proofs.lemmas.Str.Parse.{digit_at}
use Rattle.std.specs.List.{list_all}
use Rattle.std.specs.Str.Parse.{AllDigits, IsNumeral, digits_value}
use Rattle.decimal_lengths.specs.Decimals.{Parts, absent}
use Rattle.decimal_lengths.specs.Lengths.{IsReadAs}
use Rattle.seq_num.specs.Spelling.{spelling}
use Rattle.stl_text.specs.Grammar.{number, length_of}
use Rattle.stl_text.specs.Reading.{passes}
use Rattle.stl_text.specs.Words.{is_white, is_black, ends_line, letters}
use Rattle.trial_laws.specs.Laws.Words.{passes_none, word_at}

-- a byte that isn't 0
abbrev pub is_plain : ℕ → Bool
is_plain c = nat_le 1 c

not_white : (c : ℕ) → 33 ≤ c → not (is_white c) ≡ true
not_white c h = grind (arith, nat_tests)

ends_no_line : (c : ℕ) → 33 ≤ c → not (ends_line c) ≡ true
ends_no_line c h = grind (arith, nat_tests)

is_plain_digit : (c : ℕ) → 33 ≤ c → is_plain c ≡ true
is_plain_digit c h = grind (arith, nat_tests)

each_digit : (test : ℕ → Bool) → ((c : ℕ) → 33 ≤ c → test c ≡ true) → (ds : List ℕ) → AllDigits 10 ds → list_all test ds ≡ true
each_digit test passed [] h = refl
each_digit test passed (c ∷ cs) h =
    let d = digit_at (c ∷ cs) 0 h (omega arith) in
    rw (passed c (omega (arith, d.0))) (each_digit test passed cs h.1)

digits_of : (n : ℕ) → n ≤ 10_000 → AllDigits 10 (decimal n)
digits_of n small = (decimal_is_IsNumeral_wide n (omega arith)).0.1

pub spelled_black : (n : ℕ) → n ≤ 10_000 → passes_none is_white (spelling (pos n)) ≡ true
spelled_black n small = each_digit (λ c. not (is_white c)) not_white (decimal n) (digits_of n small)

pub spelled_in_line : (n : ℕ) → n ≤ 10_000 → passes_none ends_line (spelling (pos n)) ≡ true
spelled_in_line n small = each_digit (λ c. not (ends_line c)) ends_no_line (decimal n) (digits_of n small)

pub spelled_plain : (n : ℕ) → n ≤ 10_000 → list_all is_plain (spelling (pos n)) ≡ true
spelled_plain n small = each_digit is_plain is_plain_digit (decimal n) (digits_of n small)

pub spelled_some : (n : ℕ) → n ≤ 10_000 → 0 < length (spelling (pos n))
spelled_some n small = (decimal_is_IsNumeral_wide n (omega arith)).0.0

pub spelled_short : (n : ℕ) → n ≤ 10_000 → length (spelling (pos n)) ≤ 5
spelled_short n small = length-decimal-le 5 n (omega arith) (omega arith) (omega arith)

abbrev parts_of : ℕ → Parts
parts_of n = record { sign = absent; whole = decimal n; fraction = None; exponent = None }

pub spelled_reads : (n : ℕ) → n ≤ 10_000 → IsReadAs (spelling (pos n)) (pos (1_000 * n))
spelled_reads n small =
    let numeral = decimal_is_IsNumeral_wide n (omega arith) in
    let same : decimal n ++ [] ≡ decimal n = append-nil (decimal n) in
    let value : digits_value 10 (decimal n ++ []) ≡ n = ap (digits_value 10) same ∙ numeral.1 in
    let digits : IsNumeral 10 (decimal n ++ []) = subst (IsNumeral 10) (sym same) numeral.0 in
    let rounded : pos (1_000 * n) ≡ pos (digits_value 10 (decimal n ++ [])) *ℤ pos (10 ^ 3) = rw value (omega (arith, ints)) in
    record {
      short = omega (arith, spelled_short n small);
      value = record { decimal = record { parts = parts_of n; formed = record { digits = digits; exponent = tt }; spelled = sym same }; rounded = rounded };
      near = omega arith;
    }

pub record NumberAt (bytes : List ℕ) (at : ℕ) (um : ℤ) (tail : List ℕ) : Type 0 where
  pub to : ℕ
  pub reads : number bytes at (Ok (um, to))
  pub behind : drop to bytes ≡ tail

pub number_at : (bytes : List ℕ) (at : ℕ) (sp : List ℕ) (n c : ℕ) (tail : List ℕ) → n ≤ 10_000 → drop at bytes ≡ sp ++ (spelling (pos n) ++ (c ∷ tail)) → passes_none is_black sp ≡ true → is_white c ≡ true → NumberAt bytes at (pos (1_000 * n)) (c ∷ tail)
number_at bytes at sp n c tail small e white ended =
    let w = word_at bytes at sp (spelling (pos n)) c tail e white (spelled_black n small) (spelled_some n small) ended in
    let read : length_of (letters bytes w.word) w.word.from (Ok (pos (1_000 * n))) = subst (λ text. IsReadAs text (pos (1_000 * n))) (sym w.spelled) (spelled_reads n small) in
    record {
      to = w.word.to;
      reads = passes w.word (record { word = w.word; is = w.is; given = refl }) (passes (pos (1_000 * n)) read refl);
      behind = w.behind;
    }
