-- What a decimal is, and the number m * 10 ^ k that it spells.
--
--     decimal   =  sign digits [ "." digits ] [ exponent ]      with at least one digit beside the point
--     exponent  =  ( "e" | "E" ) sign digits                    with at least one digit
--     sign      =  nothing, "+" or "-"
--
--   Parts, text p         the parts of a decimal, and the bytes that they make
--   IsFormed p            what they are to have: digits alone, and at least one where one is wanted
--   IsDecimal bytes       the bytes are a decimal
--   mantissa p, power p   its m, the digits read without the point, and its k
--   BeginsDecimal bytes   some decimal begins with the bytes
use Rattle.std.specs.Prelude.{◌≡◌, ℕ, ℤ, pos, neg_ℤ, ◌-ℤ◌, List, [], ◌++◌, length, codes, Bool, if◌then◌else◌, Option, Some, None, unwrap_or, IfSome}
use Rattle.std.specs.Str.Parse.{digits_value, IsNumeral}

pub data Sign : Type 0 where
  absent : Sign
  plus : Sign
  minus : Sign

abbrev pub sign_text : Sign → List ℕ
sign_text absent = []
sign_text plus = codes "+"
sign_text minus = codes "-"

-- n with its sign
abbrev pub signed : Sign → ℕ → ℤ
signed absent n = pos n
signed plus n = pos n
signed minus n = neg_ℤ (pos n)

pub record Exponent : Type 0 where
  pub capital : Bool
  pub sign : Sign
  pub digits : List ℕ

abbrev pub exponent_text : Option Exponent → List ℕ
exponent_text None = []
exponent_text (Some e) = (if e.capital then codes "E" else codes "e") ++ (sign_text e.sign ++ e.digits)

abbrev pub exponent_value : Option Exponent → ℤ
exponent_value None = pos 0
exponent_value (Some e) = signed e.sign (digits_value 10 e.digits)

-- the digits behind the point, None where there is no point
abbrev pub fraction_text : Option (List ℕ) → List ℕ
fraction_text None = []
fraction_text (Some digits) = codes "." ++ digits

abbrev pub fraction_digits : Option (List ℕ) → List ℕ
fraction_digits fraction = unwrap_or fraction []

pub record Parts : Type 0 where
  pub sign : Sign
  pub whole : List ℕ
  pub fraction : Option (List ℕ)
  pub exponent : Option Exponent

abbrev pub text : Parts → List ℕ
text p = sign_text p.sign ++ (p.whole ++ (fraction_text p.fraction ++ exponent_text p.exponent))

-- those on both sides of the point
abbrev pub all_digits : Parts → List ℕ
all_digits p = p.whole ++ fraction_digits p.fraction

pub record IsFormed (p : Parts) : Type 0 where
  pub digits : IsNumeral 10 (all_digits p)
  pub exponent : IfSome p.exponent (λ e. IsNumeral 10 e.digits)

pub record IsDecimal (bytes : List ℕ) : Type 0 where
  pub parts : Parts
  pub formed : IsFormed parts
  pub spelled : bytes ≡ text parts

abbrev pub mantissa : Parts → ℤ
mantissa p = signed p.sign (digits_value 10 (all_digits p))

-- one less for each digit behind the point
abbrev pub power : Parts → ℤ
power p = exponent_value p.exponent -ℤ pos (length (fraction_digits p.fraction))

pub record BeginsDecimal (bytes : List ℕ) : Type 0 where
  pub rest : List ℕ
  pub decimal : IsDecimal (bytes ++ rest)
