-- The spelling of whole numbers.
--
--   spelling n        == the one spelling of n: `-` where n is below 0, then decimal digits without a leading zero
--   Spells bytes n    == the bytes spell n, which is of a size below 2 ^ 100
--   number_of bytes   == the number that the bytes spell, if they spell one
--   IsDigitsOf n ds   == ds are decimal digits of the value n, without a leading zero
use Rattle.std.specs.Prelude.{◌≡◌, ℕ, ℤ, ◌^◌, ◌<◌, List, length, slice_index, ◌&&◌, nat_lt, if◌then◌else◌, Option, Some, None, unsigned_abs}
use Rattle.std.specs.Fmt.{signed_decimal}
use Rattle.std.specs.Str.{bytes_eq}
use Rattle.std.specs.Str.Parse.{IsNumeral, digits_value, signed_digits_value}

-- what std's `{}` prints
abbrev pub spelling : ℤ → List ℕ
spelling n = signed_decimal n

pub record Spells (bytes : List ℕ) (n : ℤ) : Type 0 where
  pub small : unsigned_abs n < 2 ^ 100
  pub is : bytes ≡ spelling n

-- the value that their digits have, if its spelling is just these bytes
unfoldable pub number_of : List ℕ → Option ℤ
number_of bytes =
    let n = signed_digits_value 10 bytes in
    if bytes_eq bytes (spelling n) && nat_lt (unsigned_abs n) (2 ^ 100) then Some n else None

-- 48 is `0`
pub record IsDigitsOf (n : ℕ) (ds : List ℕ) : Type 0 where
  pub numeral : IsNumeral 10 ds
  pub value : digits_value 10 ds ≡ n
  pub first : slice_index ds 0 ≡ 48 → length ds ≡ 1
