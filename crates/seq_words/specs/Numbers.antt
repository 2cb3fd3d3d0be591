-- The numbers among the words.
--
--   value_from n digits    the number that the digits spell when they follow those of n; None where one of them is no digit
--   number_in low high t   the number of one to ten ASCII digits from low to high; None for every other text
use Rattle.std.specs.Prelude.{ℕ, ◌+◌, ◌*◌, ◌-◌, ◌&&◌, nat_le, List, [], ◌∷◌, length, Option, Some, None, if◌then◌else◌}
use Rattle.std.specs.Char.{is_ascii_digit}

-- 48 is `0`
abbrev pub value_from : ℕ → List ℕ → Option ℕ
value_from n [] = Some n
value_from n (digit ∷ digits) = if is_ascii_digit digit then value_from (n * 10 + (digit - 48)) digits else None

abbrev pub within : ℕ → ℕ → Option ℕ → Option ℕ
within low high (Some n) = if nat_le low n && nat_le n high then Some n else None
within low high None = None

abbrev pub number_in : ℕ → ℕ → List ℕ → Option ℕ
number_in low high text = if nat_le 1 (length text) && nat_le (length text) 10 then within low high (value_from 0 text) else None
