-- The spelling of a length in millimetres.
--
--   millimetres um       the one spelling of um micrometres: a minus where um is below 0, the whole millimetres, and
--                        what `thousandths` says behind them
--   thousandths n        nothing for 0, else a point and the three digits of n without the zeros at their end
--   trimmed digits       the digits without the zeros at their end
use Rattle.std.specs.Prelude.{ℕ, ◌+◌, ◌/◌, ◌%◌, ◌==◌, ℤ, pos, negsuc, unsigned_abs, List, [], ◌∷◌, ◌++◌, codes, decimal, if◌then◌else◌}

-- c in front of digits that have no zero at their end
abbrev pub trimmed_front : ℕ → List ℕ → List ℕ
trimmed_front c [] = if c == 48 then [] else c ∷ []
trimmed_front c (d ∷ ds) = c ∷ (d ∷ ds)

abbrev pub trimmed : List ℕ → List ℕ
trimmed [] = []
trimmed (c ∷ cs) = trimmed_front c (trimmed cs)

abbrev pub three_digits : ℕ → List ℕ
three_digits n = (48 + n / 100) ∷ (48 + n / 10 % 10) ∷ (48 + n % 10) ∷ []

abbrev pub thousandths : ℕ → List ℕ
thousandths n = if n == 0 then [] else codes "." ++ trimmed (three_digits n)

abbrev pub sign_of_length : ℤ → List ℕ
sign_of_length (pos n) = []
sign_of_length (negsuc n) = codes "-"

abbrev pub millimetres : ℤ → List ℕ
millimetres um = sign_of_length um ++ (decimal (unsigned_abs um / 1000) ++ thousandths (unsigned_abs um % 1000))
