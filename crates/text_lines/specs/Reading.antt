-- What stands at the front of some bytes, and the bytes after it; None where nothing of the kind stands there.
--
--   o >>= f                     == f of what the option o holds; None where it is none
--   literal_at text bytes       == the bytes after the text, where they begin with it
--   digit_count bytes           == how many digits the bytes begin with
--   whole_len bytes             == how far a leading `-` and the digits after it reach
--   whole_at bytes              == the number that this front spells, and the bytes after it
--   IsWholeAt bytes n rest      == the bytes are the spelling of n, and then the rest, where no digit stands first
--   has_line_end bytes          == whether a line feed stands among the bytes
use Rattle.std.specs.Prelude.{◌≡◌, ℕ, ℤ, ◌+◌, ◌<◌, ◌^◌, unsigned_abs, List, [], ◌∷◌, ◌++◌, length, take, drop, Bool, ◌==◌, if◌then◌else◌, Option, Some, None, option_and_then}
use Rattle.std.specs.Option.{option_map}
use Rattle.std.specs.List.{list_any}
use Rattle.std.specs.Char.{is_ascii_digit}
use Rattle.std.specs.Str.{bytes_eq}
use Rattle.seq_num.specs.Spelling.{spelling, number_of}

infixl 10 ◌>>=◌
abbrev pub ◌>>=◌ : {A B : Type 0} → Option A → (A → Option B) → Option B
o >>= f = option_and_then f o

unfoldable pub literal_at : List ℕ → List ℕ → Option (List ℕ)
literal_at text bytes = if bytes_eq (take (length text) bytes) text then Some (drop (length text) bytes) else None

abbrev pub digit_count : List ℕ → ℕ
digit_count [] = 0
digit_count (c ∷ cs) = if is_ascii_digit c then digit_count cs + 1 else 0

-- 45 is `-`
abbrev pub whole_len : List ℕ → ℕ
whole_len [] = 0
whole_len (c ∷ cs) = if c == 45 then digit_count cs + 1 else digit_count (c ∷ cs)

unfoldable pub whole_at : List ℕ → Option (ℤ × List ℕ)
whole_at bytes = option_map (λ n. (n, drop (whole_len bytes) bytes)) (number_of (take (whole_len bytes) bytes))

-- a number is spelt where it is below 2 ^ 100 in size
pub record IsWholeAt (bytes : List ℕ) (n : ℤ) (rest : List ℕ) : Type 0 where
  pub spelled : bytes ≡ spelling n ++ rest
  pub small : unsigned_abs n < 2 ^ 100
  pub ended : digit_count rest ≡ 0

-- a line feed is 10
abbrev pub has_line_end : List ℕ → Bool
has_line_end bytes = list_any (λ b. b == 10) bytes
