-- A line of a keyword and a number.
--
--   number_line keyword n                           == the line
--   number_line_at keyword most bytes               == the number of 1 to `most` on such a line at the front, and the bytes after it
--   IsNumberLineAt keyword most bytes n rest        == the bytes are the line of the number n of 1 to `most`, and then the rest
use Rattle.std.specs.Prelude.{◌≡◌, ℕ, ◌≤◌, ℤ, pos, int_lt, unsigned_abs, List, ◌++◌, ◌||◌, if◌then◌else◌, Option, Some, None, codes}
use Rattle.seq_num.specs.Spelling.{spelling}
use Rattle.text_lines.specs.Reading.{◌>>=◌, literal_at, whole_at}

abbrev pub number_line : List ℕ → ℤ → List ℕ
number_line keyword n = keyword ++ (spelling n ++ codes "\n")

unfoldable pub number_line_at : List ℕ → ℕ → List ℕ → Option (ℕ × List ℕ)
number_line_at keyword most bytes = do
  a ← literal_at keyword bytes
  n ← whole_at a
  rest ← literal_at (codes "\n") n.1
  if int_lt n.0 (pos 1) || int_lt (pos most) n.0 then None else Some (unsigned_abs n.0, rest)

pub record IsNumberLineAt (keyword : List ℕ) (most : ℕ) (bytes : List ℕ) (n : ℕ) (rest : List ℕ) : Type 0 where
  pub spelled : bytes ≡ number_line keyword (pos n) ++ rest
  pub low : 1 ≤ n
  pub high : n ≤ most
