-- The words and lines of a text. A place is the number of bytes before it.
--
--   is_white c             c is a space, a tab, a CR or an LF
--   is_black c             c is any other byte
--   ends_line c            c is a CR or an LF
--   IsFirst p bytes at to  to is the first place from `at` on whose byte meets p, the end of the bytes where none does
--   IsNext bytes at word   the first word from `at` on, a longest run of black bytes; the empty one at the end where no word is left
--   letters bytes word     the bytes of the word
--   IsRest bytes at to     the rest of the line from `at` on ends at `to`, behind the CR or LF that ends it, or with the bytes
--   IsSpelled word text    they are the same without regard to ASCII case
use Rattle.std.specs.Prelude.{◌≡◌, ℕ, ◌+◌, ◌≤◌, ◌<◌, ◌==◌, ◌||◌, Bool, true, false, not, min, List, length, map, slice_index, slice_range}
use Rattle.std.specs.Char.{to_ascii_lowercase}
use Rattle.stl_text.specs.declared.words.Word.{Word}
use Rattle.stl_text.specs.declared.words.Stop.{Stop}
use Rattle.stl_text.specs.declared.words.Stop.TheVariants as Stops

abbrev pub is_white : ℕ → Bool
is_white c = c == 32 || c == 9 || c == 13 || c == 10

abbrev pub is_black : ℕ → Bool
is_black c = not (is_white c)

abbrev pub ends_line : ℕ → Bool
ends_line c = c == 13 || c == 10

-- whether a run of bytes stops at c
abbrev pub stops : Stop → ℕ → Bool
stops Stops.Black = is_black
stops Stops.White = is_white
stops Stops.LineEnd = ends_line

pub record IsFirst (p : ℕ → Bool) (bytes : List ℕ) (at to : ℕ) : Type 0 where
  pub forward : at ≤ to
  pub within : to ≤ length bytes
  pub before : (k : ℕ) → at ≤ k → k < to → p (slice_index bytes k) ≡ false
  pub here : to < length bytes → p (slice_index bytes to) ≡ true

pub record IsNext (bytes : List ℕ) (at : ℕ) (word : Word) : Type 0 where
  pub starts : IsFirst is_black bytes at word.from
  pub ends : IsFirst is_white bytes word.from word.to

abbrev pub letters : List ℕ → Word → List ℕ
letters bytes word = slice_range bytes word.from word.to

pub record IsRest (bytes : List ℕ) (at to : ℕ) : Type 0 where
  pub line_end : ℕ
  pub ends : IsFirst ends_line bytes at line_end
  pub behind : to ≡ min (line_end + 1) (length bytes)

abbrev pub IsSpelled : List ℕ → List ℕ → Type 0
IsSpelled word text = map to_ascii_lowercase word ≡ map to_ascii_lowercase text
