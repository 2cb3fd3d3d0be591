-- Tables: the form of a basis as a program keeps it, with the basic and the free variables at places, in any order.
--
--   AreRowsOf vars rows             each row has `vars` coefficients
--   InRange count zs                each number of the list is below the count
--   Fresh zs                        no number stands twice in the list
--   rising count basic              the numbers of the list that are below the count, rising
--   place_of z zs                   the place of a number in a list, the length of the list where it isn't in it
--   line_or z basic lines           the line of a basic variable, none of another
--   entry_of y free entries         the entry of a free variable, 0 of another
--   sorted_line, sorted_lines       the numbers in the order of a form
--   Holds vars rows d basic free lines     a table: each variable basic or free, once; the lines say the basic ones; no number
--                                   above 1 divides all
--   Held vars rows d basic free lines      the form of the rising variables has this denominator and these numbers
use Rattle.std.proofs.Common.{◌≡◌, ℕ, suc, ◌+◌, ◌<◌, List, [], ◌∷◌, length, map, All, ℤ, pos, ◌≤ℤ◌, ◌⊎◌}
use Rattle.std.specs.Prelude.{nat_eq, if◌then◌else◌}
use Rattle.std.specs.List.{filter, range_with_len}
use Rattle.integer_laws.specs.Members.{In}
use Rattle.seq_model.specs.Dictionaries.{is_in, free_of, Says, DividesAll, Form}
use Rattle.seq_model.specs.Walks.{constant, entries}
use Rattle.seq_model.specs.declared.row.Row.{Row}

abbrev pub AreRowsOf : ℕ → List Row → Type 0
AreRowsOf vars rows = All (λ row. length row.a ≡ vars) rows

abbrev pub InRange : ℕ → List ℕ → Type 0
InRange count zs = (z : ℕ) → In z zs → z < count

abbrev pub Fresh : List ℕ → Type 0
Fresh [] = Unit {0}
Fresh (x ∷ xs) = (In x xs → ⊥) × Fresh xs

abbrev pub rising : ℕ → List ℕ → List ℕ
rising count basic = filter (is_in basic) (range_with_len 0 count)

abbrev pub entry_of : ℕ → List ℕ → List ℤ → ℤ
entry_of y [] es = pos 0
entry_of y (f ∷ free) [] = pos 0
entry_of y (f ∷ free) (e ∷ es) = if nat_eq y f then e else entry_of y free es

abbrev pub line_or : ℕ → List ℕ → List (List ℤ) → List ℤ
line_or z [] lines = []
line_or z (y ∷ basic) [] = []
line_or z (y ∷ basic) (l ∷ lines) = if nat_eq z y then l else line_or z basic lines

abbrev pub place_of : ℕ → List ℕ → ℕ
place_of z [] = 0
place_of z (y ∷ zs) = if nat_eq z y then 0 else suc (place_of z zs)

abbrev pub sorted_line : ℕ → List ℕ → List ℕ → List ℤ → List ℤ
sorted_line count basic free line = constant line ∷ map (λ y. entry_of y free (entries line)) (free_of count basic)

abbrev pub sorted_lines : ℕ → List ℕ → List ℕ → List (List ℤ) → List (List ℤ)
sorted_lines count basic free lines = map (λ z. sorted_line count basic free (line_or z basic lines)) (rising count basic)

pub record Holds (vars : ℕ) (rows : List Row) (d : ℤ) (basic free : List ℕ) (lines : List (List ℤ)) : Type 0 where
  pub rows_are : AreRowsOf vars rows
  pub positive : pos 1 ≤ℤ d
  pub many : length basic ≡ length rows
  pub fresh_basic : Fresh basic
  pub fresh_free : Fresh free
  pub apart : (y : ℕ) → In y free → In y basic → ⊥
  pub small_basic : InRange (vars + length rows) basic
  pub small_free : InRange (vars + length rows) free
  pub cover : (y : ℕ) → y < vars + length rows → In y basic ⊎ In y free
  pub says : Says vars rows d free basic lines
  pub reduced : (k : ℕ) → DividesAll k d lines → k ≡ 1

pub record Held (vars : ℕ) (rows : List Row) (d : ℤ) (basic free : List ℕ) (lines : List (List ℤ)) : Type 0 where
  pub form : Form vars rows (rising (vars + length rows) basic)
  pub d_is : form.d ≡ d
  pub lines_are : form.lines ≡ sorted_lines (vars + length rows) basic free lines
