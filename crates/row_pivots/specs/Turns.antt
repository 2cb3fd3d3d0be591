-- What a pivot makes of the lines of a table, in place.
--
--   entry_at line k                 number k of a line, 0 past its end
--   line_at lines r                 line r
--   pivoted_line d ys k zs          the line zs over the new free variables, before it is divided, where ys is the line of what leaves
--                                   and k the place of what enters
--   unit_line n k d                 n numbers, all 0 but d at place k: the line of what enters, over the old free variables
--   prepared d lines r k            the lines, with this one in place of that of what leaves
--   turned_lines d lines r k        all lines of the new basis, before they are divided: one rule for each line
--   quotients g xs                  all numbers divided
--   IsContent g d lines             g has just the divisors that d and all numbers of the lines have
use Rattle.std.proofs.Common.{◌↔◌, ℕ, List, [], length, map, get_or, set, ℤ, pos, ◌*ℤ◌, unsigned_abs, int_div}
use Rattle.std.specs.Int.{◌∣◌}
use Rattle.integer_laws.specs.Vectors.{combined, zeros}
use Rattle.seq_model.specs.Dictionaries.{DividesAll}

abbrev pub entry_at : List ℤ → ℕ → ℤ
entry_at line k = get_or line k (pos 0)

abbrev pub line_at : List (List ℤ) → ℕ → List ℤ
line_at lines r = get_or lines r []

abbrev pub pivoted_line : ℤ → List ℤ → ℕ → List ℤ → List ℤ
pivoted_line d ys k zs = set (combined (entry_at ys k) (entry_at zs k) zs ys) k (d *ℤ entry_at zs k)

abbrev pub unit_line : ℕ → ℕ → ℤ → List ℤ
unit_line n k d = set (zeros n) k d

abbrev pub prepared : ℤ → List (List ℤ) → ℕ → ℕ → List (List ℤ)
prepared d lines r k = set lines r (unit_line (length (line_at lines r)) k d)

abbrev pub turned_lines : ℤ → List (List ℤ) → ℕ → ℕ → List (List ℤ)
turned_lines d lines r k = map (pivoted_line d (line_at lines r) k) (prepared d lines r k)

abbrev pub quotients : ℤ → List ℤ → List ℤ
quotients g xs = map (λ x. int_div x g) xs

abbrev pub IsContent : ℤ → ℤ → List (List ℤ) → Type 0
IsContent g d lines = (k : ℕ) → (k ∣ unsigned_abs g) ↔ DividesAll k d lines
