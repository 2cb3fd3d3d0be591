-- Walks never come back, and how many steps are left.
--
--   Distinct bases                  no basis stands twice in the list
--   Table                           a basis with the denominator and the lines of its form
--   IsTable vars rows t             it is the form of its basis
--   table_of vars rows basis form   the table of a form
--   line_content g line, content_of g lines     the greatest common divisor of a number and all numbers of a line, of the lines
--   pivoted count t out into        the table of the next basis
--   next_of count t                 the next table, or None where the walk stops
--   steps_left count k t            how many steps the walk still takes from the table, at most k
use Rattle.std.proofs.Common.{◌≡◌, ℕ, zero, suc, List, [], ◌∷◌, map, get_or, set, ℤ, pos, ◌*ℤ◌, Option, Some, None, unsigned_abs, int_div}
use Rattle.integer_laws.specs.Divisors.{gcd_of}
use Rattle.integer_laws.specs.Members.{In}
use Rattle.row_laws.specs.Computed.{leaving, entering, line_of}
use Rattle.row_pivots.specs.Tables.{rising, sorted_lines, place_of}
use Rattle.row_pivots.specs.Turns.{entry_at, line_at, turned_lines, quotients}
use Rattle.seq_model.specs.Dictionaries.{free_of, Form}
use Rattle.seq_model.specs.declared.row.Row.{Row}

abbrev pub Distinct : List (List ℕ) → Type 0
Distinct [] = Unit {0}
Distinct (a ∷ bases) = ((b : List ℕ) → In b bases → a ≡ b → ⊥) × Distinct bases

pub record Table : Type 0 where
  pub d : ℤ
  pub basis : List ℕ
  pub lines : List (List ℤ)

pub record IsTable (vars : ℕ) (rows : List Row) (t : Table) : Type 0 where
  pub form : Form vars rows t.basis
  pub d_is : form.d ≡ t.d
  pub lines_are : form.lines ≡ t.lines

abbrev pub table_of : (vars : ℕ) (rows : List Row) (basis : List ℕ) → Form vars rows basis → Table
table_of vars rows basis f = record { d = f.d; basis = basis; lines = f.lines }

unfoldable pub line_content : ℕ → List ℤ → ℕ
line_content g [] = g
line_content g (x ∷ xs) = line_content (gcd_of g (unsigned_abs x)) xs

unfoldable pub content_of : ℕ → List (List ℤ) → ℕ
content_of g [] = g
content_of g (l ∷ lines) = content_of (line_content g l) lines

abbrev pub pivoted_by : ℕ → Table → ℕ → ℕ → ℤ → ℤ → List (List ℤ) → Table
pivoted_by count t r s g D N = record {
  d = int_div D g;
  basis = rising count (set t.basis r (get_or (free_of count t.basis) s 0));
  lines = sorted_lines count (set t.basis r (get_or (free_of count t.basis) s 0)) (set (free_of count t.basis) s (get_or t.basis r 0)) (map (quotients g) N);
}

abbrev pub divided : ℕ → Table → ℕ → ℕ → ℤ → List (List ℤ) → Table
divided count t r s D N = pivoted_by count t r s (pos (content_of (unsigned_abs D) N)) D N

abbrev pub pivoted_at : ℕ → Table → ℕ → ℕ → Table
pivoted_at count t r s = divided count t r s (t.d *ℤ entry_at (line_at t.lines r) (suc s)) (turned_lines t.d t.lines r (suc s))

abbrev pub pivoted : ℕ → Table → ℕ → ℕ → Table
pivoted count t out into = pivoted_at count t (place_of out t.basis) (place_of into (free_of count t.basis))

abbrev pub after_entering : ℕ → Table → ℕ → Option ℕ → Option Table
after_entering count t out None = None
after_entering count t out (Some into) = Some (pivoted count t out into)

abbrev pub after_leaving : ℕ → Table → Option ℕ → Option Table
after_leaving count t None = None
after_leaving count t (Some out) = after_entering count t out (entering (free_of count t.basis) (line_of out t.basis t.lines))

abbrev pub next_of : ℕ → Table → Option Table
next_of count t = after_leaving count t (leaving t.basis t.lines)

abbrev pub then_one : Option Table → (Table → ℕ) → ℕ
then_one None f = 0
then_one (Some t) f = suc (f t)

unfoldable pub steps_left : ℕ → ℕ → Table → ℕ
steps_left count zero t = 0
steps_left count (suc k) t = then_one (next_of count t) (steps_left count k)
