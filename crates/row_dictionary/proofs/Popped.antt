-- A table without its last row is the table of the other rows, over the same denominator.
use Rattle.std.proofs.Common.{◌≡◌, ◌≢◌, ℕ, suc, ◌+◌, ◌-◌, ◌<◌, List, [], ◌∷◌, ◌++◌, length, map, get_or, refl, ap, ap₂, sym, subst, ◌∙◌, arith, ℤ, pos, ◌-ℤ◌, ◌*ℤ◌, ◌≤ℤ◌, ◌⊎◌, inl, inr, unsigned_abs, int_div, Contains}
use Rattle.std.proofs.lemmas.Int.{ints}
use Rattle.std.specs.List.{swap_remove}
use Rattle.integer_laws.specs.Laws.Divisors.{exact_quotient}
use Rattle.integer_laws.specs.Laws.Members.{All-in, In-from_contains, In-append_left, In-append_right, In-append_cases}
use Rattle.integer_laws.specs.Laws.Order.{same_from}
use Rattle.integer_laws.specs.Laws.Ring.{expand}
use Rattle.integer_laws.specs.Members.{In}
use Rattle.row_laws.specs.Laws.Kernel.{cancel_factor}
use Rattle.row_laws.specs.Laws.OneForm.{one_form}
use Rattle.row_laws.specs.Laws.Pivots.{filter_climbs, rising_same}
use Rattle.row_pivots.specs.Growing.{row_line}
use Rattle.row_pivots.specs.Laws.Grown.{grown, length-more}
use Rattle.row_pivots.specs.Laws.Measure.{place_is, content_divides}
use Rattle.row_pivots.specs.Laws.Shrunk.{Removed, removed, shrunk}
use Rattle.row_pivots.specs.Laws.Sorted.{table_is_form, rising_members, says_long}
use Rattle.row_pivots.specs.Laws.Turned.{divides_self}
use Rattle.row_pivots.specs.Steps.{content_of}
use Rattle.row_pivots.specs.Tables.{Holds, Held, rising, place_of}
use Rattle.row_pivots.specs.Turns.{quotients}
use Rattle.row_dictionary.specs.Turns.{IsDivisor}
use Rattle.row_dictionary.proofs.Backwards.{same_or_not}
use Rattle.row_dictionary.proofs.Signing.{divided_by}
use Rattle.row_dictionary.proofs.Skipping.{times_quotient}
use Rattle.seq_model.specs.Dictionaries.{is_in, Form}
use Rattle.seq_model.specs.declared.row.Row.{Row}

-- ---- what divides a table
content : (d : ℤ) (lines : List (List ℤ)) → pos 1 ≤ℤ d → IsDivisor d lines (pos (content_of (unsigned_abs d) lines))
content d lines p =
    divided_by d lines (pos (content_of (unsigned_abs d) lines)) (pos (content_of (unsigned_abs d) lines)) (λ z. absurd (omega (arith, ints, p, z))) (content_divides (unsigned_abs d) lines) refl (λ h. omega (arith, ints))
    (λ h. absurd (omega (arith, ints, p, h)))

by_one : (x : ℤ) → int_div x (pos 1) ≡ x
by_one x = ap (λ t. int_div t (pos 1)) (once x) ∙ times_quotient (pos 1) x (λ z. absurd (omega (arith, ints, z)))
  where
    once : (x : ℤ) → x ≡ pos 1 *ℤ x
    once x = omega (arith, ints)

lines_by_one : (lines : List (List ℤ)) → map (quotients (pos 1)) lines ≡ lines
lines_by_one [] = refl
lines_by_one (l ∷ lines) = ap₂ (λ a b. a ∷ b) (numbers l) (lines_by_one lines)
  where
    numbers : (l : List ℤ) → quotients (pos 1) l ≡ l
    numbers [] = refl
    numbers (x ∷ l) = ap₂ (λ a b. a ∷ b) (by_one x) (numbers l)

-- what divides a number and leaves it as it is
only_one : (d g : ℤ) → pos 1 ≤ℤ d → d ≡ g *ℤ d → g ≡ pos 1
only_one d g p e = differ g (cancel_factor d (g -ℤ pos 1) (λ z. absurd (omega (arith, ints, p, z))) (spread d g e))
  where
    spread : (d g : ℤ) → d ≡ g *ℤ d → d *ℤ (g -ℤ pos 1) ≡ pos 0
    spread d g e = same_from (sym e) (simp expand (omega (arith, ints)))

    differ : (g : ℤ) → g -ℤ pos 1 ≡ pos 0 → g ≡ pos 1
    differ g h = omega (arith, ints, h)

-- ---- one denominator
same_den : (vars : ℕ) (rows : List Row) (b c : List ℕ) → b ≡ c → (f : Form vars rows b) (g : Form vars rows c) → f.d ≡ g.d
same_den vars rows b c e f g = subst (λ (l : List ℕ). (g : Form vars rows l) → f.d ≡ g.d) e (λ g. (one_form vars rows b f g).0) g

same_rising : (count : ℕ) (b c : List ℕ) → ((z : ℕ) → In z (rising count b) → In z (rising count c)) → ((z : ℕ) → In z (rising count c) → In z (rising count b)) → rising count b ≡ rising count c
same_rising count b c there back = rising_same 0 count (rising count b) (rising count c) (filter_climbs (is_in b) 0 count count (omega arith)) (filter_climbs (is_in c) 0 count count (omega arith)) there back

-- the same variables at other places have the same denominator
one_den : (vars : ℕ) (rows : List Row) (d e : ℤ) (basic free others gone : List ℕ) (L M : List (List ℤ)) → Holds vars rows d basic free L → Holds vars rows e others gone M → ((z : ℕ) → In z basic → In z others) → ((z : ℕ) → In z others → In z basic) → d ≡ e
one_den vars rows d e basic free others gone L M h k there back =
    sym F.d_is ∙ same_den vars rows (rising count basic) (rising count others) same F.form G.form ∙ G.d_is
  where
    count : ℕ
    count = vars + length rows

    F : Held vars rows d basic free L
    F = table_is_form vars rows d basic free L h

    G : Held vars rows e others gone M
    G = table_is_form vars rows e others gone M k

    same : rising (vars + length rows) basic ≡ rising (vars + length rows) others
    same = same_rising (vars + length rows) basic others
        (λ z i. (rising_members (vars + length rows) others k.small_basic z).1 (there z ((rising_members (vars + length rows) basic h.small_basic z).0 i)))
        (λ z i. (rising_members (vars + length rows) basic h.small_basic z).1 (back z ((rising_members (vars + length rows) others k.small_basic z).0 i)))

-- ---- without a row
without : (vars : ℕ) (rows : List Row) (row : Row) (d : ℤ) (basic free left : List ℕ) (lines kept : List (List ℤ)) → Holds vars (rows ++ row ∷ []) d basic free lines → In (vars + length rows) basic
    → Removed vars (rows ++ row ∷ []) d free basic (vars + length rows) left kept → Holds vars rows d left free kept
without vars rows row d basic free left lines kept h in_z gone =
    subst (λ t. Holds vars rows t left free kept) same
    (subst (λ (t : List (List ℤ)). Holds vars rows (int_div d g) left free t) (ap (λ t. map (quotients t) kept) one ∙ lines_by_one kept) fewer)
  where
    g : ℤ
    g = pos (content_of (unsigned_abs d) kept)

    by : IsDivisor d kept (pos (content_of (unsigned_abs d) kept))
    by = content d kept h.positive

    fewer : Holds vars rows (int_div d (pos (content_of (unsigned_abs d) kept))) left free (map (quotients (pos (content_of (unsigned_abs d) kept))) kept)
    fewer = shrunk vars rows row d basic free lines h in_z left kept gone g by.some by.content by.sign

    long : length row.a ≡ vars
    long = All-in (λ (r : Row). length r.a ≡ vars) (rows ++ row ∷ []) row h.rows_are (In-append_right rows (row ∷ []) row (inl refl))

    more : Holds vars (rows ++ row ∷ []) (int_div d g) (left ++ (vars + length rows) ∷ []) free (map (quotients g) kept ++ row_line vars (int_div d g) left free (map (quotients g) kept) row ∷ [])
    more = grown vars rows (int_div d g) left free (map (quotients g) kept) fewer row long

    there : (y : ℕ) → In y basic → In y (left ++ (vars + length rows) ∷ [])
    there y i = at (same_or_not y (vars + length rows))
      where
        at : (y ≡ vars + length rows) ⊎ (y ≢ vars + length rows) → In y (left ++ (vars + length rows) ∷ [])
        at (inl e) = In-append_right left ((vars + length rows) ∷ []) y (inl e)
        at (inr n) = In-append_left left ((vars + length rows) ∷ []) y (gone.stays y i n)

    back : (y : ℕ) → In y (left ++ (vars + length rows) ∷ []) → In y basic
    back y i = at (In-append_cases left ((vars + length rows) ∷ []) y i)
      where
        at : In y left ⊎ In y ((vars + length rows) ∷ []) → In y basic
        at (inl j) = (gone.from y j).0
        at (inr (inl e)) = subst (λ t. In t basic) (sym e) in_z
        at (inr (inr j)) = absurd j

    same : int_div d (pos (content_of (unsigned_abs d) kept)) ≡ d
    same = sym (one_den vars (rows ++ row ∷ []) d (int_div d g) basic free (left ++ (vars + length rows) ∷ []) free lines _ h more there back)

    one : pos (content_of (unsigned_abs d) kept) ≡ pos 1
    one = only_one d g h.positive (exact_quotient d g ((by.content (unsigned_abs g)).0 (divides_self (unsigned_abs g))).0 ∙ ap (λ t. g *ℤ t) same)

pub popped : (vars : ℕ) (rows : List Row) (row : Row) (d : ℤ) (basic free left : List ℕ) (lines kept : List (List ℤ)) (r : ℕ) (k : List ℤ) → length free ≡ vars → Contains basic (vars + length basic - 1)
    → r ≡ place_of (length basic + length free - 1) basic → left ≡ swap_remove basic r 0 → kept ≡ swap_remove lines r k → Holds vars (rows ++ row ∷ []) d basic free lines → Holds vars rows d left free kept
popped vars rows row d basic free left lines kept r k many has at l m h = without vars rows row d basic free left lines kept h in_z gone
  where
    long : length basic ≡ suc (length rows)
    long = h.many ∙ length-more rows row

    last : vars + length basic - 1 ≡ vars + length rows
    last = let a = long in omega (arith, a)

    in_z : In (vars + length rows) basic
    in_z = subst (λ t. In t basic) last (In-from_contains basic (vars + length basic - 1) has)

    place : r ≡ place_of (vars + length rows) basic
    place = at ∙ ap (λ t. place_of t basic) (let a = long in omega (arith, a, many))

    found : (r < length basic) × (get_or basic r 0 ≡ vars + length rows)
    found = subst (λ t. (t < length basic) × (get_or basic t 0 ≡ vars + length rows)) (sym place) (place_is (vars + length rows) basic in_z)

    gone : Removed vars (rows ++ row ∷ []) d free basic (vars + length rows) left kept
    gone =
        subst (λ (t : List ℕ). Removed vars (rows ++ row ∷ []) d free basic (vars + length rows) t kept) (sym l)
        (subst (λ (t : List (List ℤ)). Removed vars (rows ++ row ∷ []) d free basic (vars + length rows) (swap_remove basic r 0) t) (sym m)
        (subst (λ z. Removed vars (rows ++ row ∷ []) d free basic z (swap_remove basic r 0) (swap_remove lines r k)) found.1
        (removed vars (rows ++ row ∷ []) d free basic lines (says_long vars (rows ++ row ∷ []) d free basic lines h.says) h.fresh_basic h.says r found.0 k)))
