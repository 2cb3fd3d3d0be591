-- What a pivot in place does to a table over rows.
use Rattle.std.proofs.Common.{◌≡◌, ℕ, zero, suc, ◌+◌, ◌<◌, ◌≤◌, List, [], ◌∷◌, ◌++◌, take, length, map, get_or, All, refl, ap, sym, subst, arith, ℤ, int_div}
use Rattle.std.proofs.lemmas.List.{length-map}
use Rattle.integer_laws.specs.Members.{In}
use Rattle.row_laws.specs.Laws.Lines.{member}
use Rattle.row_pivots.specs.Laws.Measure.{place_is}
use Rattle.row_pivots.specs.Tables.{place_of}
use Rattle.row_pivots.specs.Laws.Pivoting.{get_or-In}
use Rattle.row_pivots.specs.Laws.Sorted.{rising_members, says_long}
use Rattle.row_pivots.specs.Tables.{Holds, rising, line_or}
use Rattle.row_pivots.specs.Laws.Turned.{turned}
use Rattle.row_pivots.specs.Turns.{quotients}
use Rattle.row_pivots.specs.Laws.WideRows.{wide_row}
use Rattle.std.proofs.lemmas.List.Elements.{All-cons, All-get_or}
use Rattle.row_pivots.specs.Ends.{Small}
use Rattle.row_dictionary.specs.Tables.{IsLine, AreLines}
use Rattle.row_dictionary.specs.Turns.{IsDivisor, Before, whole_den, whole_lines, variable_lines, swapped_basic, swapped_free, Done, Refused}
use Rattle.row_dictionary.proofs.ByVariables.{line_there, all_divided, variables_divided}
use Rattle.row_dictionary.proofs.Lines.{at_map}
use Rattle.seq_model.specs.Dictionaries.{WideAt}
use Rattle.seq_model.specs.declared.row.Row.{Row}

abbrev HoldsIt : ℕ → List Row → Before → Type 0
HoldsIt vars rows b = Holds vars rows b.d b.basic b.free b.lines

whole_divisor : (vars : ℕ) (rows : List Row) (b : Before) (r s : ℕ) (g : ℤ) → HoldsIt vars rows b → r < length b.basic → s < length b.free → IsDivisor (whole_den b r s) (variable_lines vars b r s) g → IsDivisor (whole_den b r s) (whole_lines b r s) g
whole_divisor vars rows b r s g h in_r in_s v = record { some = v.some; content = λ n. (λ k. (((v.content n).0 k).0, all_divided vars rows b.d b.basic b.free b.lines h r s in_r in_s n ((v.content n).0 k).0 ((v.content n).0 k).1), λ k. (v.content n).1 (k.0, variables_divided n vars (swapped_basic b r s) (whole_lines b r s) k.1)); sign = v.sign }

pub done_holds : (vars : ℕ) (rows : List Row) (b after : Before) (r s : ℕ) → HoldsIt vars rows b → r < length b.basic → s < length b.free → Done vars b r s after → HoldsIt vars rows after
done_holds vars rows b after r s h in_r in_s d =
    subst (λ t. Holds vars rows t after.basic after.free after.lines) (sym d.d)
    (subst (λ t. Holds vars rows (int_div (whole_den b r s) d.g) after.basic after.free t) (sym d.lines)
    (subst (λ t. Holds vars rows (int_div (whole_den b r s) d.g) after.basic t (map (quotients d.g) (whole_lines b r s))) (sym d.free)
    (subst (λ t. Holds vars rows (int_div (whole_den b r s) d.g) t (swapped_free b r s) (map (quotients d.g) (whole_lines b r s))) (sym d.basic)
    (turned vars rows b.d b.basic b.free b.lines h r s in_r in_s d.g (whole_divisor vars rows b r s d.g h in_r in_s d.by).some (whole_divisor vars rows b r s d.g h in_r in_s d.by).content (whole_divisor vars rows b r s d.g h in_r in_s d.by).sign))))

pub refused_wide : (vars : ℕ) (rows : List Row) (b : Before) (r s z : ℕ) → HoldsIt vars rows b → r < length b.basic → s < length b.free → Refused vars b r s z
    → WideAt vars rows (rising (vars + length rows) (swapped_basic b r s)) z
refused_wide vars rows b r s z h in_r in_s w = (wide_row vars rows e basic (swapped_free b r s) lines T z in_z).1 not_small
  where
    e : ℤ
    e = int_div (whole_den b r s) w.g

    basic : List ℕ
    basic = swapped_basic b r s

    lines : List (List ℤ)
    lines = map (quotients w.g) (whole_lines b r s)

    T : Holds vars rows (int_div (whole_den b r s) w.g) (swapped_basic b r s) (swapped_free b r s) (map (quotients w.g) (whole_lines b r s))
    T = turned vars rows b.d b.basic b.free b.lines h r s in_r in_s w.g (whole_divisor vars rows b r s w.g h in_r in_s w.by).some (whole_divisor vars rows b r s w.g h in_r in_s w.by).content (whole_divisor vars rows b r s w.g h in_r in_s w.by).sign

    long : length (swapped_basic b r s) ≡ length (map (quotients w.g) (whole_lines b r s))
    long = says_long vars rows (int_div (whole_den b r s) w.g) (swapped_free b r s) (swapped_basic b r s) (map (quotients w.g) (whole_lines b r s)) T.says

    i : ℕ
    i = w.least.0.0

    in_i : i < length (swapped_basic b r s)
    in_i = let l = length-map (map (quotients w.g) (whole_lines b r s)) (λ (t : List ℤ). int_div (whole_den b r s) w.g ∷ t) in let k = w.least.0.1 in let m = long in omega (arith, l, k, m)

    in_z : In z (swapped_basic b r s)
    in_z = subst (λ t. In t (swapped_basic b r s)) w.least.0.2 (get_or-In (swapped_basic b r s) i 0 in_i)

    not_small : All Small (int_div (whole_den b r s) w.g ∷ line_or z (swapped_basic b r s) (map (quotients w.g) (whole_lines b r s))) → ⊥
    not_small all =
        w.least.0.3 (subst (All Small) (sym (at_map (λ (t : List ℤ). int_div (whole_den b r s) w.g ∷ t) (map (quotients w.g) (whole_lines b r s)) i [] [] (let m = long in let k = in_i in omega (arith, m, k))))
        (subst (λ t. All Small (int_div (whole_den b r s) w.g ∷ t)) (line_there (swapped_basic b r s) (map (quotients w.g) (whole_lines b r s)) i z T.fresh_basic long in_i w.least.0.2) all))

pub refused_least : (vars : ℕ) (rows : List Row) (b : Before) (r s z : ℕ) → HoldsIt vars rows b → r < length b.basic → s < length b.free → Refused vars b r s z
    → (y : ℕ) → WideAt vars rows (rising (vars + length rows) (swapped_basic b r s)) y → z ≤ y
refused_least vars rows b r s z h in_r in_s w y wide = subst (λ t. z ≤ t) at.1 (w.least.1 (place_of y (swapped_basic b r s)) in_lines not_small)
  where
    T : Holds vars rows (int_div (whole_den b r s) w.g) (swapped_basic b r s) (swapped_free b r s) (map (quotients w.g) (whole_lines b r s))
    T = turned vars rows b.d b.basic b.free b.lines h r s in_r in_s w.g (whole_divisor vars rows b r s w.g h in_r in_s w.by).some (whole_divisor vars rows b r s w.g h in_r in_s w.by).content (whole_divisor vars rows b r s w.g h in_r in_s w.by).sign

    long : length (swapped_basic b r s) ≡ length (map (quotients w.g) (whole_lines b r s))
    long = says_long vars rows (int_div (whole_den b r s) w.g) (swapped_free b r s) (swapped_basic b r s) (map (quotients w.g) (whole_lines b r s)) T.says

    in_y : In y (swapped_basic b r s)
    in_y = (rising_members (vars + length rows) (swapped_basic b r s) T.small_basic y).0 (member (rising (vars + length rows) (swapped_basic b r s)) wide.form.lines y wide.line wide.has)

    at : (place_of y (swapped_basic b r s) < length (swapped_basic b r s)) × (get_or (swapped_basic b r s) (place_of y (swapped_basic b r s)) 0 ≡ y)
    at = place_is y (swapped_basic b r s) in_y

    in_lines : place_of y (swapped_basic b r s) < length (map (λ (t : List ℤ). int_div (whole_den b r s) w.g ∷ t) (map (quotients w.g) (whole_lines b r s)))
    in_lines = let l = length-map (map (quotients w.g) (whole_lines b r s)) (λ (t : List ℤ). int_div (whole_den b r s) w.g ∷ t) in let k = at.0 in let m = long in omega (arith, l, k, m)

    not_small : All Small (get_or (map (λ (t : List ℤ). int_div (whole_den b r s) w.g ∷ t) (map (quotients w.g) (whole_lines b r s))) (place_of y (swapped_basic b r s)) []) → ⊥
    not_small all =
        (wide_row vars rows (int_div (whole_den b r s) w.g) (swapped_basic b r s) (swapped_free b r s) (map (quotients w.g) (whole_lines b r s)) T y in_y).0 wide
        (subst (λ t. All Small (int_div (whole_den b r s) w.g ∷ t)) (sym (line_there (swapped_basic b r s) (map (quotients w.g) (whole_lines b r s)) (place_of y (swapped_basic b r s)) y T.fresh_basic long at.0 at.1))
        (subst (All Small) (at_map (λ (t : List ℤ). int_div (whole_den b r s) w.g ∷ t) (map (quotients w.g) (whole_lines b r s)) (place_of y (swapped_basic b r s)) [] [] (let m = long in let k = at.0 in omega (arith, m, k))) all))

-- a buffer whose front was written
pub front_of : {A : Type 0} (xs ys : List A) (n : ℕ) → length xs ≡ n → take n (xs ++ ys) ≡ xs
front_of [] ys zero e = refl
front_of [] ys (suc n) e = absurd (omega (arith, e))
front_of (x ∷ xs) ys zero e = absurd (omega (arith, e))
front_of (x ∷ xs) ys (suc n) e = ap (λ t. x ∷ t) (front_of xs ys n (omega (arith, e)))

-- a table of small numbers is wide nowhere
pub small_nowhere : (vars : ℕ) (rows : List Row) (b : Before) (n : ℕ) → HoldsIt vars rows b → Small b.d → AreLines n b.lines → (y : ℕ) → WideAt vars rows (rising (vars + length rows) b.basic) y → ⊥
small_nowhere vars rows b n h d lines y wide = (wide_row vars rows b.d b.basic b.free b.lines h y in_y).0 wide small
  where
    long : length b.basic ≡ length b.lines
    long = says_long vars rows b.d b.free b.basic b.lines h.says

    in_y : In y b.basic
    in_y = (rising_members (vars + length rows) b.basic h.small_basic y).0 (member (rising (vars + length rows) b.basic) wide.form.lines y wide.line wide.has)

    at : (place_of y b.basic < length b.basic) × (get_or b.basic (place_of y b.basic) 0 ≡ y)
    at = place_is y b.basic in_y

    small : All Small (b.d ∷ line_or y b.basic b.lines)
    small =
        All-cons Small b.d (line_or y b.basic b.lines) d
        (subst (All Small) (sym (line_there b.basic b.lines (place_of y b.basic) y h.fresh_basic long at.0 at.1)) (All-get_or (IsLine n) b.lines (place_of y b.basic) [] (let l = long in let k = at.0 in omega (arith, l, k)) lines).1)
