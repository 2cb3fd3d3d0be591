-- One row more: its slack is basic, and its line is the row over the free variables.
--
--   meaning_more   a row more leaves the meaning of all others
--   line_more, line_less    a line says the same over one row more, and over one less
--   grown          the table of the rows and one more
use Rattle.std.proofs.Common.{◌≡◌, ℕ, zero, suc, ◌+◌, ◌-◌, ◌<◌, ◌≤◌, List, [], ◌∷◌, ◌++◌, length, map, get_or, All, refl, ap, ap₂, sym, subst, ◌∙◌, arith, ℤ, pos, ◌+ℤ◌, ◌*ℤ◌, ◌⊎◌, inl, inr, Bool, true, false, length-set, unsigned_abs}
use Rattle.std.proofs.lemmas.Bool.{cases_lt}
use Rattle.std.proofs.lemmas.Bool.Decides.{nat_tests}
use Rattle.std.proofs.lemmas.Int.{ints}
use Rattle.std.proofs.lemmas.List.{length-replicate}
use Rattle.std.specs.Int.{◌∣◌}
use Rattle.std.specs.List.{range_with_len}
use Rattle.std.specs.Prelude.{nat_lt, slice_set, replicate, if◌then◌else◌}
use Rattle.integer_laws.specs.Members.{In}
use Rattle.integer_laws.specs.Laws.Members.{All-in, All-from_in, In-append_left, In-append_right, In-append_cases, In-map_cases}
use Rattle.integer_laws.specs.Vectors.{dot, scale, zeros}
use Rattle.integer_laws.specs.Laws.Vectors.{dot_comm, dot-plus, dot-scale, dot-zeros}
use Rattle.row_laws.specs.Laws.Independence.{is_in_member, in_basis, true_or_false}
use Rattle.row_pivots.specs.Growing.{line_over, row_lines, row_line}
use Rattle.row_pivots.specs.Laws.Measure.{place_is}
use Rattle.row_pivots.specs.Laws.Pivoting.{Line, line_from, line_each, column, long_combination}
use Rattle.row_pivots.specs.Laws.Points.{slack_is}
use Rattle.row_pivots.specs.Laws.Slacks.{by_variables}
use Rattle.row_pivots.specs.Laws.Sorted.{says_or}
use Rattle.row_pivots.specs.Laws.Turned.{unit_says}
use Rattle.row_pivots.specs.Tables.{AreRowsOf, InRange, Fresh, Holds, line_or, place_of}
use Rattle.row_pivots.specs.Turns.{unit_line}
use Rattle.seq_model.specs.Dictionaries.{meaning, one, combination, is_in, Says}
use Rattle.seq_model.specs.Systems.{row_at, no_row}
use Rattle.seq_model.specs.declared.row.Row.{Row}

-- ---- the meaning of variables and slacks
at_front : (rows : List Row) (row : Row) (i : ℕ) (w : Row) → i < length rows → get_or (rows ++ row ∷ []) i w ≡ get_or rows i w
at_front [] row i w h = absurd (omega (arith, h))
at_front (x ∷ rows) row zero w h = refl
at_front (x ∷ rows) row (suc i) w h = at_front rows row i w (omega (arith, h))

pub at_end : {A : Type 0} (xs : List A) (x w : A) → get_or (xs ++ x ∷ []) (length xs) w ≡ x
at_end [] x w = refl
at_end (y ∷ xs) x w = at_end xs x w

pub length-more : {A : Type 0} (xs : List A) (x : A) → length (xs ++ x ∷ []) ≡ suc (length xs)
length-more [] x = refl
length-more (y ∷ xs) x = ap suc (length-more xs x)

pub meaning_more : (vars : ℕ) (rows : List Row) (row : Row) (z : ℕ) → z < vars + length rows → meaning vars (rows ++ row ∷ []) z ≡ meaning vars rows z
meaning_more vars rows row z h = by (nat_lt z vars) refl
  where
    past : nat_lt z vars ≡ false → (z - vars) < length rows
    past e = grind (arith, nat_tests, h)

    by : (b : Bool) → nat_lt z vars ≡ b
        → (if b then pos 0 ∷ slice_set (replicate vars (pos 0)) z (pos 1) else (row_at (rows ++ row ∷ []) (z - vars)).c ∷ (row_at (rows ++ row ∷ []) (z - vars)).a)
        ≡ (if b then pos 0 ∷ slice_set (replicate vars (pos 0)) z (pos 1) else (row_at rows (z - vars)).c ∷ (row_at rows (z - vars)).a)
    by true e = refl
    by false e = ap (λ (r : Row). r.c ∷ r.a) (at_front rows row (z - vars) no_row (past e))

meanings_more : (vars : ℕ) (rows : List Row) (row : Row) (zs : List ℕ) → InRange (vars + length rows) zs → map (meaning vars (rows ++ row ∷ [])) zs ≡ map (meaning vars rows) zs
meanings_more vars rows row [] h = refl
meanings_more vars rows row (z ∷ zs) h = ap₂ (λ a b. a ∷ b) (meaning_more vars rows row z (h z (inl refl))) (meanings_more vars rows row zs (λ y i. h y (inr i)))

pub line_more : (vars : ℕ) (rows : List Row) (row : Row) (d : ℤ) (free : List ℕ) → InRange (vars + length rows) free → (z : ℕ) → z < vars + length rows → (l : List ℤ) → Line vars rows d free z l → Line vars (rows ++ row ∷ []) d free z l
line_more vars rows row d free small z h l says = (says.0, ap (scale d) (meaning_more vars rows row z h) ∙ says.1 ∙ ap (λ (t : List (List ℤ)). combination l (one vars ∷ t)) (sym (meanings_more vars rows row free small)))

pub line_less : (vars : ℕ) (rows : List Row) (row : Row) (d : ℤ) (free : List ℕ) → InRange (vars + length rows) free → (z : ℕ) → z < vars + length rows → (l : List ℤ) → Line vars (rows ++ row ∷ []) d free z l → Line vars rows d free z l
line_less vars rows row d free small z h l says = (says.0, ap (scale d) (sym (meaning_more vars rows row z h)) ∙ says.1 ∙ ap (λ (t : List (List ℤ)). combination l (one vars ∷ t)) (meanings_more vars rows row free small))

says_more : (vars : ℕ) (rows : List Row) (row : Row) (d : ℤ) (free : List ℕ) → InRange (vars + length rows) free → (basic : List ℕ) (lines : List (List ℤ)) → InRange (vars + length rows) basic → (z : ℕ) (line : List ℤ)
    → Says vars rows d free basic lines → Line vars (rows ++ row ∷ []) d free z line → Says vars (rows ++ row ∷ []) d free (basic ++ z ∷ []) (lines ++ line ∷ [])
says_more vars rows row d free small [] [] r z line says l = (l, tt)
says_more vars rows row d free small [] (k ∷ lines) r z line says l = absurd says
says_more vars rows row d free small (y ∷ basic) [] r z line says l = absurd says
says_more vars rows row d free small (y ∷ basic) (k ∷ lines) r z line says l =
    (line_more vars rows row d free small y (r y (inl refl)) k says.0, says_more vars rows row d free small basic lines (λ w i. r w (inr i)) z line says.1 l)

-- ---- the line of any variable
over_line : (vars : ℕ) (rows : List Row) (d : ℤ) (basic free : List ℕ) (lines : List (List ℤ)) → Holds vars rows d basic free lines → (z : ℕ) → z < vars + length rows → Line vars rows d free z (line_over d basic free lines z)
over_line vars rows d basic free lines h z small = by (true_or_false (is_in basic z))
  where
    here : In z free → Line vars rows d free z (unit_line (suc (length free)) (suc (place_of z free)) d)
    here i = subst (λ t. Line vars rows d free t (unit_line (suc (length free)) (suc (place_of z free)) d)) (place_is z free i).1 (unit_says vars rows h.rows_are d free h.small_free (place_of z free) (place_is z free i).0)

    fold : (b : Bool) → is_in basic z ≡ b → Line vars rows d free z (if b then line_or z basic lines else unit_line (suc (length free)) (suc (place_of z free)) d) → Line vars rows d free z (line_over d basic free lines z)
    fold b e l = subst (λ (c : Bool). Line vars rows d free z (if c then line_or z basic lines else unit_line (suc (length free)) (suc (place_of z free)) d)) (sym e) l

    into : is_in basic z ≡ false → In z basic ⊎ In z free → In z free
    into e (inl i) = absurd (clash (is_in_member basic z i) e)
      where
        clash : is_in basic z ≡ true → is_in basic z ≡ false → ⊥
        clash p q = grind arith
    into e (inr i) = i

    by : (is_in basic z ≡ true) ⊎ (is_in basic z ≡ false) → Line vars rows d free z (line_over d basic free lines z)
    by (inl e) = fold true e (says_or vars rows d free basic lines h.says z (in_basis basic z e))
    by (inr e) = fold false e (here (into e (h.cover z small)))

-- ---- the row over the free variables
dot-combination : (es : List ℤ) (vs : List (List ℤ)) (u : List ℤ) → dot (combination es vs) u ≡ dot es (map (λ v. dot v u) vs)
dot-combination [] vs u = refl
dot-combination (e ∷ es) [] u = refl
dot-combination (e ∷ es) (v ∷ vs) u = dot-plus (scale e v) (combination es vs) u ∙ ap₂ ◌+ℤ◌ (dot-scale e v u) (dot-combination es vs u)

first_only : (n : ℕ) (d x : ℤ) (cs : List ℤ) → dot (unit_line (suc n) 0 d) (x ∷ cs) ≡ d *ℤ x
first_only n d x cs = settle (d *ℤ x) (dot (zeros n) cs) (dot-zeros n cs)
  where
    settle : (a b : ℤ) → b ≡ pos 0 → a +ℤ b ≡ a
    settle a b e = omega (arith, ints, e)

each_dot : (d : ℤ) (f : ℕ → List ℤ) (u : List ℤ) (m : ℕ → ℤ) (zs : List ℕ) → ((z : ℕ) → In z zs → dot (f z) u ≡ d *ℤ m z) → map (λ v. dot v u) (map f zs) ≡ scale d (map m zs)
each_dot d f u m [] h = refl
each_dot d f u m (z ∷ zs) h = ap₂ (λ a b. a ∷ b) (h z (inl refl)) (each_dot d f u m zs (λ y i. h y (inr i)))

dot-scale_right : (d : ℤ) (a u : List ℤ) → dot a (scale d u) ≡ d *ℤ dot a u
dot-scale_right d a u = dot_comm a (scale d u) ∙ dot-scale d u a ∙ ap (λ t. d *ℤ t) (dot_comm u a)

map_map : (j : ℕ) (f : ℕ → List ℤ) (zs : List ℕ) → map (λ z. get_or (f z) j (pos 0)) zs ≡ column j (map f zs)
map_map j f [] = refl
map_map j f (z ∷ zs) = ap (λ t. get_or (f z) j (pos 0) ∷ t) (map_map j f zs)

range_below : (low n z : ℕ) → In z (range_with_len low n) → z < low + n
range_below low zero z i = absurd i
range_below low (suc n) z (inl e) = omega (arith, e)
range_below low (suc n) z (inr i) = let k = range_below (low + 1) n z i in omega (arith, k)

row_number : (vars : ℕ) (rows : List Row) (d : ℤ) (basic free : List ℕ) (lines : List (List ℤ)) → Holds vars rows d basic free lines → (row : Row) → length row.a ≡ vars → (j : ℕ)
    → dot (row_line vars d basic free lines row) (column j (one vars ∷ map (meaning vars rows) free)) ≡ d *ℤ get_or (row.c ∷ row.a) j (pos 0)
row_number vars rows d basic free lines h row l j =
    dot-combination (row.c ∷ row.a) (row_lines vars d basic free lines) cs
    ∙ ap (dot (row.c ∷ row.a)) (ap₂ (λ a b. a ∷ b) (first_only (length free) d (get_or (one vars) j (pos 0)) (column j (map (meaning vars rows) free)))
    (each_dot d (line_over d basic free lines) cs (λ z. get_or (meaning vars rows z) j (pos 0)) (range_with_len 0 vars) each ∙ ap (scale d) (map_map j (meaning vars rows) (range_with_len 0 vars))))
    ∙ dot-scale_right d (row.c ∷ row.a) (column j (one vars ∷ map (meaning vars rows) (range_with_len 0 vars)))
    ∙ ap (λ t. d *ℤ t) (by_variables vars rows row.c row.a l j)
  where
    cs : List ℤ
    cs = column j (one vars ∷ map (meaning vars rows) free)

    each : (z : ℕ) → In z (range_with_len 0 vars) → dot (line_over d basic free lines z) (column j (one vars ∷ map (meaning vars rows) free)) ≡ d *ℤ get_or (meaning vars rows z) j (pos 0)
    each z i =
        let k = range_below 0 vars z i in
        sym (line_each vars rows d free z (line_over d basic free lines z) (over_line vars rows d basic free lines h z (omega (arith, k))) j)

row_long : (vars : ℕ) (rows : List Row) (d : ℤ) (basic free : List ℕ) (lines : List (List ℤ)) → Holds vars rows d basic free lines → (row : Row) → length (row_line vars d basic free lines row) ≡ suc (length free)
row_long vars rows d basic free lines h row = long_combination (suc (length free)) row.c row.a (unit_line (suc (length free)) 0 d) (map (line_over d basic free lines) (range_with_len 0 vars)) each
  where
    each : (w : List ℤ) → In w (row_lines vars d basic free lines) → length w ≡ suc (length free)
    each w (inl e) = ap length e ∙ length-set (zeros (suc (length free))) 0 d ∙ length-replicate (suc (length free)) (pos 0)
    each w (inr i) =
        let k = In-map_cases (line_over d basic free lines) (range_with_len 0 vars) w i in
        let small = range_below 0 vars k.0 k.1 in
        ap length k.2 ∙ (over_line vars rows d basic free lines h k.0 (omega (arith, small))).0

row_says : (vars : ℕ) (rows : List Row) (d : ℤ) (basic free : List ℕ) (lines : List (List ℤ)) → Holds vars rows d basic free lines → (row : Row) → length row.a ≡ vars → AreRowsOf vars (rows ++ row ∷ [])
    → Line vars (rows ++ row ∷ []) d free (vars + length rows) (row_line vars d basic free lines row)
row_says vars rows d basic free lines h row l are =
    line_from vars (rows ++ row ∷ []) are d free (λ z i. let k = h.small_free z i in let m = length-more rows row in omega (arith, k, m)) (vars + length rows) (let m = length-more rows row in omega (arith, m))
    (row_line vars d basic free lines row) (row_long vars rows d basic free lines h row)
    (λ j. ap (λ (v : List ℤ). d *ℤ get_or v j (pos 0)) (slack_is vars (rows ++ row ∷ []) (length rows) ∙ ap (λ (r : Row). r.c ∷ r.a) (at_end rows row no_row))
    ∙ sym (row_number vars rows d basic free lines h row l j)
    ∙ ap (λ (t : List (List ℤ)). dot (row_line vars d basic free lines row) (column j (one vars ∷ t))) (sym (meanings_more vars rows row free h.small_free)))

-- ---- the table
pub fresh_more : (xs : List ℕ) (y : ℕ) → Fresh xs → (In y xs → ⊥) → Fresh (xs ++ y ∷ [])
fresh_more [] y f n = (λ i. i, tt)
fresh_more (x ∷ xs) y f n = (λ i. by (In-append_cases xs (y ∷ []) x i), fresh_more xs y f.1 (λ i. n (inr i)))
  where
    by : In x xs ⊎ In x (y ∷ []) → ⊥
    by (inl i) = f.0 i
    by (inr (inl e)) = n (inl (sym e))
    by (inr (inr i)) = i

pub grown : (vars : ℕ) (rows : List Row) (d : ℤ) (basic free : List ℕ) (lines : List (List ℤ)) → Holds vars rows d basic free lines → (row : Row) → length row.a ≡ vars
    → Holds vars (rows ++ row ∷ []) d (basic ++ (vars + length rows) ∷ []) free (lines ++ row_line vars d basic free lines row ∷ [])
grown vars rows d basic free lines h row l = record {
  rows_are = are;
  positive = h.positive;
  many = length-more basic z ∙ ap suc h.many ∙ sym (length-more rows row);
  fresh_basic = fresh_more basic z h.fresh_basic (λ i. let k = h.small_basic z i in absurd (omega (arith, k)));
  fresh_free = h.fresh_free;
  apart = λ y i k. apart y i (In-append_cases basic (z ∷ []) y k);
  small_basic = λ y k. within y (In-append_cases basic (z ∷ []) y k);
  small_free = λ y i. let k = h.small_free y i in let m = length-more rows row in omega (arith, k, m);
  cover = λ y k. cover y k (cases_lt y z);
  says = says_more vars rows row d free h.small_free basic lines h.small_basic z (row_line vars d basic free lines row) h.says (row_says vars rows d basic free lines h row l are);
  reduced = λ k a. h.reduced k (a.0, All-from_in (λ (line : List ℤ). All (λ x. k ∣ unsigned_abs x) line) lines (λ w i. All-in (λ (line : List ℤ). All (λ x. k ∣ unsigned_abs x) line) (lines ++ row_line vars d basic free lines row ∷ []) w a.1 (In-append_left lines (row_line vars d basic free lines row ∷ []) w i)));
}
  where
    z : ℕ
    z = vars + length rows

    are : AreRowsOf vars (rows ++ row ∷ [])
    are = All-from_in (λ (r : Row). length r.a ≡ vars) (rows ++ row ∷ []) (λ r i. by r (In-append_cases rows (row ∷ []) r i))
      where
        by : (r : Row) → In r rows ⊎ In r (row ∷ []) → length r.a ≡ vars
        by r (inl i) = All-in (λ (r : Row). length r.a ≡ vars) rows r h.rows_are i
        by r (inr (inl e)) = ap (λ (r : Row). length r.a) e ∙ l
        by r (inr (inr i)) = absurd i

    apart : (y : ℕ) → In y free → In y basic ⊎ In y (z ∷ []) → ⊥
    apart y i (inl k) = h.apart y i k
    apart y i (inr (inl e)) = let k = h.small_free y i in absurd (omega (arith, k, e))
    apart y i (inr (inr k)) = k

    within : (y : ℕ) → In y basic ⊎ In y (z ∷ []) → y < vars + length (rows ++ row ∷ [])
    within y (inl i) = let k = h.small_basic y i in let m = length-more rows row in omega (arith, k, m)
    within y (inr (inl e)) = let m = length-more rows row in omega (arith, m, e)
    within y (inr (inr i)) = absurd i

    cover : (y : ℕ) → y < vars + length (rows ++ row ∷ []) → (y < z) ⊎ (z ≤ y) → In y (basic ++ z ∷ []) ⊎ In y free
    cover y k (inl m) = by (h.cover y m)
      where
        by : In y basic ⊎ In y free → In y (basic ++ z ∷ []) ⊎ In y free
        by (inl i) = inl (In-append_left basic (z ∷ []) y i)
        by (inr i) = inr i
    cover y k (inr m) = inl (In-append_right basic (z ∷ []) y (inl (let n = length-more rows row in omega (arith, k, m, n))))
