-- A table whose variables stand in any order, and the form that it is.
--
--   Fresh xs                        no number stands twice in the list
--   rising count basic              the variables of the list, rising
--   entry_of y free es              the entry of a free variable, 0 of another one
--   line_or z basic lines           the line of a basic variable
--   sorted_line, sorted_lines       the numbers in the order of a form
--   Holds vars rows d basic free lines     a table: each variable basic or free, once; the lines say the basic ones; no number above 1 divides all
--   Held vars rows d basic free lines      the form of the rising variables, with this denominator and these numbers
--   table_is_form                   a table is this form
use Rattle.std.proofs.Common.{◌≡◌, ℕ, zero, suc, ◌+◌, ◌<◌, List, [], ◌∷◌, length, map, get_or, All, refl, ap, ap₂, sym, subst, ◌∙◌, arith, ℤ, pos, ◌+ℤ◌, ◌*ℤ◌, ◌⊎◌, inl, inr, Bool, true, false, ◌||◌, unsigned_abs, ◌↔◌}
use Rattle.std.proofs.lemmas.Int.{ints}
use Rattle.std.proofs.lemmas.List.{length-map}
use Rattle.std.specs.Int.{◌∣◌}
use Rattle.std.specs.List.{AllZip, filter, range_with_len}
use Rattle.std.specs.Prelude.{not, nat_eq, cond, if◌then◌else◌}
use lib.Dec.{T}
use Rattle.integer_laws.specs.Members.{In}
use Rattle.integer_laws.specs.Laws.Members.{In-map, All-in, All-from_in}
use Rattle.integer_laws.specs.Laws.Ring.{expand}
use Rattle.integer_laws.specs.Vectors.{dot}
use Rattle.row_laws.specs.Laws.Independence.{true_or_false, equal_is, is_equal, in_basis, is_in_member, In-filter, In-range, Climbs}
use Rattle.row_laws.specs.Laws.Pivots.{below, of_filter, filter_climbs, to_rises, free_climbs}
use Rattle.row_pivots.specs.Laws.Pivoting.{Line, line_from, line_each, column}
use Rattle.row_pivots.specs.Tables.{InRange}
use Rattle.row_pivots.specs.Laws.Values.{free_or_basic}
use Rattle.seq_model.specs.Dictionaries.{meaning, one, is_in, free_of, Says, DividesAll, Has}
use Rattle.seq_model.specs.declared.row.Row.{Row}
use Rattle.row_pivots.specs.Tables.{Fresh, Held, Holds, entry_of, line_or, rising, sorted_line, sorted_lines}

-- ---- members
differs : (x y : ℕ) → (x ≡ y → ⊥) → nat_eq x y ≡ false
differs x y n = by (true_or_false (nat_eq x y))
  where
    by : ((nat_eq x y ≡ true) ⊎ (nat_eq x y ≡ false)) → nat_eq x y ≡ false
    by (inl e) = absurd (n (equal_is x y e))
    by (inr e) = e

is_not_in : (xs : List ℕ) (z : ℕ) → (In z xs → ⊥) → is_in xs z ≡ false
is_not_in xs z n = by (true_or_false (is_in xs z))
  where
    by : ((is_in xs z ≡ true) ⊎ (is_in xs z ≡ false)) → is_in xs z ≡ false
    by (inl e) = absurd (n (in_basis xs z e))
    by (inr e) = e

same_is_in : (xs ys : List ℕ) (z : ℕ) → (In z xs ↔ In z ys) → is_in xs z ≡ is_in ys z
same_is_in xs ys z k = by (true_or_false (is_in xs z))
  where
    by : ((is_in xs z ≡ true) ⊎ (is_in xs z ≡ false)) → is_in xs z ≡ is_in ys z
    by (inl e) = e ∙ sym (is_in_member ys z (k.0 (in_basis xs z e)))
    by (inr e) = e ∙ sym (is_not_in ys z (λ i. absurd (subst T (sym (is_in_member xs z (k.1 i)) ∙ e) tt)))

filter_same : (p q : ℕ → Bool) (xs : List ℕ) → ((z : ℕ) → p z ≡ q z) → filter p xs ≡ filter q xs
filter_same p q [] h = refl
filter_same p q (x ∷ xs) h = ap₂ (λ b rest. cond b (x ∷ rest) rest) (h x) (filter_same p q xs h)

pub rising_members : (count : ℕ) (basic : List ℕ) → InRange count basic → (z : ℕ) → In z (rising count basic) ↔ In z basic
rising_members count basic small z = (λ i. in_basis basic z (of_filter (is_in basic) (range_with_len 0 count) z i), λ i. In-filter (is_in basic) (range_with_len 0 count) z (is_in_member basic z i) (In-range 0 count z (omega arith) (omega (arith, small z i))))

pub same_free : (count : ℕ) (basic : List ℕ) → InRange count basic → free_of count (rising count basic) ≡ free_of count basic
same_free count basic small = filter_same (λ z. not (is_in (rising count basic) z)) (λ z. not (is_in basic z)) (range_with_len 0 count) (λ z. ap not (same_is_in (rising count basic) basic z (rising_members count basic small z)))

pub free_member : (count : ℕ) (basic : List ℕ) (y : ℕ) → y < count → (In y basic → ⊥) → In y (free_of count basic)
free_member count basic y h n = by (free_or_basic count basic y h)
  where
    by : In y basic ⊎ In y (free_of count basic) → In y (free_of count basic)
    by (inl i) = absurd (n i)
    by (inr i) = i

-- ---- how many
past_none : (b : ℕ) (p : ℕ → Bool) (zs : List ℕ) → (In b zs → ⊥) → filter (λ z. nat_eq z b || p z) zs ≡ filter p zs
past_none b p [] n = refl
past_none b p (z ∷ zs) n =
    ap₂ (λ t rest. cond (t || p z) (z ∷ rest) rest) (differs z b (λ e. n (inl (sym e)))) (past_none b p zs (λ i. n (inr i)))

pub one_more : (low end b : ℕ) (p : ℕ → Bool) (zs : List ℕ) → Climbs low end zs → In b zs → p b ≡ false → length (filter (λ z. nat_eq z b || p z) zs) ≡ suc (length (filter p zs))
one_more low end b p [] c i f = absurd i
one_more low end b p (z ∷ zs) c (inl e) f =
    ap (λ t. length (cond (t || p z) (z ∷ filter (λ z. nat_eq z b || p z) zs) (filter (λ z. nat_eq z b || p z) zs))) (is_equal z b (sym e))
    ∙ ap suc (ap length (past_none b p zs (λ i. let k = below (z + 1) end zs b c.2 i in absurd (omega (arith, k, e)))))
    ∙ ap (λ t. suc (length (cond t (z ∷ filter p zs) (filter p zs)))) (sym (ap p (sym e) ∙ f))
one_more low end b p (z ∷ zs) c (inr i) f =
    ap (λ t. length (cond (t || p z) (z ∷ filter (λ z. nat_eq z b || p z) zs) (filter (λ z. nat_eq z b || p z) zs))) (differs z b (λ e. let k = below (z + 1) end zs b c.2 i in absurd (omega (arith, k, e))))
    ∙ by (p z) (one_more (z + 1) end b p zs c.2 i f)
  where
    by : (t : Bool) → length (filter (λ z. nat_eq z b || p z) zs) ≡ suc (length (filter p zs))
        → length (cond t (z ∷ filter (λ z. nat_eq z b || p z) zs) (filter (λ z. nat_eq z b || p z) zs)) ≡ suc (length (cond t (z ∷ filter p zs) (filter p zs)))
    by true e = ap suc e
    by false e = e

pub range_climbs : (low n end : ℕ) → end ≡ low + n → Climbs low end (range_with_len low n)
range_climbs low zero end e = tt
range_climbs low (suc n) end e = (omega arith, omega (arith, e), range_climbs (low + 1) n end (omega (arith, e)))

none_left : (zs : List ℕ) → length (filter (is_in []) zs) ≡ 0
none_left [] = refl
none_left (z ∷ zs) = none_left zs

pub as_many : (count : ℕ) (basic : List ℕ) → Fresh basic → InRange count basic → length (rising count basic) ≡ length basic
as_many count [] f r = none_left (range_with_len 0 count)
as_many count (b ∷ basic) f r =
    one_more 0 count b (is_in basic) (range_with_len 0 count) (range_climbs 0 count count (omega arith)) (In-range 0 count b (omega arith) (omega (arith, r b (inl refl)))) (is_not_in basic b f.0)
    ∙ ap suc (as_many count basic f.1 (λ z i. r z (inr i)))

-- ---- what stands at a variable
pub entry_none : (y : ℕ) (free : List ℕ) (es : List ℤ) → (In y free → ⊥) → entry_of y free es ≡ pos 0
entry_none y [] es n = refl
entry_none y (f ∷ free) [] n = refl
entry_none y (f ∷ free) (e ∷ es) n = ap (λ b. if b then e else entry_of y free es) (differs y f (λ s. n (inl s))) ∙ entry_none y free es (λ i. n (inr i))

member_of : {X : Type 0} (zs : List ℕ) (xs : List X) (z : ℕ) (x : X) → Has zs xs z x → In z zs
member_of [] xs z x h = absurd h
member_of (y ∷ zs) [] z x h = absurd h
member_of (y ∷ zs) (w ∷ xs) z x (inl s) = inl s.0
member_of (y ∷ zs) (w ∷ xs) z x (inr h) = inr (member_of zs xs z x h)

pub entry_is : (y : ℕ) (free : List ℕ) (es : List ℤ) (e : ℤ) → Fresh free → Has free es y e → entry_of y free es ≡ e
entry_is y [] es e f h = absurd h
entry_is y (g ∷ free) [] e f h = absurd h
entry_is y (g ∷ free) (x ∷ es) e f (inl s) = ap (λ b. if b then x else entry_of y free es) (is_equal y g s.0) ∙ sym s.1
entry_is y (g ∷ free) (x ∷ es) e f (inr h) =
    ap (λ b. if b then x else entry_of y free es) (differs y g (λ s. f.0 (subst (λ t. In t free) s (member_of free es y e h)))) ∙ entry_is y free es e f.1 h

pub line_is : (z : ℕ) (basic : List ℕ) (lines : List (List ℤ)) (l : List ℤ) → Fresh basic → Has basic lines z l → line_or z basic lines ≡ l
line_is z [] lines l f h = absurd h
line_is z (y ∷ basic) [] l f h = absurd h
line_is z (y ∷ basic) (k ∷ lines) l f (inl s) = ap (λ b. if b then k else line_or z basic lines) (is_equal z y s.0) ∙ sym s.1
line_is z (y ∷ basic) (k ∷ lines) l f (inr h) =
    ap (λ b. if b then k else line_or z basic lines) (differs z y (λ s. f.0 (subst (λ t. In t basic) s (member_of basic lines z l h)))) ∙ line_is z basic lines l f.1 h

pub says_or : (vars : ℕ) (rows : List Row) (d : ℤ) (free basic : List ℕ) (lines : List (List ℤ)) → Says vars rows d free basic lines → (z : ℕ) → In z basic → Line vars rows d free z (line_or z basic lines)
says_or vars rows d free [] lines s z i = absurd i
says_or vars rows d free (b ∷ basic) [] s z i = absurd s
says_or vars rows d free (b ∷ basic) (l ∷ lines) s z i = by (true_or_false (nat_eq z b)) i (says_or vars rows d free basic lines s.1 z)
  where
    by : ((nat_eq z b ≡ true) ⊎ (nat_eq z b ≡ false)) → In z (b ∷ basic) → (In z basic → Line vars rows d free z (line_or z basic lines)) → Line vars rows d free z (line_or z (b ∷ basic) (l ∷ lines))
    by (inl e) j later = subst (λ t. Line vars rows d free z (if t then l else line_or z basic lines)) (sym e) (subst (λ t. Line vars rows d free t l) (sym (equal_is z b e)) s.0)
    by (inr e) (inl s) later = absurd (subst T (sym (is_equal z b s) ∙ e) tt)
    by (inr e) (inr j) later = subst (λ t. Line vars rows d free z (if t then l else line_or z basic lines)) (sym e) (later j)

-- ---- the same sum in another order
dot_none : (zs : List ℕ) (cs : List ℤ) → dot (map (λ z. pos 0) zs) cs ≡ pos 0
dot_none [] cs = refl
dot_none (z ∷ zs) [] = refl
dot_none (z ∷ zs) (c ∷ cs) = let r = dot_none zs cs in omega (arith, ints, r)

pub one_entry : (low end f : ℕ) (e : ℤ) (E : ℕ → ℤ) (m : ℕ → List ℤ) (j : ℕ) (zs : List ℕ) → Climbs low end zs → E f ≡ pos 0 → In f zs
    → dot (map (λ y. if nat_eq y f then e else E y) zs) (column j (map m zs)) ≡ e *ℤ get_or (m f) j (pos 0) +ℤ dot (map E zs) (column j (map m zs))
one_entry low end f e E m j [] c n i = absurd i
one_entry low end f e E m j (z ∷ zs) c n (inl s) =
    ap₂ (λ b rest. (if b then e else E z) *ℤ get_or (m z) j (pos 0) +ℤ rest) (is_equal z f (sym s)) (without zs (λ i. let k = below (z + 1) end zs f c.2 i in absurd (omega (arith, k, s))))
    ∙ settle e (get_or (m z) j (pos 0)) (get_or (m f) j (pos 0)) (E z) _ (ap (λ t. get_or (m t) j (pos 0)) (sym s)) (ap E (sym s) ∙ n)
  where
    without : (zs : List ℕ) → (In f zs → ⊥) → dot (map (λ y. if nat_eq y f then e else E y) zs) (column j (map m zs)) ≡ dot (map E zs) (column j (map m zs))
    without [] k = refl
    without (z ∷ zs) k = ap₂ (λ b rest. (if b then e else E z) *ℤ get_or (m z) j (pos 0) +ℤ rest) (differs z f (λ s. k (inl (sym s)))) (without zs (λ i. k (inr i)))

    settle : (e x y a r : ℤ) → x ≡ y → a ≡ pos 0 → e *ℤ x +ℤ r ≡ e *ℤ y +ℤ (a *ℤ x +ℤ r)
    settle e x y a r s t = rw (s, t) (plain e y r)
      where
        plain : (e y r : ℤ) → e *ℤ y +ℤ r ≡ e *ℤ y +ℤ (pos 0 *ℤ y +ℤ r)
        plain e y r = simp expand (omega (arith, ints))
one_entry low end f e E m j (z ∷ zs) c n (inr i) =
    ap₂ (λ b rest. (if b then e else E z) *ℤ get_or (m z) j (pos 0) +ℤ rest) (differs z f (λ s. let k = below (z + 1) end zs f c.2 i in absurd (omega (arith, k, s)))) (one_entry (z + 1) end f e E m j zs c.2 n i)
    ∙ swap (E z *ℤ get_or (m z) j (pos 0)) (e *ℤ get_or (m f) j (pos 0)) (dot (map E zs) (column j (map m zs)))
  where
    swap : (a b c : ℤ) → a +ℤ (b +ℤ c) ≡ b +ℤ (a +ℤ c)
    swap a b c = omega (arith, ints)

pub same_sum : (end : ℕ) (m : ℕ → List ℤ) (j : ℕ) (free : List ℕ) (es : List ℤ) (zs : List ℕ) → length es ≡ length free → Fresh free → Climbs 0 end zs → ((y : ℕ) → In y free → In y zs)
    → dot es (column j (map m free)) ≡ dot (map (λ y. entry_of y free es) zs) (column j (map m zs))
same_sum end m j [] [] zs l f c i = sym (dot_none zs (column j (map m zs)))
same_sum end m j [] (e ∷ es) zs l f c i = absurd (omega (arith, l))
same_sum end m j (g ∷ free) [] zs l f c i = absurd (omega (arith, l))
same_sum end m j (g ∷ free) (e ∷ es) zs l f c i =
    ap (λ t. e *ℤ get_or (m g) j (pos 0) +ℤ t) (same_sum end m j free es zs (omega (arith, l)) f.1 c (λ y k. i y (inr k)))
    ∙ sym (one_entry 0 end g e (λ y. entry_of y free es) m j zs c (entry_none g free es f.0) (i g (inl refl)))

-- ---- the form
zip_map : (P : ℕ → List ℤ → Type 0) (g : ℕ → List ℤ) (zs : List ℕ) → ((z : ℕ) → In z zs → P z (g z)) → AllZip P zs (map g zs)
zip_map P g [] h = tt
zip_map P g (z ∷ zs) h = (h z (inl refl), zip_map P g zs (λ y i. h y (inr i)))

pub sorted_says : (vars : ℕ) (rows : List Row) (d : ℤ) (basic free : List ℕ) (lines : List (List ℤ)) (h : Holds vars rows d basic free lines) (z : ℕ) → In z basic
    → Line vars rows d (free_of (vars + length rows) basic) z (sorted_line (vars + length rows) basic free (line_or z basic lines))
sorted_says vars rows d basic free lines h z i = by (line_or z basic lines) (says_or vars rows d free basic lines h.says z i)
  where
    count : ℕ
    count = vars + length rows

    into : (y : ℕ) → In y free → In y (free_of (vars + length rows) basic)
    into y k = free_member (vars + length rows) basic y (h.small_free y k) (h.apart y k)

    by : (line : List ℤ) → Line vars rows d free z line → Line vars rows d (free_of (vars + length rows) basic) z (sorted_line (vars + length rows) basic free line)
    by [] l = absurd (omega (arith, l.0))
    by (c ∷ es) l =
        line_from vars rows h.rows_are d (free_of (vars + length rows) basic) (λ y k. (below 0 (vars + length rows) (free_of (vars + length rows) basic) y (free_climbs (vars + length rows) basic) k).1) z (h.small_basic z i)
        (sorted_line (vars + length rows) basic free (c ∷ es)) (ap suc (length-map (free_of (vars + length rows) basic) (λ y. entry_of y free es)))
        (λ j. line_each vars rows d free z (c ∷ es) l j
        ∙ ap (λ t. c *ℤ get_or (one vars) j (pos 0) +ℤ t) (same_sum (vars + length rows) (meaning vars rows) j free es (free_of (vars + length rows) basic) (omega (arith, l.0)) h.fresh_free (free_climbs (vars + length rows) basic) into))

-- all numbers of the table stand in the sorted one
pub has_of : {X : Type 0} (zs : List ℕ) (xs : List X) (x : X) → length zs ≡ length xs → In x xs → (z : ℕ) × Has zs xs z x
has_of [] [] x l i = absurd i
has_of [] (y ∷ xs) x l i = absurd (omega (arith, l))
has_of (z ∷ zs) [] x l i = absurd i
has_of (z ∷ zs) (y ∷ xs) x l (inl e) = (z, inl (refl, e))
has_of (z ∷ zs) (y ∷ xs) x l (inr i) = let r = has_of zs xs x (omega (arith, l)) i in (r.0, inr r.1)

pub says_long : (vars : ℕ) (rows : List Row) (d : ℤ) (free basic : List ℕ) (lines : List (List ℤ)) → Says vars rows d free basic lines → length basic ≡ length lines
says_long vars rows d free [] [] s = refl
says_long vars rows d free [] (l ∷ lines) s = absurd s
says_long vars rows d free (b ∷ basic) [] s = absurd s
says_long vars rows d free (b ∷ basic) (l ∷ lines) s = ap suc (says_long vars rows d free basic lines s.1)

pub sorted_divides : (vars : ℕ) (rows : List Row) (d : ℤ) (basic free : List ℕ) (lines : List (List ℤ)) (h : Holds vars rows d basic free lines) (k : ℕ)
    → DividesAll k d (sorted_lines (vars + length rows) basic free lines) → DividesAll k d lines
sorted_divides vars rows d basic free lines h k a = (a.0, All-from_in (λ line. All (λ x. k ∣ unsigned_abs x) line) lines (λ line i. All-from_in (λ x. k ∣ unsigned_abs x) line (λ x e. each line i x e)))
  where
    each : (line : List ℤ) → In line lines → (x : ℤ) → In x line → k ∣ unsigned_abs x
    each line i x e = by line at.1 (subst (λ t. Line vars rows d free at.0 t) (line_is at.0 basic lines line h.fresh_basic at.1) (says_or vars rows d free basic lines h.says at.0 place)) e
      where
        at : (z : ℕ) × Has basic lines z line
        at = has_of basic lines line (says_long vars rows d free basic lines h.says) i

        place : In at.0 basic
        place = member_of basic lines at.0 line at.1

        whole : (line : List ℤ) → Has basic lines at.0 line → All (λ x. k ∣ unsigned_abs x) (sorted_line (vars + length rows) basic free line)
        whole line m =
            subst (λ t. All (λ x. k ∣ unsigned_abs x) (sorted_line (vars + length rows) basic free t)) (line_is at.0 basic lines line h.fresh_basic m)
            (All-in (λ line. All (λ x. k ∣ unsigned_abs x) line) (sorted_lines (vars + length rows) basic free lines) (sorted_line (vars + length rows) basic free (line_or at.0 basic lines)) a.1
            (In-map (λ z. sorted_line (vars + length rows) basic free (line_or z basic lines)) (rising (vars + length rows) basic) at.0 ((rising_members (vars + length rows) basic h.small_basic at.0).1 place)))

        by : (line : List ℤ) → Has basic lines at.0 line → Line vars rows d free at.0 line → In x line → k ∣ unsigned_abs x
        by [] m l e = absurd e
        by (c ∷ es) m l (inl e) = subst (λ t. k ∣ unsigned_abs t) (sym e) (All-in (λ x. k ∣ unsigned_abs x) (sorted_line (vars + length rows) basic free (c ∷ es)) c (whole (c ∷ es) m) (inl refl))
        by (c ∷ es) m l (inr e) =
            let y = has_of free es x (omega (arith, l.0)) e in
            let in_free = member_of free es y.0 x y.1 in
            subst (λ t. k ∣ unsigned_abs t) (entry_is y.0 free es x h.fresh_free y.1)
            (All-in (λ x. k ∣ unsigned_abs x) (sorted_line (vars + length rows) basic free (c ∷ es)) (entry_of y.0 free es) (whole (c ∷ es) m)
            (inr (In-map (λ y. entry_of y free es) (free_of (vars + length rows) basic) y.0 (free_member (vars + length rows) basic y.0 (h.small_free y.0 in_free) (h.apart y.0 in_free)))))

pub table_is_form : (vars : ℕ) (rows : List Row) (d : ℤ) (basic free : List ℕ) (lines : List (List ℤ)) → Holds vars rows d basic free lines → Held vars rows d basic free lines
table_is_form vars rows d basic free lines h = record {
  form = record {
    d = d;
    lines = sorted_lines (vars + length rows) basic free lines;
    many = as_many (vars + length rows) basic h.fresh_basic h.small_basic ∙ h.many;
    rising = to_rises 0 (vars + length rows) (rising (vars + length rows) basic) (filter_climbs (is_in basic) 0 (vars + length rows) (vars + length rows) (omega arith));
    positive = h.positive;
    says = subst (λ t. Says vars rows d t (rising (vars + length rows) basic) (sorted_lines (vars + length rows) basic free lines)) (sym (same_free (vars + length rows) basic h.small_basic))
        (zip_map (λ z line. Line vars rows d (free_of (vars + length rows) basic) z line) (λ z. sorted_line (vars + length rows) basic free (line_or z basic lines)) (rising (vars + length rows) basic)
        (λ z i. sorted_says vars rows d basic free lines h z ((rising_members (vars + length rows) basic h.small_basic z).0 i)));
    reduced = λ k a. h.reduced k (sorted_divides vars rows d basic free lines h k a);
  };
  d_is = refl;
  lines_are = refl;
}
