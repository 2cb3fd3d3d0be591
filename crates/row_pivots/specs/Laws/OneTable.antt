-- Variables at their places have one table at most: what undoing gives back.
--
--   one_held      two tables over the same rows, with the same variables at the same places, are the same
--   swapped_back  a second pivot at the same places puts the variables back
use Rattle.std.proofs.Common.{◌≡◌, ℕ, zero, suc, ◌+◌, List, [], ◌∷◌, length, map, get_or, set, drop, refl, ap, ap₂, sym, subst, ◌∙◌, arith, ℤ, inl, inr, Bool, false}
use Rattle.std.proofs.lemmas.Bool.Decides.{nat_tests}
use Rattle.std.specs.Prelude.{nat_eq, if◌then◌else◌}
use Rattle.integer_laws.specs.Members.{In}
use Rattle.row_laws.specs.Laws.Independence.{is_equal}
use Rattle.row_laws.specs.Laws.OneForm.{one_form}
use Rattle.row_pivots.specs.Laws.Sorted.{table_is_form, rising_members, free_member, says_or, says_long}
use Rattle.row_pivots.specs.Tables.{Fresh, Holds, Held, rising, sorted_line, sorted_lines, line_or, entry_of}
use Rattle.seq_model.specs.Dictionaries.{free_of}
use Rattle.seq_model.specs.declared.row.Row.{Row}

differs : (x y : ℕ) → (x ≡ y → ⊥) → nat_eq x y ≡ false
differs x y n = grind (arith, nat_tests, n)

map_at : {A : Type 0} (f g : ℕ → A) (zs : List ℕ) → map f zs ≡ map g zs → (z : ℕ) → In z zs → f z ≡ g z
map_at f g [] e z i = absurd i
map_at f g (y ∷ zs) e z (inl s) = ap f s ∙ ap (λ l. get_or l 0 (f y)) e ∙ ap g (sym s)
map_at f g (y ∷ zs) e z (inr i) = map_at f g zs (ap (drop 1) e) z i

same_entries : (free : List ℕ) (es fs : List ℤ) → length es ≡ length free → length fs ≡ length free → Fresh free → ((y : ℕ) → In y free → entry_of y free es ≡ entry_of y free fs) → es ≡ fs
same_entries [] [] [] l m f h = refl
same_entries [] [] (y ∷ fs) l m f h = absurd (omega (arith, m))
same_entries [] (x ∷ es) fs l m f h = absurd (omega (arith, l))
same_entries (z ∷ free) [] fs l m f h = absurd (omega (arith, l))
same_entries (z ∷ free) (x ∷ es) [] l m f h = absurd (omega (arith, m))
same_entries (z ∷ free) (x ∷ es) (y ∷ fs) l m f h =
    ap₂ (λ a b. a ∷ b) (sym (here x es) ∙ h z (inl refl) ∙ here y fs)
    (same_entries free es fs (omega (arith, l)) (omega (arith, m)) f.1 (λ w i. sym (later w i x es) ∙ h w (inr i) ∙ later w i y fs))
  where
    here : (x : ℤ) (es : List ℤ) → entry_of z (z ∷ free) (x ∷ es) ≡ x
    here x es = ap (λ (b : Bool). if b then x else entry_of z free es) (is_equal z z refl)

    later : (w : ℕ) → In w free → (x : ℤ) (es : List ℤ) → entry_of w (z ∷ free) (x ∷ es) ≡ entry_of w free es
    later w i x es = ap (λ (b : Bool). if b then x else entry_of w free es) (differs w z (λ e. f.0 (subst (λ t. In t free) e i)))

same_list : (basic : List ℕ) (L M : List (List ℤ)) → length basic ≡ length L → length basic ≡ length M → Fresh basic → ((z : ℕ) → In z basic → line_or z basic L ≡ line_or z basic M) → L ≡ M
same_list [] [] [] l m f h = refl
same_list [] [] (y ∷ M) l m f h = absurd (omega (arith, m))
same_list [] (x ∷ L) M l m f h = absurd (omega (arith, l))
same_list (z ∷ basic) [] M l m f h = absurd (omega (arith, l))
same_list (z ∷ basic) (x ∷ L) [] l m f h = absurd (omega (arith, m))
same_list (z ∷ basic) (x ∷ L) (y ∷ M) l m f h =
    ap₂ (λ a b. a ∷ b) (sym (here x L) ∙ h z (inl refl) ∙ here y M)
    (same_list basic L M (omega (arith, l)) (omega (arith, m)) f.1 (λ w i. sym (later w i x L) ∙ h w (inr i) ∙ later w i y M))
  where
    here : (x : List ℤ) (L : List (List ℤ)) → line_or z (z ∷ basic) (x ∷ L) ≡ x
    here x L = ap (λ (b : Bool). if b then x else line_or z basic L) (is_equal z z refl)

    later : (w : ℕ) → In w basic → (x : List ℤ) (L : List (List ℤ)) → line_or w (z ∷ basic) (x ∷ L) ≡ line_or w basic L
    later w i x L = ap (λ (b : Bool). if b then x else line_or w basic L) (differs w z (λ e. f.0 (subst (λ t. In t basic) e i)))

same_line : (count : ℕ) (basic free : List ℕ) (l m : List ℤ) → length l ≡ suc (length free) → length m ≡ suc (length free) → Fresh free → ((y : ℕ) → In y free → In y (free_of count basic))
    → sorted_line count basic free l ≡ sorted_line count basic free m → l ≡ m
same_line count basic free [] m l k f into e = absurd (omega (arith, l))
same_line count basic free (c ∷ es) [] l k f into e = absurd (omega (arith, k))
same_line count basic free (c ∷ es) (g ∷ fs) l k f into e =
    ap₂ (λ a b. a ∷ b) (ap (λ t. get_or t 0 c) e)
    (same_entries free es fs (omega (arith, l)) (omega (arith, k)) f (λ y i. map_at (λ y. entry_of y free es) (λ y. entry_of y free fs) (free_of count basic) (ap (drop 1) e) y (into y i)))

pub one_held : (vars : ℕ) (rows : List Row) (d e : ℤ) (basic free : List ℕ) (L M : List (List ℤ)) → Holds vars rows d basic free L → Holds vars rows e basic free M → (d ≡ e) × (L ≡ M)
one_held vars rows d e basic free L M h k = (sym F.d_is ∙ same.0 ∙ G.d_is, same_list basic L M (says_long vars rows d free basic L h.says) (says_long vars rows e free basic M k.says) h.fresh_basic each)
  where
    F : Held vars rows d basic free L
    F = table_is_form vars rows d basic free L h

    G : Held vars rows e basic free M
    G = table_is_form vars rows e basic free M k

    same : (F.form.d ≡ G.form.d) × (F.form.lines ≡ G.form.lines)
    same = one_form vars rows (rising (vars + length rows) basic) F.form G.form

    sorted : sorted_lines (vars + length rows) basic free L ≡ sorted_lines (vars + length rows) basic free M
    sorted = sym F.lines_are ∙ same.1 ∙ G.lines_are

    into : (y : ℕ) → In y free → In y (free_of (vars + length rows) basic)
    into y i = free_member (vars + length rows) basic y (h.small_free y i) (h.apart y i)

    each : (z : ℕ) → In z basic → line_or z basic L ≡ line_or z basic M
    each z i =
        same_line (vars + length rows) basic free (line_or z basic L) (line_or z basic M) (says_or vars rows d free basic L h.says z i).0 (says_or vars rows e free basic M k.says z i).0 h.fresh_free into
        (map_at (λ z. sorted_line (vars + length rows) basic free (line_or z basic L)) (λ z. sorted_line (vars + length rows) basic free (line_or z basic M)) (rising (vars + length rows) basic) sorted z
        ((rising_members (vars + length rows) basic h.small_basic z).1 i))

pub swapped_back : (xs : List ℕ) (r y d : ℕ) → set (set xs r y) r (get_or xs r d) ≡ xs
swapped_back [] r y d = refl
swapped_back (x ∷ xs) zero y d = refl
swapped_back (x ∷ xs) (suc r) y d = ap (λ t. x ∷ t) (swapped_back xs r y d)
