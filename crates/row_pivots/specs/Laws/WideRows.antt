-- Where the basis of a table is wide.
--
--   Small x        x is below 2^62 in size
--   wide_row         the basis is wide at a variable of it just where the denominator and the numbers of its line aren't all small
use Rattle.std.proofs.Common.{◌≡◌, ℕ, suc, ◌+◌, ◌<◌, ◌≤◌, ◌^◌, List, [], ◌∷◌, length, map, All, refl, ap, sym, subst, ◌∙◌, arith, ℤ, pos, ◌⊎◌, inl, inr, Bool, true, false, unsigned_abs, ◌↔◌}
use Rattle.std.proofs.lemmas.Bool.{cases_lt}
use Rattle.std.proofs.lemmas.List.Elements.{All-nil, All-cons}
use Rattle.std.specs.Prelude.{nat_eq, if◌then◌else◌}
use Rattle.integer_laws.specs.Members.{In}
use Rattle.integer_laws.specs.Laws.Members.{In-from_contains, Contains-from_in, All-in, In-map, In-map_cases}
use Rattle.row_laws.specs.Laws.Independence.{from_zero}
use Rattle.row_laws.specs.Laws.Lines.{has_same, member}
use Rattle.row_laws.specs.Laws.OneForm.{one_form}
use Rattle.row_pivots.specs.Laws.Sorted.{table_is_form, entry_is, rising_members, free_member, says_or, has_of}
use Rattle.row_pivots.specs.Tables.{Fresh, Holds, Held, rising, sorted_line, line_or, entry_of}
use Rattle.seq_model.specs.Dictionaries.{free_of, Has, WideAt}
use Rattle.seq_model.specs.declared.row.Row.{Row}
use Rattle.row_pivots.specs.Ends.{Small}

-- a list whose numbers aren't all small has one that isn't
pub record Big (xs : List ℤ) : Type 0 where
  pub x : ℤ
  pub member : In x xs
  pub big : 2 ^ 62 ≤ unsigned_abs x

all_or_big : (xs : List ℤ) → All Small xs ⊎ Big xs
all_or_big [] = inl (All-nil Small)
all_or_big (x ∷ xs) = by (cases_lt (unsigned_abs x) (2 ^ 62)) (all_or_big xs)
  where
    by : (unsigned_abs x < 2 ^ 62) ⊎ (2 ^ 62 ≤ unsigned_abs x) → All Small xs ⊎ Big xs → All Small (x ∷ xs) ⊎ Big (x ∷ xs)
    by (inr h) rest = inr (record { x = x; member = inl refl; big = h })
    by (inl h) (inl all) = inl (All-cons Small x xs h all)
    by (inl h) (inr b) = inr (record { x = b.x; member = inr b.member; big = b.big })

big_of : (xs : List ℤ) → (All Small xs → ⊥) → Big xs
big_of xs n = by (all_or_big xs)
  where
    by : All Small xs ⊎ Big xs → Big xs
    by (inl all) = absurd (n all)
    by (inr b) = b

not_all : (xs : List ℤ) → Big xs → All Small xs → ⊥
not_all xs b all = let s = All-in Small xs b.x all b.member in let h = b.big in absurd (omega (arith, s, h))

-- the numbers of a line and of the sorted one are the same, but for zeros
to_sorted : (count : ℕ) (basic free : List ℕ) (line : List ℤ) (x : ℤ) → length line ≡ suc (length free) → Fresh free → ((y : ℕ) → In y free → In y (free_of count basic)) → In x line → In x (sorted_line count basic free line)
to_sorted count basic free [] x l f into i = absurd i
to_sorted count basic free (c ∷ es) x l f into (inl e) = inl e
to_sorted count basic free (c ∷ es) x l f into (inr i) =
    let y = has_of free es x (omega (arith, l)) i in
    inr (subst (λ t. In t (map (λ y. entry_of y free es) (free_of count basic))) (entry_is y.0 free es x f y.1) (In-map (λ y. entry_of y free es) (free_of count basic) y.0 (into y.0 (member free es y.0 x y.1))))

entry_cases : (y : ℕ) (free : List ℕ) (es : List ℤ) → (entry_of y free es ≡ pos 0) ⊎ In (entry_of y free es) es
entry_cases y [] es = inl refl
entry_cases y (f ∷ free) [] = inl refl
entry_cases y (f ∷ free) (e ∷ es) = by (nat_eq y f) (entry_cases y free es)
  where
    by : (b : Bool) → (entry_of y free es ≡ pos 0) ⊎ In (entry_of y free es) es → ((if b then e else entry_of y free es) ≡ pos 0) ⊎ In (if b then e else entry_of y free es) (e ∷ es)
    by true k = inr (inl refl)
    by false (inl z) = inl z
    by false (inr i) = inr (inr i)

from_sorted : (count : ℕ) (basic free : List ℕ) (line : List ℤ) (x : ℤ) → length line ≡ suc (length free) → 2 ^ 62 ≤ unsigned_abs x → In x (sorted_line count basic free line) → In x line
from_sorted count basic free [] x l h i = absurd (omega (arith, l))
from_sorted count basic free (c ∷ es) x l h (inl e) = inl e
from_sorted count basic free (c ∷ es) x l h (inr i) =
    by (let k = In-map_cases (λ y. entry_of y free es) (free_of count basic) x i in k)
  where
    by : ((y : ℕ) × In y (free_of count basic) × (x ≡ entry_of y free es)) → In x (c ∷ es)
    by k = pick (entry_cases k.0 free es)
      where
        pick : (entry_of k.0 free es ≡ pos 0) ⊎ In (entry_of k.0 free es) es → In x (c ∷ es)
        pick (inl z) = absurd (let s = ap unsigned_abs (k.2 ∙ z) in omega (arith, s, h))
        pick (inr j) = inr (subst (λ t. In t es) (sym k.2) j)

has_map : (g : ℕ → List ℤ) (zs : List ℕ) (z : ℕ) → In z zs → Has zs (map g zs) z (g z)
has_map g [] z i = absurd i
has_map g (y ∷ zs) z (inl e) = inl (e, ap g e)
has_map g (y ∷ zs) z (inr i) = inr (has_map g zs z i)

pub wide_row : (vars : ℕ) (rows : List Row) (d : ℤ) (basic free : List ℕ) (lines : List (List ℤ)) → Holds vars rows d basic free lines → (z : ℕ) → In z basic
    → WideAt vars rows (rising (vars + length rows) basic) z ↔ (All Small (d ∷ line_or z basic lines) → ⊥)
wide_row vars rows d basic free lines h z i = (there, back)
  where
    next : List ℕ
    next = rising (vars + length rows) basic

    raw : List ℤ
    raw = line_or z basic lines

    F : Held vars rows d basic free lines
    F = table_is_form vars rows d basic free lines h

    long : length (line_or z basic lines) ≡ suc (length free)
    long = (says_or vars rows d free basic lines h.says z i).0

    into : (y : ℕ) → In y free → In y (free_of (vars + length rows) basic)
    into y k = free_member (vars + length rows) basic y (h.small_free y k) (h.apart y k)

    sorted : List ℤ
    sorted = sorted_line (vars + length rows) basic free (line_or z basic lines)

    has : Has (rising (vars + length rows) basic) F.form.lines z (sorted_line (vars + length rows) basic free (line_or z basic lines))
    has = subst (λ ls. Has (rising (vars + length rows) basic) ls z (sorted_line (vars + length rows) basic free (line_or z basic lines))) (sym F.lines_are)
        (has_map (λ y. sorted_line (vars + length rows) basic free (line_or y basic lines)) (rising (vars + length rows) basic) z ((rising_members (vars + length rows) basic h.small_basic z).1 i))

    there : WideAt vars rows (rising (vars + length rows) basic) z → All Small (d ∷ line_or z basic lines) → ⊥
    there w all = by (In-from_contains (w.form.d ∷ w.line) w.number w.member)
      where
        same : (w.form.d ≡ F.form.d) × (w.form.lines ≡ F.form.lines)
        same = one_form vars rows (rising (vars + length rows) basic) w.form F.form

        line : w.line ≡ sorted_line (vars + length rows) basic free (line_or z basic lines)
        line = has_same 0 (vars + length rows) (rising (vars + length rows) basic) F.form.lines z w.line (sorted_line (vars + length rows) basic free (line_or z basic lines)) (from_zero (vars + length rows) (rising (vars + length rows) basic) F.form.rising)
            (subst (λ ls. Has (rising (vars + length rows) basic) ls z w.line) same.1 w.has) has

        by : (w.number ≡ w.form.d) ⊎ In w.number w.line → ⊥
        by (inl e) = not_all (d ∷ line_or z basic lines) (record { x = w.number; member = inl (e ∙ same.0 ∙ F.d_is); big = w.wide }) all
        by (inr k) = not_all (d ∷ line_or z basic lines) (record { x = w.number; member = inr (from_sorted (vars + length rows) basic free (line_or z basic lines) w.number long w.wide (subst (In w.number) line k)); big = w.wide }) all

    back : (All Small (d ∷ line_or z basic lines) → ⊥) → WideAt vars rows (rising (vars + length rows) basic) z
    back n = by (big_of (d ∷ line_or z basic lines) n)
      where
        by : Big (d ∷ line_or z basic lines) → WideAt vars rows (rising (vars + length rows) basic) z
        by b = record {
          form = F.form;
          line = sorted_line (vars + length rows) basic free (line_or z basic lines);
          number = b.x;
          has = has;
          member = Contains-from_in (F.form.d ∷ sorted_line (vars + length rows) basic free (line_or z basic lines)) b.x (at b.member);
          wide = b.big;
        }
          where
            at : (b.x ≡ d) ⊎ In b.x (line_or z basic lines) → (b.x ≡ F.form.d) ⊎ In b.x (sorted_line (vars + length rows) basic free (line_or z basic lines))
            at (inl e) = inl (e ∙ sym F.d_is)
            at (inr k) = inr (to_sorted (vars + length rows) basic free (line_or z basic lines) b.x long h.fresh_free into k)
