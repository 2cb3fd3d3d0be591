-- What the searches for a least number find.
--
--   Found zs p n found      nothing where no place below n passes the test, else the least number whose place does
--   found_is                what least_upto computes is this
--   place_unique            in a list without repeats a number has one place
use Rattle.std.proofs.Common.{◌≡◌, ℕ, zero, suc, ◌<◌, ◌≤◌, List, [], ◌∷◌, length, get_or, refl, ap, sym, subst, ◌∙◌, arith, ℤ, pos, ◌≤ℤ◌, ◌<ℤ◌, Bool, true, false, Option, Some, None, ◌⊎◌, inl, inr}
use Rattle.std.proofs.lemmas.Bool.{cases_lt}
use Rattle.std.proofs.lemmas.Bool.Decides.{nat_tests}
use Rattle.std.proofs.lemmas.Int.{ints}
use Rattle.std.specs.Int.Signed.{lt_z}
use Rattle.std.specs.Prelude.{not, nat_eq, nat_lt, if◌then◌else◌}
use lib.Signed.{lt_z_yes, lt_z_no}
use lib.Dec.{T}
use Rattle.integer_laws.specs.Members.{In}
use Rattle.row_laws.specs.Laws.Independence.{is_equal, true_or_false}
use Rattle.row_pivots.specs.Ends.{NoEntry}
use Rattle.row_pivots.specs.Laws.Measure.{place_is}
use Rattle.row_pivots.specs.Tables.{place_of}
use Rattle.row_pivots.specs.Laws.Pivoting.{get_or-In}
use Rattle.row_pivots.specs.Laws.Sorted.{says_or, says_long}
use Rattle.row_pivots.specs.Tables.{Fresh, Holds, line_or, entry_of}
use Rattle.row_dictionary.specs.Laws.Placing.{line_placed, entry_placed}
use Rattle.seq_model.specs.Walks.{constant, entries}
use Rattle.seq_model.specs.declared.row.Row.{Row}
use Rattle.row_dictionary.specs.Scans.{least_upto, number_at, least_leaving, least_entering}
use Rattle.row_dictionary.specs.Tables.{least_with}

pub record FoundAt (zs : List ℕ) (p : ℕ → Bool) (n z : ℕ) : Type 0 where
  pub i : ℕ
  pub inside : i < n
  pub at : get_or zs i 0 ≡ z
  pub passes : p i ≡ true
  pub least : (k : ℕ) → k < n → p k ≡ true → z ≤ get_or zs k 0

abbrev pub Found : List ℕ → (ℕ → Bool) → ℕ → Option ℕ → Type 0
Found zs p n None = (k : ℕ) → k < n → p k ≡ false
Found zs p n (Some z) = FoundAt zs p n z

last_or_before : (i n : ℕ) → i < suc n → (i < n) ⊎ (i ≡ n)
last_or_before i n h = by (cases_lt i n)
  where
    by : (i < n) ⊎ (n ≤ i) → (i < n) ⊎ (i ≡ n)
    by (inl k) = inl k
    by (inr k) = inr (omega (arith, h, k))

no_both : (b : Bool) → b ≡ true → b ≡ false → ⊥
no_both b e f = absurd (subst T (sym e ∙ f) tt)

more : (zs : List ℕ) (p : ℕ → Bool) (n : ℕ) (o : Option ℕ) → Found zs p n o → (b : Bool) → p n ≡ b → Found zs p (suc n) (least_with o (get_or zs n 0) b)
more zs p n None f false e = λ k h. by k (last_or_before k n h)
  where
    by : (k : ℕ) → (k < n) ⊎ (k ≡ n) → p k ≡ false
    by k (inl l) = f k l
    by k (inr s) = ap p s ∙ e
more zs p n (Some z) f false e = record { i = f.i; inside = inside; at = f.at; passes = f.passes; least = λ k h t. by k t (last_or_before k n h) }
  where
    inside : f.i < suc n
    inside = let h = f.inside in omega (arith, h)

    by : (k : ℕ) → p k ≡ true → (k < n) ⊎ (k ≡ n) → z ≤ get_or zs k 0
    by k t (inl l) = f.least k l t
    by k t (inr s) = absurd (no_both (p n) (ap p (sym s) ∙ t) e)
more zs p n None f true e = record { i = n; inside = omega arith; at = refl; passes = e; least = λ k h t. by k t (last_or_before k n h) }
  where
    by : (k : ℕ) → p k ≡ true → (k < n) ⊎ (k ≡ n) → get_or zs n 0 ≤ get_or zs k 0
    by k t (inl l) = absurd (no_both (p k) t (f k l))
    by k t (inr s) = let q = ap (λ i. get_or zs i 0) s in omega (arith, q)
more zs p n (Some y) f true e = pick (nat_lt y (get_or zs n 0)) refl
  where
    below : nat_lt y (get_or zs n 0) ≡ true → y < get_or zs n 0
    below t = grind (arith, nat_tests)

    above : nat_lt y (get_or zs n 0) ≡ false → get_or zs n 0 ≤ y
    above t = grind (arith, nat_tests)

    inside : f.i < suc n
    inside = let h = f.inside in omega (arith, h)

    pick : (b : Bool) → nat_lt y (get_or zs n 0) ≡ b → Found zs p (suc n) (Some (if b then y else get_or zs n 0))
    pick true t = record { i = f.i; inside = inside; at = f.at; passes = f.passes; least = λ k h u. by k u (last_or_before k n h) }
      where
        by : (k : ℕ) → p k ≡ true → (k < n) ⊎ (k ≡ n) → y ≤ get_or zs k 0
        by k u (inl l) = f.least k l u
        by k u (inr s) = let q = ap (λ i. get_or zs i 0) s in let l = below t in omega (arith, q, l)
    pick false t = record { i = n; inside = omega arith; at = refl; passes = e; least = λ k h u. by k u (last_or_before k n h) }
      where
        by : (k : ℕ) → p k ≡ true → (k < n) ⊎ (k ≡ n) → get_or zs n 0 ≤ get_or zs k 0
        by k u (inl l) = let m = f.least k l u in let g = above t in omega (arith, m, g)
        by k u (inr s) = let q = ap (λ i. get_or zs i 0) s in omega (arith, q)

pub found_is : (zs : List ℕ) (p : ℕ → Bool) (n : ℕ) → Found zs p n (least_upto zs p n)
found_is zs p zero = λ k h. absurd (omega (arith, h))
found_is zs p (suc n) = more zs p n (least_upto zs p n) (found_is zs p n) (p n) refl

pub place_unique : (z : ℕ) (zs : List ℕ) (i : ℕ) → Fresh zs → i < length zs → get_or zs i 0 ≡ z → place_of z zs ≡ i
place_unique z [] i f h e = absurd (omega (arith, h))
place_unique z (y ∷ zs) zero f h e = ap (λ (b : Bool). if b then 0 else suc (place_of z zs)) (is_equal z y (sym e))
place_unique z (y ∷ zs) (suc i) f h e =
    ap (λ (b : Bool). if b then 0 else suc (place_of z zs)) (differs z y (λ s. f.0 (subst (λ t. In t zs) (e ∙ s) (get_or-In zs i 0 (omega (arith, h))))))
    ∙ ap suc (place_unique z zs i f.1 (omega (arith, h)) e)
  where
    differs : (x y : ℕ) → (x ≡ y → ⊥) → nat_eq x y ≡ false
    differs x y n = grind (arith, nat_tests, n)

-- ---- what leaves and what enters, in a table
pub entry_there : (vars : ℕ) (rows : List Row) (d : ℤ) (basic free : List ℕ) (lines : List (List ℤ)) → Holds vars rows d basic free lines → (out : ℕ) → In out basic → (i : ℕ) → i < length free
    → entry_of (get_or free i 0) free (entries (line_or out basic lines)) ≡ number_at lines (place_of out basic) (suc i)
entry_there vars rows d basic free lines h out m i k =
    entry_placed (get_or free i 0) free (line_or out basic lines) (inr (says_or vars rows d free basic lines h.says out m).0)
    ∙ ap (λ j. get_or (line_or out basic lines) (suc j) (pos 0)) (place_unique (get_or free i 0) free i h.fresh_free k refl)
    ∙ ap (λ (l : List ℤ). get_or l (suc i) (pos 0)) (line_placed out basic lines (says_long vars rows d free basic lines h.says))

pub constant_there : (vars : ℕ) (rows : List Row) (d : ℤ) (basic free : List ℕ) (lines : List (List ℤ)) → Holds vars rows d basic free lines → (i : ℕ) → i < length basic
    → constant (line_or (get_or basic i 0) basic lines) ≡ number_at lines i 0
constant_there vars rows d basic free lines h i k =
    ap constant (line_placed (get_or basic i 0) basic lines (says_long vars rows d free basic lines h.says))
    ∙ ap (λ j. number_at lines j 0) (place_unique (get_or basic i 0) basic i h.fresh_basic k refl)

pub record LeavesAt (basic : List ℕ) (lines : List (List ℤ)) (out : ℕ) : Type 0 where
  pub member : In out basic
  pub negative : constant (line_or out basic lines) <ℤ pos 0
  pub least : (y : ℕ) → In y basic → constant (line_or y basic lines) <ℤ pos 0 → out ≤ y

pub record EntersAt (free : List ℕ) (line : List ℤ) (into : ℕ) : Type 0 where
  pub member : In into free
  pub positive : pos 0 <ℤ entry_of into free (entries line)
  pub least : (y : ℕ) → In y free → pos 0 <ℤ entry_of y free (entries line) → into ≤ y

test_is : (x y : ℤ) → x <ℤ y → lt_z x y ≡ true
test_is x y h = by (true_or_false (lt_z x y))
  where
    by : ((lt_z x y ≡ true) ⊎ (lt_z x y ≡ false)) → lt_z x y ≡ true
    by (inl e) = e
    by (inr e) = absurd (let k : y ≤ℤ x = lt_z_no (subst (λ b. T (not b)) (sym e) tt) in omega (arith, ints, h, k))

pub leaves_at : (vars : ℕ) (rows : List Row) (d : ℤ) (basic free : List ℕ) (lines : List (List ℤ)) → Holds vars rows d basic free lines → (out : ℕ) → least_leaving basic lines ≡ Some out → LeavesAt basic lines out
leaves_at vars rows d basic free lines h out e = by (subst (Found basic (λ i. lt_z (number_at lines i 0) (pos 0)) (length basic)) e (found_is basic (λ i. lt_z (number_at lines i 0) (pos 0)) (length basic)))
  where
    by : FoundAt basic (λ i. lt_z (number_at lines i 0) (pos 0)) (length basic) out → LeavesAt basic lines out
    by f = record {
      member = subst (λ z. In z basic) f.at (get_or-In basic f.i 0 f.inside);
      negative = subst (λ z. constant (line_or z basic lines) <ℤ pos 0) f.at (subst (λ x. x <ℤ pos 0) (sym (constant_there vars rows d basic free lines h f.i f.inside)) (lt_z_yes (subst T (sym f.passes) tt)));
      least = λ y i n.
          let at = place_is y basic i in
          subst (λ z. out ≤ z) at.1 (f.least (place_of y basic) at.0
          (test_is (number_at lines (place_of y basic) 0) (pos 0) (subst (λ x. x <ℤ pos 0) (constant_there vars rows d basic free lines h (place_of y basic) at.0) (subst (λ z. constant (line_or z basic lines) <ℤ pos 0) (sym at.1) n))));
    }

pub none_leaves : (vars : ℕ) (rows : List Row) (d : ℤ) (basic free : List ℕ) (lines : List (List ℤ)) → Holds vars rows d basic free lines → least_leaving basic lines ≡ None → (y : ℕ) → In y basic → pos 0 ≤ℤ constant (line_or y basic lines)
none_leaves vars rows d basic free lines h e y i =
    let at = place_is y basic i in
    let f = subst (Found basic (λ i. lt_z (number_at lines i 0) (pos 0)) (length basic)) e (found_is basic (λ i. lt_z (number_at lines i 0) (pos 0)) (length basic)) in
    subst (λ z. pos 0 ≤ℤ constant (line_or z basic lines)) at.1
    (subst (λ x. pos 0 ≤ℤ x) (sym (constant_there vars rows d basic free lines h (place_of y basic) at.0)) (lt_z_no (subst (λ b. T (not b)) (sym (f (place_of y basic) at.0)) tt)))

pub enters_at : (vars : ℕ) (rows : List Row) (d : ℤ) (basic free : List ℕ) (lines : List (List ℤ)) → Holds vars rows d basic free lines → (out into : ℕ) → In out basic → least_entering free lines (place_of out basic) ≡ Some into
    → EntersAt free (line_or out basic lines) into
enters_at vars rows d basic free lines h out into m e = by (subst (Found free (λ s. lt_z (pos 0) (number_at lines (place_of out basic) (suc s))) (length free)) e (found_is free (λ s. lt_z (pos 0) (number_at lines (place_of out basic) (suc s))) (length free)))
  where
    by : FoundAt free (λ s. lt_z (pos 0) (number_at lines (place_of out basic) (suc s))) (length free) into → EntersAt free (line_or out basic lines) into
    by f = record {
      member = subst (λ z. In z free) f.at (get_or-In free f.i 0 f.inside);
      positive = subst (λ z. pos 0 <ℤ entry_of z free (entries (line_or out basic lines))) f.at (subst (λ x. pos 0 <ℤ x) (sym (entry_there vars rows d basic free lines h out m f.i f.inside)) (lt_z_yes (subst T (sym f.passes) tt)));
      least = λ y i n.
          let at = place_is y free i in
          subst (λ z. into ≤ z) at.1 (f.least (place_of y free) at.0
          (test_is (pos 0) (number_at lines (place_of out basic) (suc (place_of y free)))
          (subst (λ x. pos 0 <ℤ x) (entry_there vars rows d basic free lines h out m (place_of y free) at.0) (subst (λ z. pos 0 <ℤ entry_of z free (entries (line_or out basic lines))) (sym at.1) n))));
    }

pub none_enters : (vars : ℕ) (rows : List Row) (d : ℤ) (basic free : List ℕ) (lines : List (List ℤ)) → Holds vars rows d basic free lines → (out : ℕ) → In out basic → least_entering free lines (place_of out basic) ≡ None
    → NoEntry free (line_or out basic lines)
none_enters vars rows d basic free lines h out m e y i =
    let at = place_is y free i in
    let f = subst (Found free (λ s. lt_z (pos 0) (number_at lines (place_of out basic) (suc s))) (length free)) e (found_is free (λ s. lt_z (pos 0) (number_at lines (place_of out basic) (suc s))) (length free)) in
    subst (λ z. entry_of z free (entries (line_or out basic lines)) ≤ℤ pos 0) at.1
    (subst (λ x. x ≤ℤ pos 0) (sym (entry_there vars rows d basic free lines h out m (place_of y free) at.0)) (lt_z_no (subst (λ b. T (not b)) (sym (f (place_of y free) at.0)) tt)))
