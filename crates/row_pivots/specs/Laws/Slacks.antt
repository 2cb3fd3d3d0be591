-- The table of all slacks: the rows themselves.
--
--   slack_table     with the denominator 1, the slacks basic and the variables free
use Rattle.std.proofs.Common.{◌≡◌, ℕ, zero, suc, ◌+◌, ◌<◌, ◌≤◌, List, [], ◌∷◌, length, map, get_or, replicate, refl, ap, sym, subst, ◌∙◌, arith, ℤ, pos, ◌+ℤ◌, ◌*ℤ◌, ◌⊎◌, inl, inr}
use Rattle.std.proofs.lemmas.Bool.{cases_lt}
use Rattle.std.proofs.lemmas.Int.{ints}
use Rattle.std.proofs.lemmas.List.{length-replicate, get_or-set_same, get_or-set_other}
use Rattle.std.proofs.lemmas.List.FromFn.{length-range_with_len}
use Rattle.std.specs.List.{AllZip, range_with_len}
use Rattle.std.proofs.Math.Nat.{eq-one_of_dvd-one}
use Rattle.integer_laws.specs.Members.{In}
use Rattle.integer_laws.specs.Laws.Ring.{expand}
use Rattle.integer_laws.specs.Vectors.{dot, zeros, unit}
use Rattle.row_laws.specs.Laws.Independence.{variable_is, past_the_end, In-range, Climbs}
use Rattle.row_laws.specs.Laws.OneForm.{any_default}
use Rattle.row_laws.specs.Laws.Pivots.{below}
use Rattle.row_pivots.specs.Laws.Pivoting.{Line, line_from, column}
use Rattle.row_pivots.specs.Tables.{AreRowsOf}
use Rattle.row_pivots.specs.Laws.Points.{slack_is, climbs_fresh}
use Rattle.row_pivots.specs.Laws.Sorted.{range_climbs}
use Rattle.row_pivots.specs.Tables.{Holds}
use Rattle.seq_model.specs.Dictionaries.{meaning, one}
use Rattle.seq_model.specs.Systems.{no_row}
use Rattle.seq_model.specs.declared.row.Row.{Row}
use Rattle.row_pivots.specs.Ends.{slack_lines}

zero_at : (n k : ℕ) → get_or (zeros n) k (pos 0) ≡ pos 0
zero_at zero k = refl
zero_at (suc n) zero = refl
zero_at (suc n) (suc k) = zero_at n k

-- a sum in which all but one number of the second list are 0
all_zero : (m : ℕ → List ℤ) (j : ℕ) (a : List ℤ) (low n : ℕ) → ((i : ℕ) → low ≤ i → i < low + n → get_or (m i) j (pos 0) ≡ pos 0) → dot a (column j (map m (range_with_len low n))) ≡ pos 0
all_zero m j [] low n h = refl
all_zero m j (x ∷ a) low zero h = refl
all_zero m j (x ∷ a) low (suc n) h =
    settle x (get_or (m low) j (pos 0)) _ (h low (omega arith) (omega arith)) (all_zero m j a (low + 1) n (λ i k l. h i (omega (arith, k)) (omega (arith, l))))
  where
    settle : (x y s : ℤ) → y ≡ pos 0 → s ≡ pos 0 → x *ℤ y +ℤ s ≡ pos 0
    settle x y s e f = rw (e, f) (plain x)
      where
        plain : (x : ℤ) → x *ℤ pos 0 +ℤ pos 0 ≡ pos 0
        plain x = simp expand

picks : (m : ℕ → List ℤ) (j : ℕ) (a : List ℤ) (low n k : ℕ) → k < n → length a ≡ n → get_or (m (low + k)) j (pos 0) ≡ pos 1 → ((i : ℕ) → low ≤ i → i < low + n → (i ≡ low + k → ⊥) → get_or (m i) j (pos 0) ≡ pos 0)
    → dot a (column j (map m (range_with_len low n))) ≡ get_or a k (pos 0)
picks m j [] low n k h l one none = absurd (omega (arith, h, l))
picks m j (x ∷ a) low zero k h l one none = absurd (omega (arith, h))
picks m j (x ∷ a) low (suc n) zero h l one none =
    settle x (get_or (m low) j (pos 0)) _ (subst (λ t. get_or (m t) j (pos 0) ≡ pos 1) (plus_none low) one) (all_zero m j a (low + 1) n (λ i k q. none i (omega (arith, k)) (omega (arith, q)) (λ e. absurd (omega (arith, e, k)))))
  where
    plus_none : (n : ℕ) → n + 0 ≡ n
    plus_none n = omega arith

    settle : (x y s : ℤ) → y ≡ pos 1 → s ≡ pos 0 → x *ℤ y +ℤ s ≡ x
    settle x y s e f = rw (e, f) (plain x)
      where
        plain : (x : ℤ) → x *ℤ pos 1 +ℤ pos 0 ≡ x
        plain x = simp expand (omega (arith, ints))
picks m j (x ∷ a) low (suc n) (suc k) h l one none =
    settle x (get_or (m low) j (pos 0)) _ _ (none low (omega arith) (omega arith) (λ e. absurd (omega (arith, e))))
    (picks m j a (low + 1) n k (omega (arith, h)) (omega (arith, l)) (subst (λ t. get_or (m t) j (pos 0) ≡ pos 1) (along low k) one) (λ i q w d. none i (omega (arith, q)) (omega (arith, w)) (λ e. d (omega (arith, e)))))
  where
    along : (n k : ℕ) → n + suc k ≡ (n + 1) + k
    along n k = omega arith

    settle : (x y s r : ℤ) → y ≡ pos 0 → s ≡ r → x *ℤ y +ℤ s ≡ r
    settle x y s r e f = rw (e, f) (plain x r)
      where
        plain : (x r : ℤ) → x *ℤ pos 0 +ℤ r ≡ r
        plain x r = simp expand (omega (arith, ints))

-- a list of numbers, by the variables
pub by_variables : (vars : ℕ) (rows : List Row) (c : ℤ) (a : List ℤ) → length a ≡ vars → (j : ℕ) → dot (c ∷ a) (column j (one vars ∷ map (meaning vars rows) (range_with_len 0 vars))) ≡ get_or (c ∷ a) j (pos 0)
by_variables vars rows c a l zero = first c _ (all_zero (meaning vars rows) 0 a 0 vars (λ i h k. ap (λ v. get_or v 0 (pos 0)) (variable_is vars rows i (omega (arith, k))) ∙ unit_first vars i))
  where
    first : (c s : ℤ) → s ≡ pos 0 → c *ℤ pos 1 +ℤ s ≡ c
    first c s e = rw e (plain c)
      where
        plain : (c : ℤ) → c *ℤ pos 1 +ℤ pos 0 ≡ c
        plain c = simp expand (omega (arith, ints))

    unit_first : (vars i : ℕ) → get_or (unit (suc vars) (suc i)) 0 (pos 0) ≡ pos 0
    unit_first vars i = refl
by_variables vars rows c a l (suc k) = rest c (get_or (replicate vars (pos 0)) k (pos 0)) _ _ (zero_at vars k) (by (cases_lt k vars))
  where
    rest : (c y s r : ℤ) → y ≡ pos 0 → s ≡ r → c *ℤ y +ℤ s ≡ r
    rest c y s r e f = rw (e, f) (plain c r)
      where
        plain : (c r : ℤ) → c *ℤ pos 0 +ℤ r ≡ r
        plain c r = simp expand (omega (arith, ints))

    here : (i : ℕ) → i < vars → i ≡ k → get_or (meaning vars rows i) (suc k) (pos 0) ≡ pos 1
    here i h e = ap (λ v. get_or v (suc k) (pos 0)) (variable_is vars rows i h) ∙ subst (λ t. get_or (unit vars i) t (pos 0) ≡ pos 1) e (get_or-set_same (zeros vars) i (pos 1) (pos 0) (let m = length-replicate vars (pos 0) in omega (arith, m, h)))

    there : (i : ℕ) → i < vars → (i ≡ k → ⊥) → get_or (meaning vars rows i) (suc k) (pos 0) ≡ pos 0
    there i h d = ap (λ v. get_or v (suc k) (pos 0)) (variable_is vars rows i h) ∙ get_or-set_other (zeros vars) i k (pos 1) (pos 0) (λ e. d (sym e)) ∙ zero_at vars k

    by : (k < vars) ⊎ (vars ≤ k) → dot a (column (suc k) (map (meaning vars rows) (range_with_len 0 vars))) ≡ get_or a k (pos 0)
    by (inl h) = picks (meaning vars rows) (suc k) a 0 vars k h l (here (0 + k) (omega (arith, h)) (omega arith)) (λ i q w d. there i (omega (arith, w)) (λ e. d (omega (arith, e))))
    by (inr h) = all_zero (meaning vars rows) (suc k) a 0 vars (λ i q w. there i (omega (arith, w)) (λ e. absurd (omega (arith, e, w, h)))) ∙ sym (past_the_end a k (omega (arith, l, h)))

zip_range : (P : ℕ → List ℤ → Type 0) (low : ℕ) (xs : List Row) → ((i : ℕ) (w : Row) → i < length xs → P (low + i) ((get_or xs i w).c ∷ (get_or xs i w).a)) → AllZip P (range_with_len low (length xs)) (slack_lines xs)
zip_range P low [] h = tt
zip_range P low (x ∷ xs) h = (subst (λ t. P t (x.c ∷ x.a)) (none low) (h 0 x (omega arith)), zip_range P (low + 1) xs (λ i w k. subst (λ t. P t ((get_or xs i w).c ∷ (get_or xs i w).a)) (along low i) (h (suc i) w (omega (arith, k)))))
  where
    none : (n : ℕ) → n + 0 ≡ n
    none n = omega arith

    along : (n i : ℕ) → n + suc i ≡ (n + 1) + i
    along n i = omega arith

pub slack_table : (vars : ℕ) (rows : List Row) → AreRowsOf vars rows → Holds vars rows (pos 1) (range_with_len vars (length rows)) (range_with_len 0 vars) (slack_lines rows)
slack_table vars rows are = record {
  rows_are = are;
  positive = omega (arith, ints);
  many = length-range_with_len vars (length rows);
  fresh_basic = climbs_fresh vars (vars + length rows) (range_with_len vars (length rows)) high;
  fresh_free = climbs_fresh 0 vars (range_with_len 0 vars) low;
  apart = λ y i k. let a = below 0 vars (range_with_len 0 vars) y low i in let b = below vars (vars + length rows) (range_with_len vars (length rows)) y high k in absurd (omega (arith, a, b));
  small_basic = λ z i. (below vars (vars + length rows) (range_with_len vars (length rows)) z high i).1;
  small_free = small_free;
  cover = λ y h. by y h (cases_lt y vars);
  says = zip_range (λ z line. Line vars rows (pos 1) (range_with_len 0 vars) z line) vars rows each;
  reduced = λ k a. eq-one_of_dvd-one a.0;
}
  where
    high : Climbs vars (vars + length rows) (range_with_len vars (length rows))
    high = range_climbs vars (length rows) (vars + length rows) refl

    low : Climbs 0 vars (range_with_len 0 vars)
    low = range_climbs 0 vars vars (omega arith)

    small_free : (z : ℕ) → In z (range_with_len 0 vars) → z < vars + length rows
    small_free z i = let a = below 0 vars (range_with_len 0 vars) z low i in omega (arith, a)

    by : (y : ℕ) → y < vars + length rows → (y < vars) ⊎ (vars ≤ y) → In y (range_with_len vars (length rows)) ⊎ In y (range_with_len 0 vars)
    by y h (inl k) = inr (In-range 0 vars y (omega arith) (omega (arith, k)))
    by y h (inr k) = inl (In-range vars (length rows) y k h)

    long_free : length (range_with_len 0 vars) ≡ vars
    long_free = length-range_with_len 0 vars

    each : (i : ℕ) (w : Row) → i < length rows → Line vars rows (pos 1) (range_with_len 0 vars) (vars + i) ((get_or rows i w).c ∷ (get_or rows i w).a)
    each i w h =
        line_from vars rows are (pos 1) (range_with_len 0 vars) small_free (vars + i) (omega (arith, h)) ((get_or rows i w).c ∷ (get_or rows i w).a) (ap suc (are i w h ∙ sym long_free))
        (λ j. one_times (get_or (meaning vars rows (vars + i)) j (pos 0))
        ∙ ap (λ v. get_or v j (pos 0)) (slack_is vars rows i ∙ ap (λ (row : Row). row.c ∷ row.a) (any_default rows i no_row w h))
        ∙ sym (by_variables vars rows (get_or rows i w).c (get_or rows i w).a (are i w h) j))
      where
        one_times : (x : ℤ) → pos 1 *ℤ x ≡ x
        one_times x = omega (arith, ints)
