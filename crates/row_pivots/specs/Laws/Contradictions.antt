-- Where nothing can enter in the line of a variable with a negative constant, the rows contradict one another.
--
--   weight d out free line z        d for what would leave, minus the entry of a free variable, 0 for any other
--   mults vars w n                  the first n rows, each with the weight of its slack, but for those of weight 0
--   NoEntry free line               no entry is positive
--   contradicts                     they are a Contradiction
--   few_mults, some_mults, rising_mults, positive_mults     at most vars + 1 of them, at least one, by rising rows, each at least once
use Rattle.std.proofs.Common.{◌≡◌, ℕ, zero, suc, ◌+◌, ◌<◌, ◌≤◌, List, [], ◌∷◌, ◌++◌, length, map, get_or, All, refl, ap, ap₂, sym, subst, ◌∙◌, arith, ℤ, pos, neg_ℤ, ◌+ℤ◌, ◌*ℤ◌, ◌≤ℤ◌, ◌<ℤ◌, ◌⊎◌, inl, inr, Bool, true, false, ◌||◌}
use Rattle.std.proofs.lemmas.Int.{ints}
use Rattle.std.proofs.lemmas.List.{length-map}
use Rattle.std.proofs.lemmas.List.Filters.{length-filter_both}
use Rattle.std.proofs.lemmas.List.FromFn.{length-range_with_len}
use Rattle.std.specs.Int.Signed.{lt_z}
use Rattle.std.specs.List.{filter, range_with_len}
use Rattle.std.specs.Prelude.{not, nat_eq, if◌then◌else◌}
use lib.Dec.{T}
use lib.Signed.{lt_z_yes, lt_z_no}
use Rattle.integer_laws.specs.Members.{In}
use Rattle.integer_laws.specs.Laws.Members.{In-append_cases, In-map_cases, All-from_in}
use Rattle.integer_laws.specs.Laws.Ring.{expand}
use Rattle.integer_laws.specs.Vectors.{dot, scale}
use Rattle.integer_laws.specs.Laws.Vectors.{get_or-plus, get_or-scale}
use Rattle.row_laws.specs.Laws.Independence.{true_or_false, in_basis, is_in_member, In-range, Climbs, taken}
use Rattle.row_laws.specs.Laws.OneForm.{any_default}
use Rattle.row_laws.specs.Laws.Pivots.{to_rises}
use Rattle.row_pivots.specs.Laws.Pivoting.{Line, line_each, column}
use Rattle.row_pivots.specs.Laws.Points.{slack_is}
use Rattle.row_pivots.specs.Laws.Slacks.{by_variables}
use Rattle.row_pivots.specs.Laws.Sorted.{entry_none, says_or, same_sum, one_entry, range_climbs, as_many, one_more}
use Rattle.row_pivots.specs.Tables.{Holds, entry_of, line_or, rising}
use Rattle.seq_model.specs.Dictionaries.{meaning, one, is_in, Rises}
use Rattle.seq_model.specs.Systems.{row_at, sum_constant, sum_coefficients, IsTaken, Contradiction}
use Rattle.seq_model.specs.Walks.{constant, entries}
use Rattle.seq_model.specs.declared.row.Row.{Row}
use Rattle.seq_model.specs.declared.tree.Mult.{Mult}
use Rattle.row_pivots.specs.Ends.{NoEntry, mults, one_mult, weight}

-- ---- sums over a range, from its end
abbrev over : (ℕ → ℤ) → (ℕ → List ℤ) → ℕ → ℕ → ℕ → ℤ
over w m j low n = dot (map w (range_with_len low n)) (column j (map m (range_with_len low n)))

one_later : (w : ℕ → ℤ) (m : ℕ → List ℤ) (j low n : ℕ) → over w m j low (suc n) ≡ over w m j low n +ℤ w (low + n) *ℤ get_or (m (low + n)) j (pos 0)
one_later w m j low zero = subst (λ t. w low *ℤ get_or (m low) j (pos 0) +ℤ pos 0 ≡ pos 0 +ℤ w t *ℤ get_or (m t) j (pos 0)) (none low) (plain (w low *ℤ get_or (m low) j (pos 0)))
  where
    none : (n : ℕ) → n ≡ n + 0
    none n = omega arith

    plain : (x : ℤ) → x +ℤ pos 0 ≡ pos 0 +ℤ x
    plain x = omega (arith, ints)
one_later w m j low (suc n) =
    ap (λ t. w low *ℤ get_or (m low) j (pos 0) +ℤ t) (one_later w m j (low + 1) n ∙ ap (λ t. over w m j (low + 1) n +ℤ w t *ℤ get_or (m t) j (pos 0)) (along low n))
    ∙ plain (w low *ℤ get_or (m low) j (pos 0)) (over w m j (low + 1) n) _
  where
    along : (a b : ℕ) → (a + 1) + b ≡ a + suc b
    along a b = omega arith

    plain : (x y z : ℤ) → x +ℤ (y +ℤ z) ≡ (x +ℤ y) +ℤ z
    plain x y z = omega (arith, ints)

in_two : (w : ℕ → ℤ) (m : ℕ → List ℤ) (j a b : ℕ) → over w m j 0 (a + b) ≡ over w m j 0 a +ℤ over w m j a b
in_two w m j a zero = ap (over w m j 0) (none a) ∙ plain (over w m j 0 a)
  where
    none : (n : ℕ) → n + 0 ≡ n
    none n = omega arith

    plain : (x : ℤ) → x ≡ x +ℤ pos 0
    plain x = omega (arith, ints)
in_two w m j a (suc b) =
    ap (over w m j 0) (along a b) ∙ one_later w m j 0 (a + b) ∙ ap (λ t. over w m j 0 (a + b) +ℤ w t *ℤ get_or (m t) j (pos 0)) (zero_plus (a + b))
    ∙ ap (λ t. t +ℤ w (a + b) *ℤ get_or (m (a + b)) j (pos 0)) (in_two w m j a b)
    ∙ plain (over w m j 0 a) (over w m j a b) (w (a + b) *ℤ get_or (m (a + b)) j (pos 0)) ∙ ap (λ t. over w m j 0 a +ℤ t) (sym (one_later w m j a b))
  where
    along : (a b : ℕ) → a + suc b ≡ suc (a + b)
    along a b = omega arith

    zero_plus : (n : ℕ) → 0 + n ≡ n
    zero_plus n = omega arith

    plain : (x y z : ℤ) → (x +ℤ y) +ℤ z ≡ x +ℤ (y +ℤ z)
    plain x y z = omega (arith, ints)

-- ---- dropping zeros changes no sum
constant_joined : (rows : List Row) (a b : List Mult) → sum_constant rows (a ++ b) ≡ sum_constant rows a +ℤ sum_constant rows b
constant_joined rows [] b = plain (sum_constant rows b)
  where
    plain : (x : ℤ) → x ≡ pos 0 +ℤ x
    plain x = omega (arith, ints)
constant_joined rows (x ∷ a) b = let r = constant_joined rows a b in omega (arith, ints, r)

coefficients_joined : (rows : List Row) (k : ℕ) (a b : List Mult) → get_or (sum_coefficients rows (a ++ b)) k (pos 0) ≡ get_or (sum_coefficients rows a) k (pos 0) +ℤ get_or (sum_coefficients rows b) k (pos 0)
coefficients_joined rows k [] b = plain (get_or (sum_coefficients rows b) k (pos 0))
  where
    plain : (x : ℤ) → x ≡ pos 0 +ℤ x
    plain x = omega (arith, ints)
coefficients_joined rows k (x ∷ a) b =
    get_or-plus (scale x.times (row_at rows x.row).a) (sum_coefficients rows (a ++ b)) k
    ∙ ap (λ t. get_or (scale x.times (row_at rows x.row).a) k (pos 0) +ℤ t) (coefficients_joined rows k a b)
    ∙ plain (get_or (scale x.times (row_at rows x.row).a) k (pos 0)) (get_or (sum_coefficients rows a) k (pos 0)) (get_or (sum_coefficients rows b) k (pos 0))
    ∙ ap (λ t. t +ℤ get_or (sum_coefficients rows b) k (pos 0)) (sym (get_or-plus (scale x.times (row_at rows x.row).a) (sum_coefficients rows a) k))
  where
    plain : (x y z : ℤ) → x +ℤ (y +ℤ z) ≡ (x +ℤ y) +ℤ z
    plain x y z = omega (arith, ints)

nothing_times : (t x : ℤ) → pos 0 ≤ℤ t → t ≤ℤ pos 0 → pos 0 ≡ t *ℤ x
nothing_times t x h k = rw (zero_is t h k) (plain x)
  where
    zero_is : (t : ℤ) → pos 0 ≤ℤ t → t ≤ℤ pos 0 → t ≡ pos 0
    zero_is t h k = omega (arith, ints, h, k)

    plain : (x : ℤ) → pos 0 ≡ pos 0 *ℤ x
    plain x = simp expand

one_constant : (rows : List Row) (r : ℕ) (t : ℤ) → pos 0 ≤ℤ t → sum_constant rows (one_mult r t) ≡ t *ℤ (row_at rows r).c
one_constant rows r t h = by (true_or_false (lt_z (pos 0) t))
  where
    plain : (x : ℤ) → x +ℤ pos 0 ≡ x
    plain x = omega (arith, ints)

    by : ((lt_z (pos 0) t ≡ true) ⊎ (lt_z (pos 0) t ≡ false)) → sum_constant rows (one_mult r t) ≡ t *ℤ (row_at rows r).c
    by (inl e) = ap (λ (b : Bool). sum_constant rows (if b then record { row = r; times = t } ∷ [] else [])) e ∙ plain (t *ℤ (row_at rows r).c)
    by (inr e) = ap (λ (b : Bool). sum_constant rows (if b then record { row = r; times = t } ∷ [] else [])) e ∙ nothing_times t (row_at rows r).c h (lt_z_no (subst (λ b. T (not b)) (sym e) tt))

one_coefficient : (rows : List Row) (k r : ℕ) (t : ℤ) → pos 0 ≤ℤ t → get_or (sum_coefficients rows (one_mult r t)) k (pos 0) ≡ t *ℤ get_or (row_at rows r).a k (pos 0)
one_coefficient rows k r t h = by (true_or_false (lt_z (pos 0) t))
  where
    plain : (x : ℤ) → x +ℤ pos 0 ≡ x
    plain x = omega (arith, ints)

    by : ((lt_z (pos 0) t ≡ true) ⊎ (lt_z (pos 0) t ≡ false)) → get_or (sum_coefficients rows (one_mult r t)) k (pos 0) ≡ t *ℤ get_or (row_at rows r).a k (pos 0)
    by (inl e) =
        ap (λ (b : Bool). get_or (sum_coefficients rows (if b then record { row = r; times = t } ∷ [] else [])) k (pos 0)) e
        ∙ get_or-plus (scale t (row_at rows r).a) [] k ∙ plain (get_or (scale t (row_at rows r).a) k (pos 0)) ∙ get_or-scale t (row_at rows r).a k
    by (inr e) =
        ap (λ (b : Bool). get_or (sum_coefficients rows (if b then record { row = r; times = t } ∷ [] else [])) k (pos 0)) e
        ∙ nothing_times t (get_or (row_at rows r).a k (pos 0)) h (lt_z_no (subst (λ b. T (not b)) (sym e) tt))

constants_are : (vars : ℕ) (rows : List Row) (w : ℕ → ℤ) → ((z : ℕ) → pos 0 ≤ℤ w z) → (n : ℕ) → sum_constant rows (mults vars w n) ≡ over w (meaning vars rows) 0 vars n
constants_are vars rows w h zero = refl
constants_are vars rows w h (suc n) =
    constant_joined rows (mults vars w n) (one_mult n (w (vars + n)))
    ∙ ap₂ ◌+ℤ◌ (constants_are vars rows w h n) (one_constant rows n (w (vars + n)) (h (vars + n)) ∙ ap (λ v. w (vars + n) *ℤ get_or v 0 (pos 0)) (sym (slack_is vars rows n)))
    ∙ sym (one_later w (meaning vars rows) 0 vars n)

coefficients_are : (vars : ℕ) (rows : List Row) (k : ℕ) (w : ℕ → ℤ) → ((z : ℕ) → pos 0 ≤ℤ w z) → (n : ℕ) → get_or (sum_coefficients rows (mults vars w n)) k (pos 0) ≡ over w (meaning vars rows) (suc k) vars n
coefficients_are vars rows k w h zero = refl
coefficients_are vars rows k w h (suc n) =
    coefficients_joined rows k (mults vars w n) (one_mult n (w (vars + n)))
    ∙ ap₂ ◌+ℤ◌ (coefficients_are vars rows k w h n) (one_coefficient rows k n (w (vars + n)) (h (vars + n)) ∙ ap (λ v. w (vars + n) *ℤ get_or v (suc k) (pos 0)) (sym (slack_is vars rows n)))
    ∙ sym (one_later w (meaning vars rows) (suc k) vars n)

-- ---- which rows
pub record TakenOf (vars : ℕ) (w : ℕ → ℤ) (n : ℕ) (m : Mult) : Type 0 where
  pub row : m.row < n
  pub times : m.times ≡ w (vars + m.row)
  pub some : pos 0 <ℤ m.times

pub taken_of : (vars : ℕ) (w : ℕ → ℤ) (n : ℕ) (m : Mult) → In m (mults vars w n) → TakenOf vars w n m
taken_of vars w zero m i = absurd i
taken_of vars w (suc n) m i = by (In-append_cases (mults vars w n) (one_mult n (w (vars + n))) m i) (taken_of vars w n m)
  where
    new : ((lt_z (pos 0) (w (vars + n)) ≡ true) ⊎ (lt_z (pos 0) (w (vars + n)) ≡ false)) → In m (one_mult n (w (vars + n))) → TakenOf vars w (suc n) m
    new (inr e) j = absurd (subst (λ (b : Bool). In m (if b then record { row = n; times = w (vars + n) } ∷ [] else [])) e j)
    new (inl e) j = at (subst (λ (b : Bool). In m (if b then record { row = n; times = w (vars + n) } ∷ [] else [])) e j)
      where
        at : In m (record { row = n; times = w (vars + n) } ∷ []) → TakenOf vars w (suc n) m
        at (inl s) = record {
          row = subst (λ (x : Mult). x.row < suc n) (sym s) (omega arith);
          times = subst (λ (x : Mult). x.times ≡ w (vars + x.row)) (sym s) refl;
          some = subst (λ (x : Mult). pos 0 <ℤ x.times) (sym s) (lt_z_yes (subst T (sym e) tt));
        }
        at (inr s) = absurd s

    by : In m (mults vars w n) ⊎ In m (one_mult n (w (vars + n))) → (In m (mults vars w n) → TakenOf vars w n m) → TakenOf vars w (suc n) m
    by (inl j) earlier = let t = earlier j in let r = t.row in record { row = omega (arith, r); times = t.times; some = t.some }
    by (inr j) earlier = new (true_or_false (lt_z (pos 0) (w (vars + n)))) j

climbs_later : (low end : ℕ) (zs : List ℕ) → Climbs low end zs → Climbs low (end + 1) zs
climbs_later low end [] c = tt
climbs_later low end (z ∷ zs) c = (c.0, omega (arith, c.1), climbs_later (z + 1) end zs c.2)

climbs_on : (low end : ℕ) (zs : List ℕ) → low ≤ end → Climbs low end zs → Climbs low (end + 1) (zs ++ end ∷ [])
climbs_on low end [] h c = (h, omega arith, tt)
climbs_on low end (z ∷ zs) h c = (c.0, omega (arith, c.1), climbs_on (z + 1) end zs (omega (arith, c.1)) c.2)

map_joined : {A B : Type 0} (f : A → B) (xs ys : List A) → map f (xs ++ ys) ≡ map f xs ++ map f ys
map_joined f [] ys = refl
map_joined f (x ∷ xs) ys = ap (λ t. f x ∷ t) (map_joined f xs ys)

joined_none : {A : Type 0} (xs : List A) → xs ++ [] ≡ xs
joined_none [] = refl
joined_none (x ∷ xs) = ap (λ t. x ∷ t) (joined_none xs)

climb : (vars : ℕ) (w : ℕ → ℤ) (at : ℕ → ℕ) → ((r : ℕ) → at (suc r) ≡ at r + 1) → (n : ℕ) → Climbs 0 (at n) (map (λ (m : Mult). at m.row) (mults vars w n))
climb vars w at up zero = tt
climb vars w at up (suc n) = by (true_or_false (lt_z (pos 0) (w (vars + n)))) (climb vars w at up n)
  where
    f : Mult → ℕ
    f m = at m.row

    whole : (b : Bool) → Climbs 0 (at n) (map (λ (m : Mult). at m.row) (mults vars w n)) → Climbs 0 (at n + 1) (map (λ (m : Mult). at m.row) (mults vars w n) ++ map (λ (m : Mult). at m.row) (if b then record { row = n; times = w (vars + n) } ∷ [] else []))
    whole true c = climbs_on 0 (at n) (map (λ (m : Mult). at m.row) (mults vars w n)) (omega arith) c
    whole false c = subst (Climbs 0 (at n + 1)) (sym (joined_none (map (λ (m : Mult). at m.row) (mults vars w n)))) (climbs_later 0 (at n) (map (λ (m : Mult). at m.row) (mults vars w n)) c)

    by : ((lt_z (pos 0) (w (vars + n)) ≡ true) ⊎ (lt_z (pos 0) (w (vars + n)) ≡ false)) → Climbs 0 (at n) (map (λ (m : Mult). at m.row) (mults vars w n)) → Climbs 0 (at (suc n)) (map (λ (m : Mult). at m.row) (mults vars w (suc n)))
    by e c =
        subst (λ t. Climbs 0 t (map (λ (m : Mult). at m.row) (mults vars w (suc n)))) (sym (up n))
        (subst (Climbs 0 (at n + 1)) (sym (map_joined (λ (m : Mult). at m.row) (mults vars w n) (one_mult n (w (vars + n))))) (whole (lt_z (pos 0) (w (vars + n))) c))

pub rising_mults : (vars : ℕ) (w : ℕ → ℤ) (n : ℕ) → Rises n (map (λ (m : Mult). m.row) (mults vars w n))
rising_mults vars w n = to_rises 0 n (map (λ (m : Mult). m.row) (mults vars w n)) (climb vars w (λ r. r) up n)
  where
    up : (r : ℕ) → suc r ≡ r + 1
    up r = omega arith

-- ---- the weights of a table where nothing enters

pub entry_below : (free : List ℕ) (line : List ℤ) → NoEntry free line → (z : ℕ) → entry_of z free (entries line) ≤ℤ pos 0
entry_below free line none z = by (true_or_false (is_in free z))
  where
    by : ((is_in free z ≡ true) ⊎ (is_in free z ≡ false)) → entry_of z free (entries line) ≤ℤ pos 0
    by (inl e) = none z (in_basis free z e)
    by (inr e) = let n = entry_none z free (entries line) (λ i. absurd (subst T (sym (is_in_member free z i) ∙ e) tt)) in omega (arith, ints, n)

pub weight_nonneg : (d : ℤ) (out : ℕ) (free : List ℕ) (line : List ℤ) → pos 1 ≤ℤ d → NoEntry free line → (z : ℕ) → pos 0 ≤ℤ weight d out free line z
weight_nonneg d out free line p none z = by (nat_eq z out)
  where
    by : (b : Bool) → pos 0 ≤ℤ (if b then d else neg_ℤ (entry_of z free (entries line)))
    by true = omega (arith, ints, p)
    by false = let e = entry_below free line none z in omega (arith, ints, e)

-- all weights together give the constant
minus_dot : (f : ℕ → ℤ) (zs : List ℕ) (cs : List ℤ) → dot (map (λ z. neg_ℤ (f z)) zs) cs ≡ neg_ℤ (dot (map f zs) cs)
minus_dot f [] cs = refl
minus_dot f (z ∷ zs) [] = refl
minus_dot f (z ∷ zs) (c ∷ cs) = step (f z) c _ _ (minus_dot f zs cs)
  where
    step : (x c a b : ℤ) → a ≡ neg_ℤ b → neg_ℤ x *ℤ c +ℤ a ≡ neg_ℤ (x *ℤ c +ℤ b)
    step x c a b e = rw e (simp expand (omega (arith, ints)))

pub weighted : (vars : ℕ) (rows : List Row) (d : ℤ) (basic free : List ℕ) (lines : List (List ℤ)) (h : Holds vars rows d basic free lines) (out : ℕ) → In out basic → (line : List ℤ) → Line vars rows d free out line → (j : ℕ)
    → over (weight d out free line) (meaning vars rows) j 0 (vars + length rows) ≡ constant line *ℤ get_or (one vars) j (pos 0)
weighted vars rows d basic free lines h out i [] l j = absurd (omega (arith, l.0))
weighted vars rows d basic free lines h out i (c ∷ es) l j =
    one_entry 0 (vars + length rows) out d (λ z. neg_ℤ (entry_of z free es)) (meaning vars rows) j (range_with_len 0 (vars + length rows)) (range_climbs 0 (vars + length rows) (vars + length rows) (omega arith))
    (ap neg_ℤ (entry_none out free es (λ k. h.apart out k i))) (In-range 0 (vars + length rows) out (omega arith) (omega (arith, h.small_basic out i)))
    ∙ together d (get_or (meaning vars rows out) j (pos 0)) c (get_or (one vars) j (pos 0)) (dot es (column j (map (meaning vars rows) free))) _ _
    (line_each vars rows d free out (c ∷ es) l j)
    (minus_dot (λ z. entry_of z free es) (range_with_len 0 (vars + length rows)) (column j (map (meaning vars rows) (range_with_len 0 (vars + length rows)))))
    (same_sum (vars + length rows) (meaning vars rows) j free es (range_with_len 0 (vars + length rows)) (omega (arith, l.0)) h.fresh_free (range_climbs 0 (vars + length rows) (vars + length rows) (omega arith))
    (λ y k. In-range 0 (vars + length rows) y (omega arith) (omega (arith, h.small_free y k))))
  where
    together : (d x c o s m t : ℤ) → d *ℤ x ≡ c *ℤ o +ℤ s → m ≡ neg_ℤ t → s ≡ t → d *ℤ x +ℤ m ≡ c *ℤ o
    together d x c o s m t e f g = omega (arith, ints, e, f, g)

-- the variables' part of the sum
first_is : (vars : ℕ) (rows : List Row) (w : ℕ → ℤ) (j : ℕ) → over w (meaning vars rows) j 0 vars ≡ get_or (pos 0 ∷ map w (range_with_len 0 vars)) j (pos 0)
first_is vars rows w j =
    plain (get_or (one vars) j (pos 0)) _ ∙ by_variables vars rows (pos 0) (map w (range_with_len 0 vars)) (length-map (range_with_len 0 vars) w ∙ length-range_with_len 0 vars) j
  where
    plain : (y x : ℤ) → x ≡ pos 0 *ℤ y +ℤ x
    plain y x = simp expand (omega (arith, ints))

nonneg_at : (w : ℕ → ℤ) → ((z : ℕ) → pos 0 ≤ℤ w z) → (zs : List ℕ) (k : ℕ) → pos 0 ≤ℤ get_or (map w zs) k (pos 0)
nonneg_at w h [] k = omega (arith, ints)
nonneg_at w h (z ∷ zs) zero = h z
nonneg_at w h (z ∷ zs) (suc k) = nonneg_at w h zs k

zeros_at : (n k : ℕ) → get_or (one n) (suc k) (pos 0) ≡ pos 0
zeros_at zero k = refl
zeros_at (suc n) zero = refl
zeros_at (suc n) (suc k) = zeros_at n k

pub contradicts : (vars : ℕ) (rows : List Row) (d : ℤ) (basic free : List ℕ) (lines : List (List ℤ)) → Holds vars rows d basic free lines → (out : ℕ) → In out basic
    → constant (line_or out basic lines) <ℤ pos 0 → NoEntry free (line_or out basic lines) → Contradiction rows (mults vars (weight d out free (line_or out basic lines)) (length rows))
contradicts vars rows d basic free lines h out i negative none = record { each = each; coefficients = coefficients; constant = total }
  where
    w : ℕ → ℤ
    w = weight d out free (line_or out basic lines)

    l : Line vars rows d free out (line_or out basic lines)
    l = says_or vars rows d free basic lines h.says out i

    nonneg : (z : ℕ) → pos 0 ≤ℤ weight d out free (line_or out basic lines) z
    nonneg = weight_nonneg d out free (line_or out basic lines) h.positive none

    sum : (j : ℕ) → over (weight d out free (line_or out basic lines)) (meaning vars rows) j 0 vars +ℤ over (weight d out free (line_or out basic lines)) (meaning vars rows) j vars (length rows)
        ≡ constant (line_or out basic lines) *ℤ get_or (one vars) j (pos 0)
    sum j = sym (in_two (weight d out free (line_or out basic lines)) (meaning vars rows) j vars (length rows)) ∙ weighted vars rows d basic free lines h out i (line_or out basic lines) l j

    each : All (IsTaken rows) (mults vars (weight d out free (line_or out basic lines)) (length rows))
    each = All-from_in (IsTaken rows) (mults vars (weight d out free (line_or out basic lines)) (length rows))
        (λ m k. let t = taken_of vars (weight d out free (line_or out basic lines)) (length rows) m k in let s = t.some in record { row = t.row; times = omega (arith, ints, s) })

    below : (k : ℕ) → get_or (sum_coefficients rows (mults vars (weight d out free (line_or out basic lines)) (length rows))) k (pos 0) ≤ℤ pos 0
    below k =
        settle _ _ _ (constant (line_or out basic lines)) (get_or (one vars) (suc k) (pos 0)) (coefficients_are vars rows k (weight d out free (line_or out basic lines)) nonneg (length rows)) (sum (suc k))
        (subst (λ t. pos 0 ≤ℤ t) (sym (first_is vars rows (weight d out free (line_or out basic lines)) (suc k))) (nonneg_at (weight d out free (line_or out basic lines)) nonneg (range_with_len 0 vars) k))
        (zeros_at vars k)
      where
        settle : (s a b c o : ℤ) → s ≡ b → a +ℤ b ≡ c *ℤ o → pos 0 ≤ℤ a → o ≡ pos 0 → s ≤ℤ pos 0
        settle s a b c o e f g n = let z : c *ℤ o ≡ pos 0 = ap (λ t. c *ℤ t) n ∙ plain c in omega (arith, ints, e, f, g, z)
          where
            plain : (c : ℤ) → c *ℤ pos 0 ≡ pos 0
            plain c = simp expand

    coefficients : All (λ a. a ≤ℤ pos 0) (sum_coefficients rows (mults vars (weight d out free (line_or out basic lines)) (length rows)))
    coefficients = λ k e r. subst (λ t. t ≤ℤ pos 0) (any_default (sum_coefficients rows (mults vars (weight d out free (line_or out basic lines)) (length rows))) k (pos 0) e r) (below k)

    total : sum_constant rows (mults vars (weight d out free (line_or out basic lines)) (length rows)) <ℤ pos 0
    total = settle _ _ _ (constant (line_or out basic lines)) (constants_are vars rows (weight d out free (line_or out basic lines)) nonneg (length rows)) (sum 0) (first_is vars rows (weight d out free (line_or out basic lines)) 0) negative
      where
        settle : (s a b c : ℤ) → s ≡ b → a +ℤ b ≡ c *ℤ pos 1 → a ≡ pos 0 → c <ℤ pos 0 → s <ℤ pos 0
        settle s a b c e f g n = omega (arith, ints, e, f, g, n)

pub some_mults : (rows : List Row) (ms : List Mult) → Contradiction rows ms → 0 < length ms
some_mults rows [] c = let k = c.constant in absurd (omega (arith, ints, k))
some_mults rows (m ∷ ms) c = omega arith

pub few_mults : (vars : ℕ) (rows : List Row) (d : ℤ) (basic free : List ℕ) (lines : List (List ℤ)) → Holds vars rows d basic free lines → (out : ℕ) → In out basic → (line : List ℤ)
    → length (mults vars (weight d out free line) (length rows)) ≤ suc vars
few_mults vars rows d basic free lines h out i line = settle many few both kept whole h.many long
  where
    p : ℕ → Bool
    p z = nat_eq z out || not (is_in basic z)

    up : (r : ℕ) → vars + suc r ≡ (vars + r) + 1
    up r = omega arith

    at : List ℕ
    at = map (λ (m : Mult). vars + m.row) (mults vars (weight d out free line) (length rows))

    long : length (map (λ (m : Mult). vars + m.row) (mults vars (weight d out free line) (length rows))) ≡ length (mults vars (weight d out free line) (length rows))
    long = length-map (mults vars (weight d out free line) (length rows)) (λ (m : Mult). vars + m.row)

    is_taken : (z : ℕ) → pos 0 <ℤ weight d out free line z → (nat_eq z out || not (is_in basic z)) ≡ true
    is_taken z s = by (true_or_false (nat_eq z out))
      where
        entry : nat_eq z out ≡ false → pos 0 <ℤ neg_ℤ (entry_of z free (entries line))
        entry e = subst (λ (b : Bool). pos 0 <ℤ (if b then d else neg_ℤ (entry_of z free (entries line)))) e s

        in_free : nat_eq z out ≡ false → ((is_in free z ≡ true) ⊎ (is_in free z ≡ false)) → In z free
        in_free e (inl k) = in_basis free z k
        in_free e (inr k) = let n = entry_none z free (entries line) (λ j. absurd (subst T (sym (is_in_member free z j) ∙ k) tt)) in let q = entry e in absurd (omega (arith, ints, n, q))

        out_of : In z free → ((is_in basic z ≡ true) ⊎ (is_in basic z ≡ false)) → is_in basic z ≡ false
        out_of j (inl k) = absurd (h.apart z j (in_basis basic z k))
        out_of j (inr k) = k

        or_true : (b : Bool) → (b || true) ≡ true
        or_true true = refl
        or_true false = refl

        by : ((nat_eq z out ≡ true) ⊎ (nat_eq z out ≡ false)) → (nat_eq z out || not (is_in basic z)) ≡ true
        by (inl e) = ap (λ t. t || not (is_in basic z)) e
        by (inr e) = ap (λ t. nat_eq z out || not t) (out_of (in_free e (true_or_false (is_in free z))) (true_or_false (is_in basic z))) ∙ or_true (nat_eq z out)

    many : length (map (λ (m : Mult). vars + m.row) (mults vars (weight d out free line) (length rows))) ≤ length (filter (λ z. nat_eq z out || not (is_in basic z)) (range_with_len 0 (vars + length rows)))
    many = taken (λ z. nat_eq z out || not (is_in basic z)) 0 (vars + length rows) (vars + length rows) (map (λ (m : Mult). vars + m.row) (mults vars (weight d out free line) (length rows))) (omega arith)
        (climb vars (weight d out free line) (λ r. vars + r) up (length rows)) each
      where
        each : (z : ℕ) → In z (map (λ (m : Mult). vars + m.row) (mults vars (weight d out free line) (length rows))) → (nat_eq z out || not (is_in basic z)) ≡ true
        each z k =
            let s = In-map_cases (λ (m : Mult). vars + m.row) (mults vars (weight d out free line) (length rows)) z k in
            let t = taken_of vars (weight d out free line) (length rows) s.0 s.1 in
            is_taken z (subst (λ x. pos 0 <ℤ weight d out free line x) (sym s.2) (subst (λ x. pos 0 <ℤ x) t.times t.some))

    few : length (filter (λ z. nat_eq z out || not (is_in basic z)) (range_with_len 0 (vars + length rows))) ≡ suc (length (filter (λ z. not (is_in basic z)) (range_with_len 0 (vars + length rows))))
    few = one_more 0 (vars + length rows) out (λ z. not (is_in basic z)) (range_with_len 0 (vars + length rows)) (range_climbs 0 (vars + length rows) (vars + length rows) (omega arith))
        (In-range 0 (vars + length rows) out (omega arith) (omega (arith, h.small_basic out i))) (ap not (is_in_member basic out i))

    both : length (filter (is_in basic) (range_with_len 0 (vars + length rows))) + length (filter (λ z. not (is_in basic z)) (range_with_len 0 (vars + length rows))) ≡ length (range_with_len 0 (vars + length rows))
    both = length-filter_both (is_in basic) (λ z. not (is_in basic z)) (λ z. refl) (range_with_len 0 (vars + length rows))

    kept : length (rising (vars + length rows) basic) ≡ length basic
    kept = as_many (vars + length rows) basic h.fresh_basic h.small_basic

    whole : length (range_with_len 0 (vars + length rows)) ≡ vars + length rows
    whole = length-range_with_len 0 (vars + length rows)

    settle : {a b c r f t n k v : ℕ} → a ≤ b → b ≡ suc c → r + c ≡ t → r ≡ f → t ≡ v + n → f ≡ n → a ≡ k → k ≤ suc v
    settle l e q s u y z = omega (arith, l, e, q, s, u, y, z)
