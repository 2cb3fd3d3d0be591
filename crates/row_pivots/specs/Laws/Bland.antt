-- No walk of the least-index rule comes to a basis twice.
--
--   Step vars rows basis w next     a pivot, by what enters and leaves
--   Run vars rows a ws b            pivots from basis to basis, with the changes that they make
--   opposed                         no variable leaves at one basis and enters at another where all greater ones are basic or free alike
--   never_twice                     so in a run no variable moves twice before a greater one does
--   no_return                       and no run comes back to where it began
--   short                           and a run has fewer than 2^n changes, for n variables and slacks
--   Distinct bases                  no basis stands twice in the list
--   follow_distinct, follow_short   the laws of a list of bases of which each follows from the one before
use Rattle.std.proofs.Common.{◌≡◌, ◌≢◌, ℕ, zero, suc, ◌+◌, ◌<◌, ◌≤◌, ◌^◌, List, [], ◌∷◌, ◌++◌, length, map, Contains, refl, ap, sym, subst, ◌∙◌, arith, ℤ, pos, ◌+ℤ◌, ◌*ℤ◌, ◌≤ℤ◌, ◌<ℤ◌, ◌⊎◌, inl, inr, ◌↔◌}
use Rattle.std.proofs.lemmas.Bool.{cases_lt}
use Rattle.std.proofs.lemmas.Int.{ints, by_lt_z}
use Rattle.std.specs.Prelude.{not}
use Rattle.std.specs.List.{range_with_len}
use lib.Dec.{T}
use Rattle.integer_laws.specs.Members.{In}
use Rattle.integer_laws.specs.Laws.Members.{In-from_contains, Contains-from_in}
use Rattle.integer_laws.specs.Laws.Order.{mul_le, mul_lt, cancel_le, mul_nonneg}
use Rattle.integer_laws.specs.Laws.Ring.{expand}
use Rattle.integer_laws.specs.Vectors.{dot, scale}
use Rattle.integer_laws.specs.Laws.Vectors.{dot-plus, dot-scale}
use Rattle.row_laws.specs.Laws.Independence.{is_in_member, from_zero}
use Rattle.row_laws.specs.Laws.Lines.{has_same, member}
use Rattle.row_laws.specs.Laws.Pivots.{below, of_filter, free_climbs}
use Rattle.row_pivots.specs.Laws.Changes.{Change, Moves, Under, AllUnder, NeverTwice, FirstMove, find, rest_under, few_changes}
use Rattle.row_pivots.specs.Laws.Values.{FormValues, values, says_has, has_line, free_or_basic}
use Rattle.seq_model.specs.Dictionaries.{meaning, one, combination, is_in, free_of, Form, Has}
use Rattle.seq_model.specs.declared.row.Row.{Row}
use Rattle.seq_model.specs.Walks.{constant, entries, Leaves, Enters, Pivots, Follow}
use Rattle.row_pivots.specs.Steps.{Distinct}

-- ---- the two bases
pub not_basic : (count : ℕ) (basis : List ℕ) (z : ℕ) → In z (free_of count basis) → In z basis → ⊥
not_basic count basis z i j = absurd (subst T (sym (of_filter (λ y. not (is_in basis y)) (range_with_len 0 count) z i) ∙ ap not (is_in_member basis z j)) tt)

-- the value of a variable below what leaves
low_value : (vars : ℕ) (rows : List Row) (basis : List ℕ) (f : Form vars rows basis) (v : FormValues vars rows basis f) (r : ℕ) → Leaves basis f.lines r
    → (y : ℕ) → y < r → y < vars + length rows → pos 0 ≤ℤ dot (meaning vars rows y) v.u
low_value vars rows basis f v r l y h small = by (free_or_basic (vars + length rows) basis y small)
  where
    positive : f.d ≡ f.d → pos 0 <ℤ f.d
    positive e = let p = f.positive in omega (arith, ints, p)

    nonneg : (d x c t : ℤ) → pos 0 <ℤ d → d *ℤ x ≡ c *ℤ t → pos 0 ≤ℤ c → pos 0 <ℤ t → pos 0 ≤ℤ x
    nonneg d x c t p e q s =
        let m : pos 0 ≤ℤ (c *ℤ t) = mul_nonneg c t q (omega (arith, ints, s)) in
        let z : d *ℤ pos 0 ≡ pos 0 = simp expand in
        cancel_le d p (omega (arith, ints, m, e, z))

    by : In y basis ⊎ In y (free_of (vars + length rows) basis) → pos 0 ≤ℤ dot (meaning vars rows y) v.u
    by (inr i) = let e = v.free y i in omega (arith, ints, e)
    by (inl i) =
        let k = has_line vars rows f.d (free_of (vars + length rows) basis) basis f.lines f.says y i in
        let sign : pos 0 ≤ℤ constant k.0 = by_lt_z (constant k.0) (pos 0) (λ n. let b = l.least y k.0 k.1 n in absurd (omega (arith, h, b))) (λ p. p) in
        nonneg f.d (dot (meaning vars rows y) v.u) (constant k.0) (dot (one vars) v.u) (positive refl) (v.basic y k.0 k.1) sign v.positive

-- the value of what leaves
leaving_value : (vars : ℕ) (rows : List Row) (basis : List ℕ) (f : Form vars rows basis) (v : FormValues vars rows basis f) (r : ℕ) → Leaves basis f.lines r → dot (meaning vars rows r) v.u ≤ℤ pos 0
leaving_value vars rows basis f v r l = small f.d (dot (meaning vars rows r) v.u) (constant l.line) (dot (one vars) v.u) (positive refl) (v.basic r l.line l.has) l.negative v.positive
  where
    positive : f.d ≡ f.d → pos 0 <ℤ f.d
    positive e = let p = f.positive in omega (arith, ints, p)

    small : (d x c t : ℤ) → pos 0 <ℤ d → d *ℤ x ≡ c *ℤ t → c <ℤ pos 0 → pos 0 <ℤ t → x ≤ℤ pos 0
    small d x c t p e q s =
        let m = mul_lt t s q in
        let z : d *ℤ pos 0 ≡ pos 0 = simp expand in
        let y : t *ℤ pos 0 ≡ pos 0 = simp expand in
        let w : t *ℤ c ≡ c *ℤ t = omega (arith, ints) in
        cancel_le d p (omega (arith, ints, m, e, z, y, w))

-- a combination each of whose terms is at most 0
low_sum : (g : ℕ → List ℤ) (u : List ℤ) (es : List ℤ) (free : List ℕ) → ((y : ℕ) (e : ℤ) → Has free es y e → (e *ℤ dot (g y) u) ≤ℤ pos 0) → dot (combination es (map g free)) u ≤ℤ pos 0
low_sum g u [] free h = omega (arith, ints)
low_sum g u (e ∷ es) [] h = omega (arith, ints)
low_sum g u (e ∷ es) (y ∷ free) h =
    let first : (e *ℤ dot (g y) u) ≤ℤ pos 0 = h y e (inl (refl, refl)) in
    let rest : dot (combination es (map g free)) u ≤ℤ pos 0 = low_sum g u es free (λ z x k. h z x (inr k)) in
    let sum = dot-plus (scale e (g y)) (combination es (map g free)) u in
    let term = dot-scale e (g y) u in
    omega (arith, ints, first, rest, sum, term)

-- the row of what leaves at the other basis
no_such_row : (d s c t S : ℤ) → d *ℤ s ≡ c *ℤ t +ℤ S → pos 0 <ℤ d → pos 0 ≤ℤ s → c <ℤ pos 0 → pos 0 <ℤ t → S ≤ℤ pos 0 → ⊥
no_such_row d s c t S e p q n pt m =
    let left : pos 0 ≤ℤ (d *ℤ s) = mul_nonneg d s (omega (arith, ints, p)) q in
    let right = mul_lt t pt n in
    let z : t *ℤ pos 0 ≡ pos 0 = simp expand in
    let w : t *ℤ c ≡ c *ℤ t = omega (arith, ints) in
    absurd (omega (arith, ints, e, left, right, z, w, m))

line_sum : (line : List ℤ) (v : List ℤ) (vs : List (List ℤ)) (u : List ℤ) → constant line <ℤ pos 0 → dot (combination line (v ∷ vs)) u ≡ constant line *ℤ dot v u +ℤ dot (combination (entries line) vs) u
line_sum [] v vs u n = absurd (omega (arith, ints, n))
line_sum (c ∷ es) v vs u n = dot-plus (scale c v) (combination es vs) u ∙ ap (λ t. t +ℤ dot (combination es vs) u) (dot-scale c v u)

pub opposed : (vars : ℕ) (rows : List Row) (a b : List ℕ) (f : Form vars rows a) (g : Form vars rows b) (r s : ℕ)
    → Leaves a f.lines r → (m : Leaves b g.lines s) → Enters (free_of (vars + length rows) b) (entries m.line) r → s ≤ r
    → ((y : ℕ) → r < y → In y (free_of (vars + length rows) b) → In y (free_of (vars + length rows) a)) → ⊥
opposed vars rows a b f g r s l m enters order above =
    no_such_row g.d (φ s) (constant m.line) (dot (one vars) v.u) (dot (combination (entries m.line) (map (meaning vars rows) free)) v.u)
    row positive (low_value vars rows a f v r l s below_r inside) m.negative v.positive (low_sum (meaning vars rows) v.u (entries m.line) free term)
  where
    count : ℕ
    count = vars + length rows

    free : List ℕ
    free = free_of (vars + length rows) b

    v : FormValues vars rows a f
    v = values vars rows a f

    φ : ℕ → ℤ
    φ y = dot (meaning vars rows y) v.u

    positive : pos 0 <ℤ g.d
    positive = let p = g.positive in omega (arith, ints, p)

    basic_s : In s b
    basic_s = member b g.lines s m.line m.has

    free_r : In r free
    free_r = member free (entries m.line) r enters.entry enters.has

    below_r : s < r
    below_r = differ (cases_lt s r)
      where
        differ : (s < r) ⊎ (r ≤ s) → s < r
        differ (inl h) = h
        differ (inr h) = absurd (not_basic count b r free_r (subst (λ t. In t b) (omega (arith, h, order)) basic_s))

    inside : s < vars + length rows
    inside = (below 0 (vars + length rows) b s (from_zero (vars + length rows) b g.rising) basic_s).1

    row : g.d *ℤ φ s ≡ constant m.line *ℤ dot (one vars) v.u +ℤ dot (combination (entries m.line) (map (meaning vars rows) free)) v.u
    row =
        sym (dot-scale g.d (meaning vars rows s) v.u) ∙ ap (λ t. dot t v.u) (says_has vars rows g.d free b g.lines g.says s m.line m.has).1
        ∙ line_sum m.line (one vars) (map (meaning vars rows) free) v.u m.negative

    opposite : (e x : ℤ) → e ≤ℤ pos 0 → pos 0 ≤ℤ x → (e *ℤ x) ≤ℤ pos 0
    opposite e x h k = let p = mul_le x k h in let z : x *ℤ pos 0 ≡ pos 0 = simp expand in let w : x *ℤ e ≡ e *ℤ x = omega (arith, ints) in omega (arith, ints, p, z, w)

    against : (e x : ℤ) → pos 0 <ℤ e → x ≤ℤ pos 0 → (e *ℤ x) ≤ℤ pos 0
    against e x h k = let p = mul_le e (omega (arith, ints, h)) k in let z : e *ℤ pos 0 ≡ pos 0 = simp expand in omega (arith, ints, p, z)

    vanishes : (e x : ℤ) → x ≡ pos 0 → (e *ℤ x) ≤ℤ pos 0
    vanishes e x h = let z : e *ℤ pos 0 ≡ pos 0 = simp expand in let p = ap (λ t. e *ℤ t) h in omega (arith, ints, p, z)

    term : (y : ℕ) (e : ℤ) → Has free (entries m.line) y e → (e *ℤ φ y) ≤ℤ pos 0
    term y e h = by (cases_lt y r) (cases_lt r y)
      where
        in_free : In y free
        in_free = member free (entries m.line) y e h

        by : (y < r) ⊎ (r ≤ y) → (r < y) ⊎ (y ≤ r) → (e *ℤ φ y) ≤ℤ pos 0
        by (inl k) q =
            let sign : e ≤ℤ pos 0 = by_lt_z (pos 0) e (λ n. let w = enters.least y e h n in absurd (omega (arith, k, w))) (λ p. p) in
            opposite e (φ y) sign (low_value vars rows a f v r l y k (below 0 (vars + length rows) free y (free_climbs (vars + length rows) b) in_free).1)
        by (inr k) (inl q) = vanishes e (φ y) (v.free y (above y q in_free))
        by (inr k) (inr q) =
            let s : y ≡ r = omega (arith, k, q) in
            let same : e ≡ enters.entry = has_same 0 (vars + length rows) free (entries m.line) r e enters.entry (free_climbs (vars + length rows) b) (subst (λ t. Has free (entries m.line) t e) s h) enters.has in
            against e (φ y) (subst (λ t. pos 0 <ℤ t) (sym same) enters.positive) (subst (λ t. φ t ≤ℤ pos 0) (sym s) (leaving_value vars rows a f v r l))

-- ---- runs
pub record Step (vars : ℕ) (rows : List Row) (basis : List ℕ) (w : Change) (next : List ℕ) : Type 0 where
  pub form : Form vars rows basis
  pub leaves : Leaves basis form.lines w.leave
  pub enters : Enters (free_of (vars + length rows) basis) (entries leaves.line) w.enter
  pub swaps : (z : ℕ) → In z next ↔ ((z ≡ w.enter) ⊎ (In z basis × (z ≢ w.leave)))

pub step_of : (vars : ℕ) (rows : List Row) (basis next : List ℕ) → (p : Pivots vars rows basis next) → Step vars rows basis (record { enter = p.into; leave = p.out }) next
step_of vars rows basis next p = record { form = p.form; leaves = p.leaves; enters = p.enters; swaps = λ z. (there z, back z) }
  where
    there : (z : ℕ) → In z next → (z ≡ p.into) ⊎ (In z basis × (z ≢ p.out))
    there z i = by ((p.swaps z).0 (Contains-from_in next z i))
      where
        by : (z ≡ p.into) ⊎ (Contains basis z × (z ≢ p.out)) → (z ≡ p.into) ⊎ (In z basis × (z ≢ p.out))
        by (inl e) = inl e
        by (inr k) = inr (In-from_contains basis z k.0, k.1)

    back : (z : ℕ) → (z ≡ p.into) ⊎ (In z basis × (z ≢ p.out)) → In z next
    back z k = In-from_contains next z ((p.swaps z).1 (by k))
      where
        by : (z ≡ p.into) ⊎ (In z basis × (z ≢ p.out)) → (z ≡ p.into) ⊎ (Contains basis z × (z ≢ p.out))
        by (inl e) = inl e
        by (inr j) = inr (Contains-from_in basis z j.0, j.1)

abbrev pub Run : ℕ → List Row → List ℕ → List Change → List ℕ → Type 0
Run vars rows a [] b = a ≡ b
Run vars rows a (w ∷ ws) b = (next : List ℕ) × Step vars rows a w next × Run vars rows next ws b

-- a run in three parts: what goes before a change, the change, and the rest
pub record Parted (vars : ℕ) (rows : List Row) (a : List ℕ) (pre : List Change) (w : Change) (post : List Change) (b : List ℕ) : Type 0 where
  pub here : List ℕ
  pub next : List ℕ
  pub before : Run vars rows a pre here
  pub step : Step vars rows here w next
  pub after : Run vars rows next post b

part : (vars : ℕ) (rows : List Row) (a : List ℕ) (pre : List Change) (w : Change) (post : List Change) (b : List ℕ) → Run vars rows a (pre ++ w ∷ post) b → Parted vars rows a pre w post b
part vars rows a [] w post b r = record { here = a; next = r.0; before = refl; step = r.1; after = r.2 }
part vars rows a (x ∷ pre) w post b r =
    let p = part vars rows r.0 pre w post b r.2 in
    record { here = p.here; next = p.next; before = (r.0, r.1, p.before); step = p.step; after = p.after }

leave_basic : (vars : ℕ) (rows : List Row) (a : List ℕ) (w : Change) (b : List ℕ) → Step vars rows a w b → In w.leave a
leave_basic vars rows a w b s = member a s.form.lines w.leave s.leaves.line s.leaves.has

enter_free : (vars : ℕ) (rows : List Row) (a : List ℕ) (w : Change) (b : List ℕ) → Step vars rows a w b → In w.enter (free_of (vars + length rows) a)
enter_free vars rows a w b s = member (free_of (vars + length rows) a) (entries s.leaves.line) w.enter s.enters.entry s.enters.has

enter_not_basic : (vars : ℕ) (rows : List Row) (a : List ℕ) (w : Change) (b : List ℕ) → Step vars rows a w b → In w.enter a → ⊥
enter_not_basic vars rows a w b s = not_basic (vars + length rows) a w.enter (enter_free vars rows a w b s)

leave_gone : (vars : ℕ) (rows : List Row) (a : List ℕ) (w : Change) (b : List ℕ) → Step vars rows a w b → In w.leave b → ⊥
leave_gone vars rows a w b s i = by ((s.swaps w.leave).0 i)
  where
    by : (w.leave ≡ w.enter) ⊎ (In w.leave a × (w.leave ≢ w.leave)) → ⊥
    by (inl e) = enter_not_basic vars rows a w b s (subst (λ t. In t a) e (leave_basic vars rows a w b s))
    by (inr k) = k.1 refl

-- what doesn't move keeps its place
step_keeps : (vars : ℕ) (rows : List Row) (a : List ℕ) (w : Change) (b : List ℕ) → Step vars rows a w b → (y : ℕ) → (y ≢ w.enter) → (y ≢ w.leave) → In y a ↔ In y b
step_keeps vars rows a w b s y ne nl = (λ i. (s.swaps y).1 (inr (i, nl)), λ i. by ((s.swaps y).0 i))
  where
    by : (y ≡ w.enter) ⊎ (In y a × (y ≢ w.leave)) → In y a
    by (inl e) = absurd (ne e)
    by (inr k) = k.0

above_keeps : (vars : ℕ) (rows : List Row) (r : ℕ) (a : List ℕ) (w : Change) (b : List ℕ) → Step vars rows a w b → Under r w → (y : ℕ) → r ≤ y → In y a ↔ In y b
above_keeps vars rows r a w b s u y h = step_keeps vars rows a w b s y (λ e. absurd (omega (arith, u, h, e))) (λ e. absurd (omega (arith, u, h, e)))

run_keeps : (vars : ℕ) (rows : List Row) (r : ℕ) (a : List ℕ) (ws : List Change) (b : List ℕ) → Run vars rows a ws b → AllUnder r ws → (y : ℕ) → r ≤ y → In y a ↔ In y b
run_keeps vars rows r a [] b e u y h = (subst (λ t. In y t) e, subst (λ t. In y t) (sym e))
run_keeps vars rows r a (w ∷ ws) b run u y h =
    let one = above_keeps vars rows r a w run.0 run.1 u.0 y h in
    let more = run_keeps vars rows r run.0 ws b run.2 u.1 y h in
    (λ i. more.0 (one.0 i), λ i. one.1 (more.1 i))

-- what is free in one and keeps its place is free in the other
free_keeps : (count : ℕ) (a b : List ℕ) (y : ℕ) → (In y a ↔ In y b) → In y (free_of count b) → In y (free_of count a)
free_keeps count a b y k i = by (free_or_basic count a y (below 0 count (free_of count b) y (free_climbs count b) i).1)
  where
    by : In y a ⊎ In y (free_of count a) → In y (free_of count a)
    by (inl j) = absurd (not_basic count b y i (k.0 j))
    by (inr j) = j

-- ---- no variable moves twice
-- two steps, at one of which r leaves and at the other enters, in either order of time
opposed_steps : (vars : ℕ) (rows : List Row) (r : ℕ) (a a' b b' : List ℕ) (w x : Change) → Step vars rows a w a' → Step vars rows b x b' → w.leave ≡ r → x.enter ≡ r → x.leave ≤ r
    → ((y : ℕ) → suc r ≤ y → In y a ↔ In y b) → ⊥
opposed_steps vars rows r a a' b b' w x s t e f h k =
    opposed vars rows a b s.form t.form r x.leave (subst (Leaves a s.form.lines) e s.leaves) t.leaves (subst (Enters (free_of (vars + length rows) b) (entries t.leaves.line)) f t.enters) h
    (λ y g i. free_keeps (vars + length rows) a b y (k y (omega (arith, g))) i)

iff_trans : {A B C : Type 0} → A ↔ B → B ↔ C → A ↔ C
iff_trans f g = (λ a. g.0 (f.0 a), λ c. f.1 (g.1 c))

turn : {A B : Type 0} → A ↔ B → B ↔ A
turn f = (f.1, f.0)

-- the change of a run at which r comes in, or goes out
pub record Crossing (vars : ℕ) (rows : List Row) (r : ℕ) (a : List ℕ) (P : Change → Type 0) : Type 0 where
  pub pre : List Change
  pub w : Change
  pub here : List ℕ
  pub next : List ℕ
  pub before : Run vars rows a pre here
  pub step : Step vars rows here w next
  pub low : AllUnder (suc r) pre
  pub at_w : Under (suc r) w
  pub is : P w

equal_or_not : (x y : ℕ) → (x ≡ y) ⊎ (x ≢ y)
equal_or_not x y = by (cases_lt x y) (cases_lt y x)
  where
    by : (x < y) ⊎ (y ≤ x) → (y < x) ⊎ (x ≤ y) → (x ≡ y) ⊎ (x ≢ y)
    by (inl h) k = inr (λ e. absurd (omega (arith, h, e)))
    by (inr h) (inl k) = inr (λ e. absurd (omega (arith, k, e)))
    by (inr h) (inr k) = inl (omega (arith, h, k))

comes_in : (vars : ℕ) (rows : List Row) (r : ℕ) (a : List ℕ) (ws : List Change) (b : List ℕ) → Run vars rows a ws b → AllUnder (suc r) ws → (In r a → ⊥) → In r b → Crossing vars rows r a (λ w. w.enter ≡ r)
comes_in vars rows r a [] b e u n i = absurd (n (subst (λ t. In r t) (sym e) i))
comes_in vars rows r a (w ∷ ws) b run u n i = by (equal_or_not r w.enter) (λ q. comes_in vars rows r run.0 ws b run.2 u.1 q i)
  where
    by : (r ≡ w.enter) ⊎ (r ≢ w.enter) → ((In r run.0 → ⊥) → Crossing vars rows r run.0 (λ w. w.enter ≡ r)) → Crossing vars rows r a (λ w. w.enter ≡ r)
    by (inl e) later = record { pre = []; w = w; here = a; next = run.0; before = refl; step = run.1; low = tt; at_w = u.0; is = sym e }
    by (inr d) later = further (later (λ j. not_yet ((run.1.swaps r).0 j)))
      where
        not_yet : (r ≡ w.enter) ⊎ (In r a × (r ≢ w.leave)) → ⊥
        not_yet (inl e) = d e
        not_yet (inr k) = n k.0

        further : Crossing vars rows r run.0 (λ w. w.enter ≡ r) → Crossing vars rows r a (λ w. w.enter ≡ r)
        further c = record { pre = w ∷ c.pre; w = c.w; here = c.here; next = c.next; before = (run.0, run.1, c.before); step = c.step; low = (u.0, c.low); at_w = c.at_w; is = c.is }

goes_out : (vars : ℕ) (rows : List Row) (r : ℕ) (a : List ℕ) (ws : List Change) (b : List ℕ) → Run vars rows a ws b → AllUnder (suc r) ws → In r a → (In r b → ⊥) → Crossing vars rows r a (λ w. w.leave ≡ r)
goes_out vars rows r a [] b e u i n = absurd (n (subst (λ t. In r t) e i))
goes_out vars rows r a (w ∷ ws) b run u i n = by (equal_or_not r w.leave) (λ q. goes_out vars rows r run.0 ws b run.2 u.1 q n)
  where
    by : (r ≡ w.leave) ⊎ (r ≢ w.leave) → (In r run.0 → Crossing vars rows r run.0 (λ w. w.leave ≡ r)) → Crossing vars rows r a (λ w. w.leave ≡ r)
    by (inl e) later = record { pre = []; w = w; here = a; next = run.0; before = refl; step = run.1; low = tt; at_w = u.0; is = sym e }
    by (inr d) later = further (later ((run.1.swaps r).1 (inr (i, d))))
      where
        further : Crossing vars rows r run.0 (λ w. w.leave ≡ r) → Crossing vars rows r a (λ w. w.leave ≡ r)
        further c = record { pre = w ∷ c.pre; w = c.w; here = c.here; next = c.next; before = (run.0, run.1, c.before); step = c.step; low = (u.0, c.low); at_w = c.at_w; is = c.is }

-- r moves, then only variables up to r do, and then r moves again
moved_twice : (vars : ℕ) (rows : List Row) (r : ℕ) (a a' b b' : List ℕ) (s t : Change) (mid : List Change) → Step vars rows a s a' → Run vars rows a' mid b → Step vars rows b t b'
    → Moves s r → Moves t r → Under (suc r) s → AllUnder (suc r) mid → Under (suc r) t → ⊥
moved_twice vars rows r a a' b b' s t mid p run q ms mt us um ut = by ms mt
  where
    first : (y : ℕ) → suc r ≤ y → In y a ↔ In y a'
    first = above_keeps vars rows (suc r) a s a' p us

    whole : (y : ℕ) → suc r ≤ y → In y a ↔ In y b
    whole y h = iff_trans (first y h) (run_keeps vars rows (suc r) a' mid b run um y h)

    by : (s.enter ≡ r) ⊎ (s.leave ≡ r) → (t.enter ≡ r) ⊎ (t.leave ≡ r) → ⊥
    by (inr l) (inl e) = opposed_steps vars rows r a a' b b' s t p q l e (omega (arith, ut)) whole
    by (inl e) (inr l) = opposed_steps vars rows r b b' a a' t s q p l e (omega (arith, us)) (λ y h. turn (whole y h))
    by (inr l) (inr k) =
        let c = comes_in vars rows r a' mid b run um (λ i. leave_gone vars rows a s a' p (subst (λ t. In t a') (sym l) i)) (subst (λ x. In x b) k (leave_basic vars rows b t b' q)) in
        opposed_steps vars rows r a a' c.here c.next s c.w p c.step l c.is (omega (arith, c.at_w)) (λ y h. iff_trans (first y h) (run_keeps vars rows (suc r) a' c.pre c.here c.before c.low y h))
    by (inl e) (inl f) =
        let c = goes_out vars rows r a' mid b run um (subst (λ x. In x a') e ((p.swaps s.enter).1 (inl refl))) (λ i. enter_not_basic vars rows b t b' q (subst (λ x. In x b) (sym f) i)) in
        opposed_steps vars rows r c.here c.next a a' c.w s c.step p c.is e (omega (arith, us)) (λ y h. turn (iff_trans (first y h) (run_keeps vars rows (suc r) a' c.pre c.here c.before c.low y h)))

pub never_twice : (vars : ℕ) (rows : List Row) (a : List ℕ) (ws : List Change) (b : List ℕ) → Run vars rows a ws b → NeverTwice ws
never_twice vars rows a ws b run pre mid post s t r e ms mt us um ut =
    let p = part vars rows a pre s (mid ++ t ∷ post) b (subst (λ l. Run vars rows a l b) e run) in
    let q = part vars rows p.next mid t post b p.after in
    moved_twice vars rows r p.here p.next q.here q.next s t mid p.step q.before q.step ms mt us um ut

-- ---- no run comes back
comes_back : (vars : ℕ) (rows : List Row) (r : ℕ) (a : List ℕ) (w : Change) (ws : List Change) → AllUnder r (w ∷ ws) → NeverTwice (w ∷ ws) → Run vars rows a (w ∷ ws) a → ⊥
comes_back vars rows zero a w ws u n run = absurd (omega (arith, u.0))
comes_back vars rows (suc r) a w ws u n run = by (find r (w ∷ ws) u) (λ k. comes_back vars rows r a w ws k n run)
  where
    by : AllUnder r (w ∷ ws) ⊎ FirstMove r (w ∷ ws) → (AllUnder r (w ∷ ws) → ⊥) → ⊥
    by (inl k) later = later k
    by (inr f) later = moves f.moves
      where
        p : Parted vars rows a f.pre f.s f.post a
        p = part vars rows a f.pre f.s f.post a (subst (λ l. Run vars rows a l a) f.is run)

        at_front : In r a ↔ In r p.here
        at_front = run_keeps vars rows r a f.pre p.here p.before f.before r (omega arith)

        at_back : In r p.next ↔ In r a
        at_back = run_keeps vars rows r p.next f.post a p.after (rest_under r (w ∷ ws) n f) r (omega arith)

        moves : (f.s.enter ≡ r) ⊎ (f.s.leave ≡ r) → ⊥
        moves (inl e) =
            let i = subst (λ t. In t p.next) e ((p.step.swaps f.s.enter).1 (inl refl)) in
            enter_not_basic vars rows p.here f.s p.next p.step (subst (λ t. In t p.here) (sym e) (at_front.0 (at_back.0 i)))
        moves (inr e) =
            let i = subst (λ t. In t p.here) e (leave_basic vars rows p.here f.s p.next p.step) in
            leave_gone vars rows p.here f.s p.next p.step (subst (λ t. In t p.next) (sym e) (at_back.1 (at_front.1 i)))

all_under : (vars : ℕ) (rows : List Row) (a : List ℕ) (ws : List Change) (b : List ℕ) → Run vars rows a ws b → AllUnder (vars + length rows) ws
all_under vars rows a [] b run = tt
all_under vars rows a (w ∷ ws) b run =
    let enter = below 0 (vars + length rows) (free_of (vars + length rows) a) w.enter (free_climbs (vars + length rows) a) (enter_free vars rows a w run.0 run.1) in
    let leave = below 0 (vars + length rows) a w.leave (from_zero (vars + length rows) a run.1.form.rising) (leave_basic vars rows a w run.0 run.1) in
    ((enter.1, leave.1), all_under vars rows run.0 ws b run.2)

pub no_return : (vars : ℕ) (rows : List Row) (a : List ℕ) (w : Change) (ws : List Change) → Run vars rows a (w ∷ ws) a → ⊥
no_return vars rows a w ws run = comes_back vars rows (vars + length rows) a w ws (all_under vars rows a (w ∷ ws) a run) (never_twice vars rows a (w ∷ ws) a run) run

pub short : (vars : ℕ) (rows : List Row) (a : List ℕ) (ws : List Change) (b : List ℕ) → Run vars rows a ws b → length ws < 2 ^ (vars + length rows)
short vars rows a ws b run = few_changes (vars + length rows) ws (never_twice vars rows a ws b run) (all_under vars rows a ws b run)

-- ---- lists of bases

pub record Reach (vars : ℕ) (rows : List Row) (a b : List ℕ) : Type 0 where
  pub w : Change
  pub ws : List Change
  pub run : Run vars rows a (w ∷ ws) b

reach : (vars : ℕ) (rows : List Row) (a : List ℕ) (bases : List (List ℕ)) (b : List ℕ) → Follow vars rows (a ∷ bases) → In b bases → Reach vars rows a b
reach vars rows a [] b f i = absurd i
reach vars rows a (c ∷ bases) b f (inl e) = record { w = record { enter = f.0.into; leave = f.0.out }; ws = []; run = (c, step_of vars rows a c f.0, sym e) }
reach vars rows a (c ∷ bases) b f (inr i) =
    let r = reach vars rows c bases b f.2 i in
    record { w = record { enter = f.0.into; leave = f.0.out }; ws = r.w ∷ r.ws; run = (c, step_of vars rows a c f.0, r.run) }

follow_rest : (vars : ℕ) (rows : List Row) (a : List ℕ) (bases : List (List ℕ)) → Follow vars rows (a ∷ bases) → Follow vars rows bases
follow_rest vars rows a [] f = tt
follow_rest vars rows a (b ∷ bases) f = f.2

pub follow_distinct : (vars : ℕ) (rows : List Row) (bases : List (List ℕ)) → Follow vars rows bases → Distinct bases
follow_distinct vars rows [] f = tt
follow_distinct vars rows (a ∷ bases) f = (first, follow_distinct vars rows bases (follow_rest vars rows a bases f))
  where
    first : (b : List ℕ) → In b bases → a ≡ b → ⊥
    first b i e = let r = reach vars rows a bases b f i in no_return vars rows a r.w r.ws (subst (λ t. Run vars rows a (r.w ∷ r.ws) t) (sym e) r.run)

record Traced (vars : ℕ) (rows : List Row) (a : List ℕ) (bases : List (List ℕ)) : Type 0 where
  ws : List Change
  last : List ℕ
  run : Run vars rows a ws last
  long : length ws ≡ length bases

traced : (vars : ℕ) (rows : List Row) (a : List ℕ) (bases : List (List ℕ)) → Follow vars rows (a ∷ bases) → Traced vars rows a bases
traced vars rows a [] f = record { ws = []; last = a; run = refl; long = refl }
traced vars rows a (b ∷ bases) f =
    let t = traced vars rows b bases f.2 in
    record { ws = record { enter = f.0.into; leave = f.0.out } ∷ t.ws; last = t.last; run = (b, step_of vars rows a b f.0, t.run); long = ap suc t.long }

pub follow_short : (vars : ℕ) (rows : List Row) (bases : List (List ℕ)) → Follow vars rows bases → length bases ≤ 2 ^ (vars + length rows)
follow_short vars rows [] f = omega arith
follow_short vars rows (a ∷ bases) f =
    let t = traced vars rows a bases f in
    let h = short vars rows a t.ws t.last t.run in
    omega (arith, h, t.long)
