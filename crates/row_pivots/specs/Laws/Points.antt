-- Where no constant is negative, the constants over d are a point that meets all rows.
--
--   point vars basis lines          the value of each variable, times d: its constant, 0 where it is free
--   slack_is                        what the slack of a row means
--   point_meets                     the point meets the rows
use Rattle.std.proofs.Common.{◌≡◌, ℕ, zero, suc, ◌+◌, ◌-◌, ◌<◌, ◌≤◌, List, [], ◌∷◌, length, get_or, All, refl, ap, sym, subst, ◌∙◌, arith, ℤ, pos, ◌+ℤ◌, ◌*ℤ◌, ◌≤ℤ◌, ◌<ℤ◌, ◌⊎◌, inl, inr, Bool, false}
use Rattle.std.proofs.lemmas.Bool.{cases_lt}
use Rattle.std.proofs.lemmas.Bool.Decides.{nat_tests}
use Rattle.std.proofs.lemmas.Int.{ints}
use Rattle.std.proofs.lemmas.List.{length-map}
use Rattle.std.proofs.lemmas.List.FromFn.{length-range_with_len}
use Rattle.std.specs.List.{range_with_len}
use Rattle.std.specs.Prelude.{nat_lt, nat_eq, slice_set, replicate, if◌then◌else◌}
use Rattle.integer_laws.specs.Members.{In}
use Rattle.integer_laws.specs.Laws.Order.{mul_nonneg, cancel_le}
use Rattle.integer_laws.specs.Laws.Ring.{expand}
use Rattle.integer_laws.specs.Vectors.{dot, scale}
use Rattle.integer_laws.specs.Laws.Vectors.{dot_comm, dot-scale, dot-unit, get_or-scale, length-scale}
use Rattle.row_laws.specs.Laws.Independence.{variable_is, from_zero, past_the_end, Climbs}
use Rattle.row_laws.specs.Laws.OneForm.{any_default, list_same}
use Rattle.row_laws.specs.Laws.Pivots.{below}
use Rattle.row_pivots.specs.Laws.Bland.{not_basic}
use Rattle.row_pivots.specs.Laws.Pivoting.{get_or-map}
use Rattle.row_pivots.specs.Laws.Sorted.{line_is}
use Rattle.row_pivots.specs.Tables.{line_or, Fresh}
use Rattle.row_pivots.specs.Laws.Values.{FormValues, values, has_line, free_or_basic}
use Rattle.seq_model.specs.Dictionaries.{meaning, one, free_of, Form, Has}
use Rattle.seq_model.specs.Systems.{row_at, no_row, row_value, MeetsRows}
use Rattle.seq_model.specs.Walks.{constant, NothingLeaves}
use Rattle.seq_model.specs.declared.row.Row.{Row}
use Rattle.row_pivots.specs.Ends.{point}

pub slack_is : (vars : ℕ) (rows : List Row) (r : ℕ) → meaning vars rows (vars + r) ≡ (row_at rows r).c ∷ (row_at rows r).a
slack_is vars rows r =
    ap (λ (b : Bool). if b then pos 0 ∷ slice_set (replicate vars (pos 0)) (vars + r) (pos 1) else (row_at rows ((vars + r) - vars)).c ∷ (row_at rows ((vars + r) - vars)).a) (above vars r)
    ∙ ap (λ t. (row_at rows t).c ∷ (row_at rows t).a) (back vars r)
  where
    above : (v r : ℕ) → nat_lt (v + r) v ≡ false
    above v r = grind (arith, nat_tests)

    back : (v r : ℕ) → (v + r) - v ≡ r
    back v r = omega arith

-- a rising list repeats nothing
pub climbs_fresh : (low end : ℕ) (zs : List ℕ) → Climbs low end zs → Fresh zs
climbs_fresh low end [] c = tt
climbs_fresh low end (z ∷ zs) c = (λ i. let k = below (z + 1) end zs z c.2 i in absurd (omega (arith, k)), climbs_fresh (z + 1) end zs c.2)

pub line_none : (z : ℕ) (basis : List ℕ) (lines : List (List ℤ)) → (In z basis → ⊥) → line_or z basis lines ≡ []
line_none z [] lines n = refl
line_none z (y ∷ basis) [] n = refl
line_none z (y ∷ basis) (l ∷ lines) n = ap (λ (b : Bool). if b then l else line_or z basis lines) (other z y (λ e. n (inl e))) ∙ line_none z basis lines (λ i. n (inr i))
  where
    other : (x y : ℕ) → (x ≡ y → ⊥) → nat_eq x y ≡ false
    other x y m = grind (arith, nat_tests, m)

range_at : (low n k : ℕ) (d : ℕ) → k < n → get_or (range_with_len low n) k d ≡ low + k
range_at low zero k d h = absurd (omega (arith, h))
range_at low (suc n) zero d h = omega arith
range_at low (suc n) (suc k) d h = range_at (low + 1) n k d (omega (arith, h)) ∙ (omega arith)

sign_of : (d x c t : ℤ) → pos 0 <ℤ d → d *ℤ x ≡ c *ℤ t → pos 0 ≤ℤ c → pos 0 <ℤ t → pos 0 ≤ℤ x
sign_of d x c t p e q s =
    let m : pos 0 ≤ℤ (c *ℤ t) = mul_nonneg c t q (omega (arith, ints, s)) in
    let z : d *ℤ pos 0 ≡ pos 0 = simp expand in
    cancel_le d p (omega (arith, ints, m, e, z))

pub point_meets : (vars : ℕ) (rows : List Row) (basis : List ℕ) (f : Form vars rows basis) → NothingLeaves basis f.lines → MeetsRows rows f.d (point vars basis f.lines)
point_meets vars rows basis f stop = record { positive = f.positive; coordinates = coordinates; each = each }
  where
    count : ℕ
    count = vars + length rows

    v : FormValues vars rows basis f
    v = values vars rows basis f

    lines : List (List ℤ)
    lines = f.lines

    t : ℤ
    t = dot (one vars) v.u

    positive : pos 0 <ℤ f.d
    positive = let p = f.positive in omega (arith, ints, p)

    free : List ℕ
    free = free_of (vars + length rows) basis

    const : ℕ → ℤ
    const z = constant (line_or z basis f.lines)

    fresh : Fresh basis
    fresh = climbs_fresh 0 (vars + length rows) basis (from_zero (vars + length rows) basis f.rising)

    basic_line : (z : ℕ) → In z basis → Has basis f.lines z (line_or z basis f.lines)
    basic_line z i = let k = has_line vars rows f.d free basis f.lines f.says z i in subst (Has basis f.lines z) (sym (line_is z basis f.lines k.0 fresh k.1)) k.1

    -- d times the value of each variable is its constant
    value : (z : ℕ) → z < vars + length rows → f.d *ℤ dot (meaning vars rows z) v.u ≡ const z *ℤ t
    value z h = by (free_or_basic (vars + length rows) basis z h)
      where
        none : (d x c t : ℤ) → x ≡ pos 0 → c ≡ pos 0 → d *ℤ x ≡ c *ℤ t
        none d x c t e k = rw (e, k) (nothing d t)
          where
            nothing : (d t : ℤ) → d *ℤ pos 0 ≡ pos 0 *ℤ t
            nothing d t = simp expand

        by : In z basis ⊎ In z (free_of (vars + length rows) basis) → f.d *ℤ dot (meaning vars rows z) v.u ≡ const z *ℤ t
        by (inl i) = v.basic z (line_or z basis f.lines) (basic_line z i)
        by (inr i) = none f.d (dot (meaning vars rows z) v.u) (const z) t (v.free z i) (ap constant (line_none z basis f.lines (not_basic (vars + length rows) basis z i)))

    nonneg : (z : ℕ) → z < vars + length rows → pos 0 ≤ℤ const z
    nonneg z h = by (free_or_basic (vars + length rows) basis z h)
      where
        by : In z basis ⊎ In z (free_of (vars + length rows) basis) → pos 0 ≤ℤ const z
        by (inl i) = stop z (line_or z basis f.lines) (basic_line z i)
        by (inr i) = let e = ap constant (line_none z basis f.lines (not_basic (vars + length rows) basis z i)) in omega (arith, ints, e)

    u : List ℤ
    u = point vars basis f.lines

    long : length u ≡ vars
    long = length-map (range_with_len 0 vars) (λ z. constant (line_or z basis f.lines)) ∙ length-range_with_len 0 vars

    u_at : (k : ℕ) → k < vars → get_or u k (pos 0) ≡ const k
    u_at k h = get_or-map (λ z. constant (line_or z basis f.lines)) (range_with_len 0 vars) k (pos 0) 0 (let l = length-range_with_len 0 vars in omega (arith, l, h)) ∙ ap (λ z. constant (line_or z basis f.lines)) (range_at 0 vars k 0 h ∙ plain k)
      where
        plain : (k : ℕ) → 0 + k ≡ k
        plain k = omega arith

    coordinates : All (λ x. pos 0 ≤ℤ x) u
    coordinates = λ k d h. subst (λ t. pos 0 ≤ℤ t) (any_default u k (pos 0) d h) (subst (λ t. pos 0 ≤ℤ t) (sym (u_at k (small k h))) (nonneg k (omega (arith, small k h))))
      where
        small : (k : ℕ) → k < length u → k < vars
        small k h = let l = long in omega (arith, l, h)

    -- the point is the values of the basis, over another denominator
    same : scale t (f.d ∷ u) ≡ scale f.d v.u
    same = list_same (scale t (f.d ∷ u)) (scale f.d v.u) lengths at
      where
        lengths : length (scale t (f.d ∷ u)) ≡ length (scale f.d v.u)
        lengths = let a = length-scale t (f.d ∷ u) in let b = length-scale f.d v.u in let l = long in let m = v.long in omega (arith, a, b, l, m)

        turn : (t d : ℤ) → t *ℤ d ≡ d *ℤ t
        turn t d = omega (arith, ints)

        at : (j : ℕ) → get_or (scale t (f.d ∷ u)) j (pos 0) ≡ get_or (scale f.d v.u) j (pos 0)
        at zero = turn t f.d ∙ ap (λ x. f.d *ℤ x) (dot-unit_first v.u) ∙ sym (get_or-scale f.d v.u 0)
          where
            dot-unit_first : (w : List ℤ) → dot (one vars) w ≡ get_or w 0 (pos 0)
            dot-unit_first w = dot-unit (suc vars) 0 w (omega arith)
        at (suc k) = by (cases_lt k vars)
          where
            by : (k < vars) ⊎ (vars ≤ k) → get_or (scale t (f.d ∷ u)) (suc k) (pos 0) ≡ get_or (scale f.d v.u) (suc k) (pos 0)
            by (inl h) =
                get_or-scale t u k ∙ ap (λ x. t *ℤ x) (u_at k h) ∙ turn t (const k) ∙ sym (value k (omega (arith, h)))
                ∙ ap (λ w. f.d *ℤ dot w v.u) (variable_is vars rows k h) ∙ ap (λ x. f.d *ℤ x) (dot-unit (suc vars) (suc k) v.u (omega (arith, h))) ∙ sym (get_or-scale f.d v.u (suc k))
            by (inr h) = past_the_end (scale t (f.d ∷ u)) (suc k) (let a = length-scale t (f.d ∷ u) in let l = long in omega (arith, a, l, h)) ∙ sym (past_the_end (scale f.d v.u) (suc k) (let b = length-scale f.d v.u in let m = v.long in omega (arith, b, m, h)))

    each : All (λ row. pos 0 ≤ℤ row_value f.d (point vars basis f.lines) row) rows
    each = λ r w h. subst (λ row. pos 0 ≤ℤ row_value f.d u row) (any_default rows r no_row w h) (row_meets r h)
      where
        over : (a : List ℤ) → t *ℤ dot a (f.d ∷ u) ≡ f.d *ℤ dot a v.u
        over a =
            ap (λ x. t *ℤ x) (dot_comm a (f.d ∷ u)) ∙ sym (dot-scale t (f.d ∷ u) a) ∙ ap (λ w. dot w a) same ∙ dot-scale f.d v.u a ∙ ap (λ x. f.d *ℤ x) (dot_comm v.u a)

        turn : (c d x : ℤ) → d *ℤ c +ℤ x ≡ c *ℤ d +ℤ x
        turn c d x = omega (arith, ints)

        row_meets : (r : ℕ) → r < length rows → pos 0 ≤ℤ row_value f.d u (row_at rows r)
        row_meets r h =
            let z = vars + r in
            let e = over (meaning vars rows z) ∙ value z (omega (arith, h)) in
            let s : pos 0 ≤ℤ dot (meaning vars rows z) (f.d ∷ u) = sign_of t (dot (meaning vars rows z) (f.d ∷ u)) (const z) t v.positive e (nonneg z (omega (arith, h))) v.positive in
            subst (λ x. pos 0 ≤ℤ x) (sym (turn (row_at rows r).c f.d (dot (row_at rows r).a u))) (subst (λ w. pos 0 ≤ℤ dot w (f.d ∷ u)) (slack_is vars rows r) s)
