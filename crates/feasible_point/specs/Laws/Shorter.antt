-- A contradiction with its multipliers divided by what divides them all.
use Rattle.std.proofs.Common.{◌≡◌, ℕ, suc, ◌*◌, ◌<◌, ◌≤◌, ◌^◌, List, [], ◌∷◌, length, map, All, refl, ap, ap₂, sym, subst, ◌∙◌, arith, ℤ, pos, ◌+ℤ◌, ◌*ℤ◌, ◌≤ℤ◌, ◌<ℤ◌, unsigned_abs, int_div, mul-one}
use Rattle.std.proofs.lemmas.Int.{ints, unsigned_abs-mul}
use Rattle.std.proofs.lemmas.List.{length-map}
use Rattle.std.proofs.lemmas.List.Elements.{All-nil, All-cons, All-head, All-tail}
use Rattle.std.proofs.Math.Nat.{mul-dvd-mul_left, dvd_of_mul-dvd-mul_left, eq-one_of_dvd-one}
use Rattle.std.specs.Int.{◌∣◌}
use Rattle.integer_laws.specs.Laws.Divisors.{exact_quotient}
use Rattle.integer_laws.specs.Laws.Order.{cancel_lt, cancel_le, mul_le, one_le}
use Rattle.integer_laws.specs.Laws.Ring.{expand}
use Rattle.integer_laws.specs.Vectors.{plus, scale}
use Rattle.row_pivots.specs.Laws.Turned.{divides_self}
use Rattle.row_pivots.specs.Ends.{Small}
use Rattle.feasible_point.specs.Shortening.{Divides, IsFactor, shorter, Shortened, IsTaking, AreShortest}
use Rattle.seq_model.specs.Dictionaries.{Rises}
use Rattle.seq_model.specs.Systems.{row_at, sum_constant, sum_coefficients, IsTaken, Contradiction}
use Rattle.seq_model.specs.declared.row.Row.{Row}
use Rattle.seq_model.specs.declared.tree.Mult.{Mult}

abbrev longer : ℤ → Mult → Mult
longer g m = record { row = m.row; times = g *ℤ m.times }

-- ---- back again
one_back : (g : ℤ) (m : Mult) → unsigned_abs g ∣ unsigned_abs m.times → longer g (shorter g m) ≡ m
one_back g m d = ap (λ t. record { row = m.row; times = t }) (sym (exact_quotient m.times g d))

back : (g : ℤ) (ms : List Mult) → Divides (unsigned_abs g) ms → map (longer g) (map (shorter g) ms) ≡ ms
back g [] d = refl
back g (m ∷ ms) d =
    ap₂ (λ (a : Mult) (b : List Mult). a ∷ b) (one_back g m (All-head (λ (m : Mult). unsigned_abs g ∣ unsigned_abs m.times) m ms d)) (back g ms (All-tail (λ (m : Mult). unsigned_abs g ∣ unsigned_abs m.times) m ms d))

pub rows_kept : (g : ℤ) (ms : List Mult) → map (λ (m : Mult). m.row) (map (shorter g) ms) ≡ map (λ (m : Mult). m.row) ms
rows_kept g [] = refl
rows_kept g (m ∷ ms) = ap (λ t. m.row ∷ t) (rows_kept g ms)

-- ---- the sums
scale_scale : (g t : ℤ) (a : List ℤ) → scale (g *ℤ t) a ≡ scale g (scale t a)
scale_scale g t [] = refl
scale_scale g t (x ∷ a) = ap₂ (λ (y : ℤ) (b : List ℤ). y ∷ b) (one g t x) (scale_scale g t a)
  where
    one : (g t x : ℤ) → (g *ℤ t) *ℤ x ≡ g *ℤ (t *ℤ x)
    one g t x = simp expand

plus_scale : (g t : ℤ) (a r : List ℤ) → plus (scale (g *ℤ t) a) (scale g r) ≡ scale g (plus (scale t a) r)
plus_scale g t [] r = refl
plus_scale g t (x ∷ a) [] = scale_scale g t (x ∷ a)
plus_scale g t (x ∷ a) (y ∷ r) = ap₂ (λ (z : ℤ) (b : List ℤ). z ∷ b) (one g t x y) (plus_scale g t a r)
  where
    one : (g t x y : ℤ) → (g *ℤ t) *ℤ x +ℤ g *ℤ y ≡ g *ℤ (t *ℤ x +ℤ y)
    one g t x y = simp expand

coefficients_are : (rows : List Row) (g : ℤ) (ss : List Mult) → sum_coefficients rows (map (longer g) ss) ≡ scale g (sum_coefficients rows ss)
coefficients_are rows g [] = refl
coefficients_are rows g (m ∷ ss) = ap (plus (scale (g *ℤ m.times) (row_at rows m.row).a)) (coefficients_are rows g ss) ∙ plus_scale g m.times (row_at rows m.row).a (sum_coefficients rows ss)

constant_is : (rows : List Row) (g : ℤ) (ss : List Mult) → sum_constant rows (map (longer g) ss) ≡ g *ℤ sum_constant rows ss
constant_is rows g [] = nothing g
  where
    nothing : (g : ℤ) → pos 0 ≡ g *ℤ pos 0
    nothing g = simp expand
constant_is rows g (m ∷ ss) = ap (λ t. (g *ℤ m.times) *ℤ (row_at rows m.row).c +ℤ t) (constant_is rows g ss) ∙ one g m.times (row_at rows m.row).c (sum_constant rows ss)
  where
    one : (g t x y : ℤ) → (g *ℤ t) *ℤ x +ℤ g *ℤ y ≡ g *ℤ (t *ℤ x +ℤ y)
    one g t x y = simp expand

cancel_positive : (g x : ℤ) → pos 1 ≤ℤ g → pos 0 ≤ℤ (g *ℤ x) → pos 0 ≤ℤ x
cancel_positive g x h k = let z : g *ℤ pos 0 ≡ pos 0 = simp expand in cancel_le g (omega (arith, ints, h)) (omega (arith, ints, k, z))

cancel_negative : (g x : ℤ) → pos 1 ≤ℤ g → (g *ℤ x) ≤ℤ pos 0 → x ≤ℤ pos 0
cancel_negative g x h k = let z : g *ℤ pos 0 ≡ pos 0 = simp expand in cancel_le g (omega (arith, ints, h)) (omega (arith, ints, k, z))

cancel_below : (g x : ℤ) → pos 1 ≤ℤ g → (g *ℤ x) <ℤ pos 0 → x <ℤ pos 0
cancel_below g x h k = let z : g *ℤ pos 0 ≡ pos 0 = simp expand in cancel_lt g (omega (arith, ints, h)) (omega (arith, ints, k, z))

cancel_above : (g x : ℤ) → pos 1 ≤ℤ g → pos 1 ≤ℤ (g *ℤ x) → pos 1 ≤ℤ x
cancel_above g x h k = let z : g *ℤ pos 0 ≡ pos 0 = simp expand in one_le (cancel_lt g (omega (arith, ints, h)) (omega (arith, ints, k, z)))

none_above : (g : ℤ) (xs : List ℤ) → pos 1 ≤ℤ g → All (λ x. x ≤ℤ pos 0) (scale g xs) → All (λ x. x ≤ℤ pos 0) xs
none_above g [] h all = All-nil (λ x. x ≤ℤ pos 0)
none_above g (x ∷ xs) h all = All-cons (λ x. x ≤ℤ pos 0) x xs (cancel_negative g x h (All-head (λ x. x ≤ℤ pos 0) (g *ℤ x) (scale g xs) all)) (none_above g xs h (All-tail (λ x. x ≤ℤ pos 0) (g *ℤ x) (scale g xs) all))

each_taken : (rows : List Row) (g : ℤ) (ss : List Mult) → pos 1 ≤ℤ g → All (IsTaken rows) (map (longer g) ss) → All (IsTaken rows) ss
each_taken rows g [] h all = All-nil (IsTaken rows)
each_taken rows g (m ∷ ss) h all =
    let first = All-head (IsTaken rows) (longer g m) (map (longer g) ss) all in
    All-cons (IsTaken rows) m ss (record { row = first.row; times = cancel_positive g m.times h first.times }) (each_taken rows g ss h (All-tail (IsTaken rows) (longer g m) (map (longer g) ss) all))

contradict : (rows : List Row) (g : ℤ) (ss : List Mult) → pos 1 ≤ℤ g → Contradiction rows (map (longer g) ss) → Contradiction rows ss
contradict rows g ss h c = record {
  each = each_taken rows g ss h c.each;
  coefficients = none_above g (sum_coefficients rows ss) h (subst (All (λ a. a ≤ℤ pos 0)) (coefficients_are rows g ss) c.coefficients);
  constant = cancel_below g (sum_constant rows ss) h (subst (λ t. t <ℤ pos 0) (constant_is rows g ss) c.constant);
}

-- ---- each multiplier
each_short : (g : ℤ) (ms : List Mult) → pos 1 ≤ℤ g → Divides (unsigned_abs g) ms → All IsTaking ms → All IsTaking (map (shorter g) ms)
each_short g [] h d all = All-nil IsTaking
each_short g (m ∷ ms) h d all =
    All-cons IsTaking (shorter g m) (map (shorter g) ms) (one g m.times (int_div m.times g) h (exact_quotient m.times g (All-head (λ (m : Mult). unsigned_abs g ∣ unsigned_abs m.times) m ms d)) (All-head IsTaking m ms all))
    (each_short g ms h (All-tail (λ (m : Mult). unsigned_abs g ∣ unsigned_abs m.times) m ms d) (All-tail IsTaking m ms all))
  where
    one : (g x q : ℤ) → pos 1 ≤ℤ g → x ≡ g *ℤ q → (pos 1 ≤ℤ x) × Small x → (pos 1 ≤ℤ q) × Small q
    one g x q h e k = (above, small)
      where
        above : pos 1 ≤ℤ q
        above = cancel_above g q h (subst (λ t. pos 1 ≤ℤ t) e k.0)

        small : Small q
        small =
            let m = mul_le q {a = pos 1} {b = g} (omega (arith, ints, above)) h in
            let c : q *ℤ g ≡ g *ℤ q = simp expand in
            let o : q *ℤ pos 1 ≡ q = simp expand in
            let s = k.1 in
            let a = above in
            omega (arith, ints, m, c, o, e, s, a)

more_divides : (g : ℤ) (k : ℕ) (ms : List Mult) → Divides (unsigned_abs g) ms → Divides k (map (shorter g) ms) → Divides (unsigned_abs g * k) ms
more_divides g k [] d h = All-nil (λ (m : Mult). unsigned_abs g * k ∣ unsigned_abs m.times)
more_divides g k (m ∷ ms) d h =
    All-cons (λ (m : Mult). unsigned_abs g * k ∣ unsigned_abs m.times) m ms (one g m.times (int_div m.times g) (exact_quotient m.times g (All-head (λ (m : Mult). unsigned_abs g ∣ unsigned_abs m.times) m ms d)) (All-head (λ (m : Mult). k ∣ unsigned_abs m.times) (shorter g m) (map (shorter g) ms) h))
    (more_divides g k ms (All-tail (λ (m : Mult). unsigned_abs g ∣ unsigned_abs m.times) m ms d) (All-tail (λ (m : Mult). k ∣ unsigned_abs m.times) (shorter g m) (map (shorter g) ms) h))
  where
    one : (g x q : ℤ) → x ≡ g *ℤ q → k ∣ unsigned_abs q → unsigned_abs g * k ∣ unsigned_abs x
    one g x q e v = subst (λ t. unsigned_abs g * k ∣ t) (sym (ap unsigned_abs e ∙ unsigned_abs-mul g q)) (mul-dvd-mul_left k (unsigned_abs g) v)

only_one : (g : ℤ) (ms : List Mult) → pos 1 ≤ℤ g → IsFactor ms g → (k : ℕ) → Divides k (map (shorter g) ms) → k ≡ 1
only_one g ms h is k d =
    let both = (is (unsigned_abs g * k)).1 (more_divides g k ms ((is (unsigned_abs g)).0 (divides_self (unsigned_abs g))) d) in
    eq-one_of_dvd-one (dvd_of_mul-dvd-mul_left k (omega (arith, ints, h)) (subst (λ t. unsigned_abs g * k ∣ t) (sym (mul-one (unsigned_abs g))) both))

below_of_small : (x : ℤ) → (pos 1 ≤ℤ x) × Small x → x <ℤ pos (2 ^ 62)
below_of_small x k = let s = k.1 in let a = k.0 in omega (arith, ints, s, a)

all_below : (ms : List Mult) → All IsTaking ms → All (λ (m : Mult). m.times <ℤ pos (2 ^ 62)) ms
all_below [] all = All-nil (λ (m : Mult). m.times <ℤ pos (2 ^ 62))
all_below (m ∷ ms) all = All-cons (λ (m : Mult). m.times <ℤ pos (2 ^ 62)) m ms (below_of_small m.times (All-head IsTaking m ms all)) (all_below ms (All-tail IsTaking m ms all))

all_some : (ms : List Mult) → All IsTaking ms → All (λ (m : Mult). pos 1 ≤ℤ m.times) ms
all_some [] all = All-nil (λ (m : Mult). pos 1 ≤ℤ m.times)
all_some (m ∷ ms) all = All-cons (λ (m : Mult). pos 1 ≤ℤ m.times) m ms (All-head IsTaking m ms all).0 (all_some ms (All-tail IsTaking m ms all))

-- ---- all of it
pub record Certifies (rows : List Row) (vars : ℕ) (list : List Mult) : Type 0 where
  pub contradiction : Contradiction rows list
  pub rising : Rises (length rows) (map (λ (m : Mult). m.row) list)
  pub taken : All (λ (m : Mult). pos 1 ≤ℤ m.times) list
  pub some : 0 < length list
  pub few : length list ≤ suc vars
  pub shortest : AreShortest list

pub certifies : (rows : List Row) (vars : ℕ) (ms list : List Mult) → Contradiction rows ms → Rises (length rows) (map (λ (m : Mult). m.row) ms) → All IsTaking ms → 0 < length ms → length ms ≤ suc vars → Shortened ms list
    → Certifies rows vars list
certifies rows vars ms list c r t s f h = subst (Certifies rows vars) (sym h.list_is) (record {
  contradiction = contradict rows h.factor (map (shorter h.factor) ms) h.positive (subst (Contradiction rows) (sym (back h.factor ms divides)) c);
  rising = subst (Rises (length rows)) (sym (rows_kept h.factor ms)) r;
  taken = all_some (map (shorter h.factor) ms) each;
  some = subst (λ n. 0 < n) (sym (length-map ms (shorter h.factor))) s;
  few = subst (λ n. n ≤ suc vars) (sym (length-map ms (shorter h.factor))) f;
  shortest = (only_one h.factor ms h.positive h.is, all_below (map (shorter h.factor) ms) each);
})
  where
    divides : Divides (unsigned_abs h.factor) ms
    divides = (h.is (unsigned_abs h.factor)).0 (divides_self (unsigned_abs h.factor))

    each : All IsTaking (map (shorter h.factor) ms)
    each = each_short h.factor ms h.positive divides t
