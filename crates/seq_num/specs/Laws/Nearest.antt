-- Where the nearest whole number is: at most half a divisor away, on both sides of 0 alike, and only one number is.
use Rattle.std.proofs.Common.{◌≡◌, ℕ, suc, ◌+◌, ◌*◌, ◌<◌, ◌≤◌, ◌-◌, ℤ, pos, negsuc, neg_ℤ, ◌-ℤ◌, ◌*ℤ◌, ◌<ℤ◌, unsigned_abs, ◌⊎◌, inl, inr, sym, ap, ◌∙◌, arith, mul-le-mul_left}
use Rattle.std.proofs.Math.Nat.{mul-div-le, lt-div-mul-add}
use Rattle.std.proofs.lemmas.Nat.{le-div, div_below}
use Rattle.std.proofs.lemmas.Int.{ints}
use Rattle.std.proofs.lemmas.Bool.{cases_order}
use Rattle.integer_laws.specs.Laws.Ring as Ring
use Rattle.integer_laws.specs.Laws.Order.{cancel_same}
use Rattle.seq_num.specs.Nearest.{IsNearest, half_up}

-- u is within half of d from n / d; at a tie it is the number above
pub record IsHalfNear (n d u : ℕ) : Type 0 where
  pub low : 2 * (d * u) ≤ 2 * n + d
  pub high : 2 * n < 2 * (d * u) + d

abbrev away : ℕ → ℕ → ℕ
away m n = (m - n) + (n - m)

away_is : (m n : ℕ) → unsigned_abs (pos m -ℤ pos n) ≡ away m n
away_is m n = omega (arith, ints)

nearer_below : (n d u r : ℕ) → IsHalfNear n d u → r < u → away n (d * u) ≤ away n (d * r)
nearer_below n d u r h k =
    let step : d * suc r ≤ d * u = mul-le-mul_left d k in
    omega arith

nearer_above : (n d u r : ℕ) → IsHalfNear n d u → u < r → away n (d * u) < away n (d * r)
nearer_above n d u r h k =
    let step : d * suc u ≤ d * r = mul-le-mul_left d k in
    omega arith

nearer_past : (n d u r : ℕ) → 0 < d → IsHalfNear n d u → away n (d * u) < n + d * suc r
nearer_past n d u r p h = omega arith

away_negative : (n d r : ℕ) → unsigned_abs (pos n -ℤ pos d *ℤ negsuc r) ≡ n + d * suc r
away_negative n d r = omega (arith, ints)

nearest_in_order : (n d u r : ℕ) → IsHalfNear n d u → (u ≡ r) ⊎ ((u < r) ⊎ (r < u)) → away n (d * u) ≤ away n (d * r)
nearest_in_order n d u r h (inl e) = rw e (omega arith)
nearest_in_order n d u r h (inr (inl k)) = let a = nearer_above n d u r h k in omega arith
nearest_in_order n d u r h (inr (inr k)) = nearer_below n d u r h k

nearest_at : (n d u : ℕ) → 0 < d → IsHalfNear n d u → (r : ℤ) → away n (d * u) ≤ unsigned_abs (pos n -ℤ pos d *ℤ r)
nearest_at n d u p h (pos r) = rw (away_is n (d * r)) (nearest_in_order n d u r h (cases_order u r))
nearest_at n d u p h (negsuc r) = let a = nearer_past n d u r p h in omega (arith, away_negative n d r)

greatest_in_order : (n d u r : ℕ) → IsHalfNear n d u → away n (d * r) ≡ away n (d * u) → (u ≡ r) ⊎ ((u < r) ⊎ (r < u)) → r ≤ u
greatest_in_order n d u r h e (inl k) = omega arith
greatest_in_order n d u r h e (inr (inl k)) = absurd (let a = nearer_above n d u r h k in omega arith)
greatest_in_order n d u r h e (inr (inr k)) = omega arith

greatest_at : (n d u : ℕ) → 0 < d → IsHalfNear n d u → (r : ℤ) → unsigned_abs (pos n -ℤ pos d *ℤ r) ≡ away n (d * u) → unsigned_abs r ≤ u
greatest_at n d u p h (pos r) e = greatest_in_order n d u r h (sym (away_is n (d * r)) ∙ e) (cases_order u r)
greatest_at n d u p h (negsuc r) e = absurd (let a = nearer_past n d u r p h in omega (arith, away_negative n d r))

pub nearest_half : (n d u : ℕ) → 0 < d → IsHalfNear n d u → IsNearest (pos n) (pos d) (pos u)
nearest_half n d u p h =
    record {
      nearest = λ r. rw (away_is n (d * u)) (nearest_at n d u p h r);
      greatest = λ r e. greatest_at n d u p h r (e ∙ away_is n (d * u));
    }

pub half_up_is : (n d : ℕ) → 0 < d → IsHalfNear n d (half_up n d)
half_up_is n d p =
    let two : 0 < 2 * d = omega arith in
    let low : 2 * d * half_up n d ≤ 2 * n + d = mul-div-le (2 * n + d) (2 * d) in
    let high : 2 * n + d < half_up n d * (2 * d) + 2 * d = lt-div-mul-add two in
    record { low = omega arith; high = omega arith }

pub half_up_unique : (n d u : ℕ) → 0 < d → IsHalfNear n d u → half_up n d ≡ u
half_up_unique n d u p h =
    let two : 0 < 2 * d = omega arith in
    let low : u ≤ half_up n d = le-div u (2 * n + d) (2 * d) two (omega arith) in
    let high : half_up n d < suc u = div_below (2 * n + d) (2 * d) (suc u) two (omega arith) in
    omega arith

mirrored : (n d r : ℤ) → unsigned_abs (neg_ℤ n -ℤ d *ℤ r) ≡ unsigned_abs (n -ℤ d *ℤ neg_ℤ r)
mirrored n d r = omega (arith, ints, Ring.mul-neg d r)

mirrored_neg : (n d q : ℤ) → unsigned_abs (neg_ℤ n -ℤ d *ℤ neg_ℤ q) ≡ unsigned_abs (n -ℤ d *ℤ q)
mirrored_neg n d q = omega (arith, ints, Ring.mul-neg d q)

pub IsNearest-neg : (n d q : ℤ) → IsNearest n d q → IsNearest (neg_ℤ n) d (neg_ℤ q)
IsNearest-neg n d q h =
    record {
      nearest = λ r. rw (mirrored n d r, mirrored_neg n d q) (h.nearest (neg_ℤ r));
      greatest = λ r e. (let g = h.greatest (neg_ℤ r) (sym (mirrored n d r) ∙ e ∙ mirrored_neg n d q) in omega (arith, ints));
    }

-- two numbers on both sides of n, as near to it as 0 is, are 0
between : (n x y : ℤ) → unsigned_abs (n -ℤ x) ≡ unsigned_abs (n -ℤ y) → unsigned_abs (n -ℤ x) ≤ unsigned_abs n → y ≡ neg_ℤ x → x ≡ pos 0
between n x y same near other = omega (arith, ints)

opposite : (q r : ℤ) → unsigned_abs q ≡ unsigned_abs r → (q ≡ r) ⊎ (r ≡ neg_ℤ q)
opposite (pos q) (pos r) e = inl (ap pos e)
opposite (pos q) (negsuc r) e = inr (omega (arith, ints))
opposite (negsuc q) (pos r) e = inr (omega (arith, ints))
opposite (negsuc q) (negsuc r) e = inl (omega (arith, ints))

-- both are 0, where they lie on both sides of it
at_zero : (n d q r : ℤ) → pos 0 <ℤ d → unsigned_abs (n -ℤ d *ℤ q) ≡ unsigned_abs (n -ℤ d *ℤ r) → IsNearest n d q → r ≡ neg_ℤ q → q ≡ r
at_zero n d q r p same h other =
    let turned : d *ℤ r ≡ neg_ℤ (d *ℤ q) = ap (λ t. d *ℤ t) other ∙ Ring.mul-neg d q in
    let none : unsigned_abs (n -ℤ d *ℤ q) ≤ unsigned_abs n = (let z = h.nearest (pos 0) in omega (arith, ints, Ring.mul-zero d)) in
    let product : d *ℤ q ≡ d *ℤ pos 0 = between n (d *ℤ q) (d *ℤ r) same none turned ∙ sym (Ring.mul-zero d) in
    let zero : q ≡ pos 0 = cancel_same d p product in
    omega (arith, ints)

one_nearest : (n d q r : ℤ) → pos 0 <ℤ d → unsigned_abs (n -ℤ d *ℤ q) ≡ unsigned_abs (n -ℤ d *ℤ r) → IsNearest n d q → (q ≡ r) ⊎ (r ≡ neg_ℤ q) → q ≡ r
one_nearest n d q r p same h (inl e) = e
one_nearest n d q r p same h (inr other) = at_zero n d q r p same h other

pub nearest_unique : (n d q r : ℤ) → pos 0 <ℤ d → IsNearest n d q → IsNearest n d r → q ≡ r
nearest_unique n d q r p h k =
    let near = h.nearest r in
    let near_other = k.nearest q in
    let same : unsigned_abs (n -ℤ d *ℤ q) ≡ unsigned_abs (n -ℤ d *ℤ r) = omega arith in
    let size = k.greatest q same in
    let size_other = h.greatest r (sym same) in
    one_nearest n d q r p same h (opposite q r (omega arith))
