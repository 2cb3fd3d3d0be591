-- Quotients by a positive number, rounded down and up.
--
--   floor_is, ceil_is                they are
--   floor_unique, ceil_unique        and no other number is
--   floor-neg, ceil-neg              of a negated number
--   floor_le, ceil_le                they keep the order
--   floor_below, ceil_above          they keep it too where the other number is the fraction a / d, taken over the common denominator
--   floor_le_ceil                    the one is at most the other
--   floor_size, ceil_size            they are no longer than what is divided
--   least_quotient                   a quotient is the greater one only by a whole divisor
use Rattle.std.proofs.Common.{◌≡◌, ◌≤◌, ap, sym, arith, ℤ, pos, negsuc, neg_ℤ, ◌+ℤ◌, ◌*ℤ◌, ◌≤ℤ◌, ◌<ℤ◌, unsigned_abs, div-le_self}
use Rattle.std.proofs.lemmas.Int.{ints}
use Rattle.integer_laws.specs.Laws.Ring.{expand, neg-neg, mul-neg}
use Rattle.integer_laws.specs.Laws.Order.{mul_le, mul_positive, cancel_lt, lt_from, add_le_lt}
use Rattle.integer_laws.specs.Quotients.{floor, ceil, IsFloor, IsCeil}

pub floor_is : (a d : ℤ) → pos 0 <ℤ d → IsFloor a d (floor a d)
floor_is (pos a) (pos d) p = record { low = omega (arith, ints); high = omega (arith, ints) }
floor_is (pos a) (negsuc d) p = absurd (omega (arith, ints))
floor_is (negsuc a) (pos d) p = record { low = omega (arith, ints); high = omega (arith, ints) }
floor_is (negsuc a) (negsuc d) p = absurd (omega (arith, ints))

pub ceil_is : (a d : ℤ) → pos 0 <ℤ d → IsCeil a d (ceil a d)
ceil_is a d p =
    let f = floor_is (neg_ℤ a) d p in
    let e = mul-neg d (floor (neg_ℤ a) d) in
    record { low = omega (arith, ints, e, f.high); high = omega (arith, ints, e, f.low) }

pub least_quotient : (d q r : ℤ) → pos 0 <ℤ d → (d *ℤ q) <ℤ (d *ℤ r +ℤ d) → q ≤ℤ r
least_quotient d q r p h =
    let e : q <ℤ (r +ℤ pos 1) = cancel_lt d p (lt_from h (simp expand (omega (arith, ints)))) in
    omega (arith, ints)

pub floor_unique : (a d q : ℤ) → pos 0 <ℤ d → IsFloor a d q → q ≡ floor a d
floor_unique a d q p f =
    let g = floor_is a d p in
    let low = least_quotient d q (floor a d) p (omega (arith, ints, f.low, g.high)) in
    let high = least_quotient d (floor a d) q p (omega (arith, ints, g.low, f.high)) in
    omega (arith, ints)

pub ceil_unique : (a d q : ℤ) → pos 0 <ℤ d → IsCeil a d q → q ≡ ceil a d
ceil_unique a d q p f =
    let g = ceil_is a d p in
    let low = least_quotient d q (ceil a d) p (omega (arith, ints, f.low, g.high)) in
    let high = least_quotient d (ceil a d) q p (omega (arith, ints, g.low, f.high)) in
    omega (arith, ints)

pub floor-neg : (a d : ℤ) → floor (neg_ℤ a) d ≡ neg_ℤ (ceil a d)
floor-neg a d = sym (neg-neg (floor (neg_ℤ a) d))

pub ceil-neg : (a d : ℤ) → ceil (neg_ℤ a) d ≡ neg_ℤ (floor a d)
ceil-neg a d = ap (λ t. neg_ℤ (floor t d)) (neg-neg a)

pub floor_below : (a d g w : ℤ) → pos 0 <ℤ d → pos 0 <ℤ g → (d *ℤ w) ≤ℤ a → floor w g ≤ℤ floor a (d *ℤ g)
floor_below a d g w p q h =
    let r = mul_positive d g p q in
    let f = floor_is w g q in
    let k = floor_is a (d *ℤ g) r in
    let times = mul_le d (omega (arith, ints)) f.low in
    least_quotient (d *ℤ g) (floor w g) (floor a (d *ℤ g)) r (lt_from (add_le_lt times (add_le_lt h k.high)) (simp expand (omega (arith, ints))))

pub ceil_above : (a d g w : ℤ) → pos 0 <ℤ d → pos 0 <ℤ g → a ≤ℤ (d *ℤ w) → ceil a (d *ℤ g) ≤ℤ ceil w g
ceil_above a d g w p q h =
    let e = mul-neg d w in
    let f = floor_below (neg_ℤ a) d g (neg_ℤ w) p q (omega (arith, ints)) in
    omega (arith, ints)

pub floor_le : (d : ℤ) {a b : ℤ} → pos 0 <ℤ d → a ≤ℤ b → floor a d ≤ℤ floor b d
floor_le d {a} {b} p h =
    let f = floor_is a d p in
    let g = floor_is b d p in
    least_quotient d (floor a d) (floor b d) p (omega (arith, ints, f.low, g.high))

pub ceil_le : (d : ℤ) {a b : ℤ} → pos 0 <ℤ d → a ≤ℤ b → ceil a d ≤ℤ ceil b d
ceil_le d {a} {b} p h =
    let f = floor_le d {a = neg_ℤ b} {b = neg_ℤ a} p (omega (arith, ints)) in
    omega (arith, ints)

pub floor_le_ceil : (a d : ℤ) → pos 0 <ℤ d → floor a d ≤ℤ ceil a d
floor_le_ceil a d p =
    let f = floor_is a d p in
    let g = ceil_is a d p in
    least_quotient d (floor a d) (ceil a d) p (omega (arith, ints, f.low, g.high))

pub floor_size : (a d : ℤ) → pos 0 <ℤ d → unsigned_abs (floor a d) ≤ unsigned_abs a
floor_size (pos a) (pos d) p = omega (arith, div-le_self a d)
floor_size (negsuc a) (pos d) p = omega (arith, div-le_self a d)
floor_size a (negsuc d) p = absurd (omega (arith, ints))

pub ceil_size : (a d : ℤ) → pos 0 <ℤ d → unsigned_abs (ceil a d) ≤ unsigned_abs a
ceil_size a d p = let f = floor_size (neg_ℤ a) d p in omega (arith, ints)
