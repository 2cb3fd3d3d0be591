-- The integers in order. A name says what is done to facts (`add`, `mul`, `cancel`), and the relation that it gives (`le`, `lt`, `same`).
-- What is multiplied is written at the call; the two ends of a fact are found.
--
--   le_of_same, same_of_difference, one_le     a relation from another
--   add_le, add_lt_le, add_le_lt, add_same     the sum of two facts
--   mul_le, mul_lt, mul_same                   a fact, times a number
--   cancel_le, cancel_lt, cancel_same          a fact, without a positive factor
--   le_from, lt_from, same_from                a goal from a fact and an identity of polynomials: the form of a certificate
--   mul_nonneg, mul_positive                   the sign of a product
use Rattle.std.proofs.Common.{◌≡◌, ap, sym, arith, ℤ, pos, negsuc, ◌+ℤ◌, ◌-ℤ◌, ◌*ℤ◌, ◌≤ℤ◌, ◌<ℤ◌, mul-le-mul_left}
use Rattle.std.proofs.lemmas.Int.{ints, by_lt_z}
use borrow.Author.Differences.{le_out, lt_out}

pub le_of_same : {a b : ℤ} → a ≡ b → a ≤ℤ b
le_of_same e = omega (arith, ints)

pub one_le : {a : ℤ} → pos 0 <ℤ a → pos 1 ≤ℤ a
one_le h = omega (arith, ints)

pub same_of_difference : {a b : ℤ} → a -ℤ b ≡ pos 0 → a ≡ b
same_of_difference e = omega (arith, ints)

pub add_le : {a b c d : ℤ} → a ≤ℤ b → c ≤ℤ d → (a +ℤ c) ≤ℤ (b +ℤ d)
add_le h k = omega (arith, ints)

pub add_lt_le : {a b c d : ℤ} → a <ℤ b → c ≤ℤ d → (a +ℤ c) <ℤ (b +ℤ d)
add_lt_le h k = omega (arith, ints)

pub add_le_lt : {a b c d : ℤ} → a ≤ℤ b → c <ℤ d → (a +ℤ c) <ℤ (b +ℤ d)
add_le_lt h k = omega (arith, ints)

pub add_same : {a b c d : ℤ} → a ≡ b → c ≡ d → a +ℤ c ≡ b +ℤ d
add_same e f = omega (arith, ints)

pub mul_le : (t : ℤ) {a b : ℤ} → pos 0 ≤ℤ t → a ≤ℤ b → (t *ℤ a) ≤ℤ (t *ℤ b)
mul_le (pos t) {a} {b} p h = omega (arith, ints, mul-le-mul_left t (le_out a b h))
mul_le (negsuc t) p h = absurd (omega (arith, ints))

pub mul_lt : (t : ℤ) {a b : ℤ} → pos 0 <ℤ t → a <ℤ b → (t *ℤ a) <ℤ (t *ℤ b)
mul_lt (pos t) {a} {b} p h = omega (arith, ints, mul-le-mul_left t (lt_out a b h))
mul_lt (negsuc t) p h = absurd (omega (arith, ints))

pub mul_same : (t : ℤ) {a b : ℤ} → a ≡ b → t *ℤ a ≡ t *ℤ b
mul_same t e = ap (λ z. t *ℤ z) e

pub cancel_le : (t : ℤ) {a b : ℤ} → pos 0 <ℤ t → (t *ℤ a) ≤ℤ (t *ℤ b) → a ≤ℤ b
cancel_le t {a} {b} p h = by_lt_z b a (λ r. let q = mul_lt t p r in absurd (omega (arith, ints))) (λ r. r)

pub cancel_lt : (t : ℤ) {a b : ℤ} → pos 0 <ℤ t → (t *ℤ a) <ℤ (t *ℤ b) → a <ℤ b
cancel_lt t {a} {b} p h = by_lt_z a b (λ r. r) (λ r. let q = mul_le t (omega (arith, ints)) r in absurd (omega (arith, ints)))

pub cancel_same : (t : ℤ) {a b : ℤ} → pos 0 <ℤ t → t *ℤ a ≡ t *ℤ b → a ≡ b
cancel_same t {a} {b} p e =
    let h : a ≤ℤ b = cancel_le t p (le_of_same e) in
    let k : b ≤ℤ a = cancel_le t p (le_of_same (sym e)) in
    omega (arith, ints)

pub le_from : {a b l r : ℤ} → a ≤ℤ b → l +ℤ b ≡ r +ℤ a → l ≤ℤ r
le_from h e = omega (arith, ints)

pub lt_from : {a b l r : ℤ} → a <ℤ b → l +ℤ b ≡ r +ℤ a → l <ℤ r
lt_from h e = omega (arith, ints)

pub same_from : {a b l r : ℤ} → a ≡ b → l +ℤ b ≡ r +ℤ a → l ≡ r
same_from h e = omega (arith, ints)

pub mul_nonneg : (a b : ℤ) → pos 0 ≤ℤ a → pos 0 ≤ℤ b → pos 0 ≤ℤ (a *ℤ b)
mul_nonneg a b p q = let h = mul_le a p q in omega (arith, ints)

pub mul_positive : (a b : ℤ) → pos 0 <ℤ a → pos 0 <ℤ b → pos 0 <ℤ (a *ℤ b)
mul_positive a b p q = let h = mul_lt a p q in omega (arith, ints)
