-- Greatest common divisors. `d ∣ n` and `IsGcd a b g` are std's, of natural numbers; a signed number goes in by its size, `unsigned_abs`.
--
--   gcd_of_is            gcd_of is the greatest common divisor
--   gcd_is               there is one
--   gcd_mul              what divides two multiples a * x and b * x divides that of the greatest common divisor
--   gauss                a number that divides a product, and is coprime to one factor, divides the other
--   gcd_positive         it is 0 only of two zeros
--   gcd_quotients        divided by it, two numbers are coprime
--   exact_quotient       a number is the divisor times the quotient, where the one divides the other
--   gcd_zero, gcd_step   the end of Euclid's algorithm, and its step
--   gcd_unique           there is no other greatest common divisor
--   divides_gcd          the divisors of it are the common ones
--   reduces_by_gcd       two numbers, not both 0, reduce to their quotients by it
--   reduced_unique       and to no other two
use Rattle.std.proofs.Common.{◌≡◌, ℕ, zero, suc, ◌+◌, ◌*◌, ◌/◌, ◌%◌, ◌<◌, ◌≤◌, refl, ap, sym, subst, subst₂, ◌∙◌, arith, ℤ, pos, negsuc, ◌*ℤ◌, ◌+ℤ◌, ◌≤ℤ◌, ◌↔◌, unsigned_abs, int_div, int_rem, mul_comm, mul_assoc, mul-one, one-mul, mod-lt, le_refl}
use Rattle.std.proofs.lemmas.Int.{ints, unsigned_abs-mul, quot-rem}
use Rattle.std.specs.Int.{IsGcd, ◌∣◌}
use Rattle.std.proofs.lemmas.Nat.Gcd.{IsGcd-from_zero, IsGcd-from_mod, same_from_IsGcd, dvd_antisymm, dvd_trans, mod-eq-zero_of_dvd}
use Rattle.std.proofs.Math.Nat.{dvd-mul_left_of_dvd, dvd-mul_right, div-add-mod, dvd-add_iff_right, mul-dvd-mul_left, dvd_of_mul-dvd-mul_left, eq-one_of_dvd-one, zero-dvd}
use Rattle.integer_laws.specs.Laws.Order.{cancel_same}
use Rattle.integer_laws.specs.Laws.Ring as Ring
use Rattle.integer_laws.specs.Divisors.{AreCoprime, gcd_of, gcd_within, IsGcdOf, IsPrimitive, Reduces}

-- what Euclid's algorithm keeps
record Euclid (a b g : ℕ) : Type 0 where
  is : IsGcd a b g
  multiples : (c x : ℕ) → c ∣ a * x → c ∣ b * x → c ∣ g * x

rest_divides : (a b c x : ℕ) → c ∣ a * x → c ∣ b * x → c ∣ (a % b) * x
rest_divides a b c x h k =
    (dvd-add_iff_right c (dvd-mul_left_of_dvd c k (a / b))).1 (subst (λ t. c ∣ t) (parts a b (a / b) (a % b) x (sym (div-add-mod a b))) h)
  where
    spread : (m r x : ℕ) → (m + r) * x ≡ m * x + r * x
    spread m r x = omega arith

    parts : (a b q r x : ℕ) → a ≡ b * q + r → a * x ≡ q * (b * x) + r * x
    parts a b q r x e = ap (λ t. t * x) e ∙ spread (b * q) r x ∙ ap (λ t. t + r * x) (ap (λ t. t * x) (mul_comm b q) ∙ mul_assoc q b x)

euclid : (steps a b : ℕ) → b ≤ steps → Euclid a b (gcd_within steps a b)
unfolding gcd_within
euclid steps a zero h = record { is = IsGcd-from_zero a 0 refl; multiples = λ c x h k. h }
euclid zero a (suc b) h = absurd (omega arith)
euclid (suc steps) a (suc b) h =
    let r = euclid steps (suc b) (a % suc b) (omega (arith, mod-lt a {m = suc b} (omega arith))) in
    record { is = IsGcd-from_mod a (suc b) (gcd_within steps (suc b) (a % suc b)) r.is; multiples = λ c x h k. r.multiples c x k (rest_divides a (suc b) c x h k) }

pub gcd_of_is : (a b : ℕ) → IsGcd a b (gcd_of a b)
gcd_of_is a b = (euclid b a b (le_refl b)).is

pub gcd_is : (a b : ℕ) → (g : ℕ) × IsGcd a b g
gcd_is a b = (gcd_of a b, gcd_of_is a b)

pub gcd_mul : (a b g c x : ℕ) → IsGcd a b g → c ∣ a * x → c ∣ b * x → c ∣ g * x
gcd_mul a b g c x is h k =
    let e = euclid b a b (le_refl b) in
    subst (λ t. c ∣ t * x) (same_from_IsGcd a b (gcd_of a b) g e.is is) (e.multiples c x h k)

is_one : (a b : ℕ) → AreCoprime a b → IsGcd a b 1
is_one a b c = let e = gcd_is a b in subst (IsGcd a b) (c e.0 e.1.0 e.1.1) e.1

pub gauss : (n a b : ℕ) → AreCoprime n a → n ∣ a * b → n ∣ b
gauss n a b c h = subst (λ t. n ∣ t) (one-mul b) (gcd_mul n a 1 n b (is_one n a c) (dvd-mul_right n b) h)

pub gcd_positive : (a b g : ℕ) → IsGcd a b g → 0 < a + b → 0 < g
gcd_positive a b zero is h =
    let x : a ≡ 0 = zero-dvd.0 is.0 in
    let y : b ≡ 0 = zero-dvd.0 is.1 in
    omega arith
gcd_positive a b (suc g) is h = omega arith

exact : (g n : ℕ) → g ∣ n → g * (n / g) ≡ n
exact g n h = let m = mod-eq-zero_of_dvd g h in let e = div-add-mod n g in omega (arith, m, e)

pub gcd_quotients : (a b g : ℕ) → IsGcd a b g → 0 < g → AreCoprime (a / g) (b / g)
gcd_quotients a b g is p d h k =
    let left = subst (λ t. g * d ∣ t) (exact g a is.0) (mul-dvd-mul_left d g h) in
    let right = subst (λ t. g * d ∣ t) (exact g b is.1) (mul-dvd-mul_left d g k) in
    let both = subst (λ t. g * d ∣ t) (sym (mul-one g)) (is.2 (g * d) left right) in
    eq-one_of_dvd-one (dvd_of_mul-dvd-mul_left d p both)

rem_size : (a b : ℤ) → unsigned_abs (int_rem a b) ≡ unsigned_abs a % unsigned_abs b
rem_size (pos a) b = refl
rem_size (negsuc a) b = omega (arith, ints)

quotient_size : (a g : ℤ) → unsigned_abs (int_div a g) ≡ unsigned_abs a / unsigned_abs g
quotient_size (pos a) (pos g) = refl
quotient_size (pos a) (negsuc g) = omega (arith, ints)
quotient_size (negsuc a) (pos g) = omega (arith, ints)
quotient_size (negsuc a) (negsuc g) = refl

pub exact_quotient : (x g : ℤ) → unsigned_abs g ∣ unsigned_abs x → x ≡ g *ℤ int_div x g
exact_quotient x g h =
    settle (int_div x g) g (int_rem x g) x (quot-rem x g) (rem_size x g ∙ mod-eq-zero_of_dvd (unsigned_abs g) h)
  where
    settle : (q d r x : ℤ) → q *ℤ d +ℤ r ≡ x → unsigned_abs r ≡ 0 → x ≡ d *ℤ q
    settle q d r x e z = omega (arith, ints)

pub gcd_zero : (a b : ℤ) → b ≡ pos 0 → IsGcdOf a b (pos (unsigned_abs a))
gcd_zero a b e = record { nonneg = omega (arith, ints); is = IsGcd-from_zero (unsigned_abs a) (unsigned_abs b) (ap unsigned_abs e) }

pub gcd_step : (a b r g : ℤ) → r ≡ int_rem a b → IsGcdOf b r g → IsGcdOf a b g
gcd_step a b r g e h =
    record { nonneg = h.nonneg; is = IsGcd-from_mod (unsigned_abs a) (unsigned_abs b) (unsigned_abs g) (subst (λ t. IsGcd (unsigned_abs b) t (unsigned_abs g)) (ap unsigned_abs e ∙ rem_size a b) h.is) }

same_size : (x y : ℤ) → pos 0 ≤ℤ x → pos 0 ≤ℤ y → unsigned_abs x ≡ unsigned_abs y → x ≡ y
same_size x y p q e = omega (arith, ints)

pub gcd_unique : (a b g h : ℤ) → IsGcdOf a b g → IsGcdOf a b h → g ≡ h
gcd_unique a b g h p q = same_size g h p.nonneg q.nonneg (same_from_IsGcd (unsigned_abs a) (unsigned_abs b) (unsigned_abs g) (unsigned_abs h) p.is q.is)

pub divides_gcd : (a b g : ℤ) (d : ℕ) → IsGcdOf a b g → (d ∣ unsigned_abs g) ↔ (d ∣ unsigned_abs a) × (d ∣ unsigned_abs b)
divides_gcd a b g d h = (λ k. (dvd_trans d k h.is.0, dvd_trans d k h.is.1), λ k. h.is.2 d k.0 k.1)

pub reduces_by_gcd : (x y g : ℤ) → IsGcdOf x y g → 0 < unsigned_abs x + unsigned_abs y → Reduces x y (int_div x g) (int_div y g)
reduces_by_gcd x y g h s =
    let some = gcd_positive (unsigned_abs x) (unsigned_abs y) (unsigned_abs g) h.is s in
    let low = h.nonneg in
    record {
      k = g;
      positive = omega (arith, ints);
      x_is = exact_quotient x g h.is.0;
      y_is = exact_quotient y g h.is.1;
      primitive = subst₂ AreCoprime (sym (quotient_size x g)) (sym (quotient_size y g)) (gcd_quotients (unsigned_abs x) (unsigned_abs y) (unsigned_abs g) h.is some);
    }

-- the multiplier of one reduction divides that of another
divides_other : (x y p q r s k m : ℤ) → x ≡ k *ℤ p → y ≡ k *ℤ q → x ≡ m *ℤ r → y ≡ m *ℤ s → IsPrimitive r s → unsigned_abs k ∣ unsigned_abs m
divides_other x y p q r s k m xk yk xm ym c =
    subst (λ t. unsigned_abs k ∣ t) (one-mul (unsigned_abs m))
    (gcd_mul (unsigned_abs r) (unsigned_abs s) 1 (unsigned_abs k) (unsigned_abs m) (is_one (unsigned_abs r) (unsigned_abs s) c) (part x p r xk xm) (part y q s yk ym))
  where
    part : (x p r : ℤ) → x ≡ k *ℤ p → x ≡ m *ℤ r → unsigned_abs k ∣ unsigned_abs r * unsigned_abs m
    part x p r e f = subst (λ t. unsigned_abs k ∣ t) (sym (unsigned_abs-mul k p) ∙ ap unsigned_abs (sym e ∙ f ∙ Ring.mul_comm m r) ∙ unsigned_abs-mul r m) (dvd-mul_right (unsigned_abs k) (unsigned_abs p))

pub reduced_unique : (x y p q r s : ℤ) → Reduces x y p q → Reduces x y r s → (p ≡ r) × (q ≡ s)
reduced_unique x y p q r s h g =
    let same : h.k ≡ g.k = same_size h.k g.k (omega (arith, ints, h.positive)) (omega (arith, ints, g.positive))
    (dvd_antisymm (divides_other x y p q r s h.k g.k h.x_is h.y_is g.x_is g.y_is g.primitive) (divides_other x y r s p q g.k h.k g.x_is g.y_is h.x_is h.y_is h.primitive)) in
    (cancel_same h.k h.positive (sym h.x_is ∙ g.x_is ∙ ap (λ t. t *ℤ r) (sym same)), cancel_same h.k h.positive (sym h.y_is ∙ g.y_is ∙ ap (λ t. t *ℤ s) (sym same)))
