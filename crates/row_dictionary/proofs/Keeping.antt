-- Numbers that stay as they are, and lines whose numbers are all multiples of a factor.
use Rattle.std.proofs.Common.{◌≡◌, ℕ, ◌<◌, List, length, get_or, refl, ap, sym, subst, ◌∙◌, arith, ℤ, pos, ◌+ℤ◌, ◌-ℤ◌, ◌*ℤ◌, ◌<ℤ◌, Bool, true, false, unsigned_abs, int_div, int_rem}
use Rattle.std.proofs.lemmas.Bool.Decides.{nat_tests}
use Rattle.std.proofs.lemmas.Int.{ints, unsigned_abs-mul, quot-rem}
use Rattle.std.proofs.lemmas.Nat.Gcd.{dvd_trans}
use Rattle.std.proofs.Math.Nat.{dvd-mul_right}
use Rattle.std.specs.Int.{◌∣◌}
use Rattle.std.specs.Prelude.{nat_eq, if◌then◌else◌}
use Rattle.integer_laws.specs.Divisors.{IsGcdOf}
use Rattle.integer_laws.specs.Laws.Divisors.{exact_quotient}
use Rattle.integer_laws.specs.Laws.Ring.{expand}
use Rattle.row_dictionary.specs.Mixing.{mixed, mixed_numbers, IsCommon}
use Rattle.row_dictionary.specs.declared.number.Mix.{Mix}
use Rattle.row_dictionary.proofs.Numbers.{number_is, long_numbers}
use Rattle.row_dictionary.proofs.Seats.{divisor_is}
use Rattle.row_dictionary.proofs.Skipping.{nonzero, times_quotient}

is_here : (i k : ℕ) → nat_eq i k ≡ true → i ≡ k
is_here i k e = grind (arith, nat_tests)

-- what leaves has no number there
alone : (m : Mix) (j : ℕ) (z y g : ℤ) → y ≡ pos 0 → m.p ≡ g → (j ≡ m.place → ⊥) → mixed m j z y ≡ g *ℤ z
alone m j z y g e p n = by (nat_eq j m.place) refl
  where
    by : (b : Bool) → nat_eq j m.place ≡ b → (if b then m.d *ℤ m.q else m.p *ℤ z -ℤ m.q *ℤ y) ≡ g *ℤ z
    by true s = absurd (n (is_here j m.place s))
    by false s = plain m.p m.q g z y e p
      where
        plain : (p q g z y : ℤ) → y ≡ pos 0 → p ≡ g → p *ℤ z -ℤ q *ℤ y ≡ g *ℤ z
        plain p q g z y e f = rw (e, f) (left g z q)
          where
            left : (g z q : ℤ) → g *ℤ z -ℤ q *ℤ pos 0 ≡ g *ℤ z
            left g z q = simp expand (omega (arith, ints))

pub kept_number : (m : Mix) (j : ℕ) (z y : ℤ) → y ≡ pos 0 → m.p ≡ m.g → (j ≡ m.place → ⊥) → 0 < unsigned_abs m.g → int_div (mixed m j z y) m.g ≡ z
kept_number m j z y e p n g = ap (λ t. int_div t m.g) (alone m j z y m.g e p n) ∙ times_quotient m.g z (nonzero m.g g)

rem_of_multiple : (g z : ℤ) → (g ≡ pos 0 → ⊥) → int_rem (g *ℤ z) g ≡ pos 0
rem_of_multiple g z n = nothing (int_div (g *ℤ z) g) z g (int_rem (g *ℤ z) g) (times_quotient g z n) (quot-rem (g *ℤ z) g)
  where
    nothing : (q z g r : ℤ) → q ≡ z → q *ℤ g +ℤ r ≡ g *ℤ z → r ≡ pos 0
    nothing q z g r e h = left z g r (subst (λ t. t *ℤ g +ℤ r ≡ g *ℤ z) e h)
      where
        left : (z g r : ℤ) → z *ℤ g +ℤ r ≡ g *ℤ z → r ≡ pos 0
        left z g r h = let k : z *ℤ g ≡ g *ℤ z = simp expand in omega (arith, ints, h, k)

pub multiple_number : (m : Mix) (j : ℕ) (z y found : ℤ) → y ≡ pos 0 → m.p ≡ found → (j ≡ m.place → ⊥) → pos 0 <ℤ found → IsGcdOf found (mixed m j z y) found
multiple_number m j z y found e p n h =
    divisor_is found (mixed m j z y) h (ap (λ t. int_rem t found) (alone m j z y found e p n) ∙ rem_of_multiple found z (λ k. absurd (omega (arith, ints, h, k))))

-- neither line has a number there
pub nothing_number : (m : Mix) (j : ℕ) (z y found : ℤ) → y ≡ pos 0 → z ≡ pos 0 → (j ≡ m.place → ⊥) → pos 0 <ℤ found → IsGcdOf found (mixed m j z y) found
nothing_number m j z y found e f n h =
    divisor_is found (mixed m j z y) h (ap (λ t. int_rem t found) (none (nat_eq j m.place) refl) ∙ rem_of_multiple found (pos 0) (λ k. absurd (omega (arith, ints, h, k))))
  where
    none : (b : Bool) → nat_eq j m.place ≡ b → (if b then m.d *ℤ m.q else m.p *ℤ z -ℤ m.q *ℤ y) ≡ found *ℤ pos 0
    none true s = absurd (n (is_here j m.place s))
    none false s = plain m.p m.q found z y e f
      where
        plain : (p q g z y : ℤ) → y ≡ pos 0 → z ≡ pos 0 → p *ℤ z -ℤ q *ℤ y ≡ g *ℤ pos 0
        plain p q g z y e f = rw (e, f) (left p q g)
          where
            left : (p q g : ℤ) → p *ℤ pos 0 -ℤ q *ℤ pos 0 ≡ g *ℤ pos 0
            left p q g = simp expand (omega (arith, ints))

times : (g x : ℤ) → unsigned_abs g ∣ unsigned_abs (g *ℤ x)
times g x = subst (λ t. unsigned_abs g ∣ t) (sym (unsigned_abs-mul g x)) (dvd-mul_right (unsigned_abs g) (unsigned_abs x))

-- it divides what both lines are multiplied by
each_multiple : (m : Mix) (j : ℕ) (z y found : ℤ) → unsigned_abs found ∣ unsigned_abs m.q → unsigned_abs found ∣ unsigned_abs m.p → unsigned_abs found ∣ unsigned_abs (mixed m j z y)
each_multiple m j z y found q p = by (nat_eq j m.place)
  where
    q_is : m.q ≡ found *ℤ int_div m.q found
    q_is = exact_quotient m.q found q

    p_is : m.p ≡ found *ℤ int_div m.p found
    p_is = exact_quotient m.p found p

    corner : (d q g t : ℤ) → q ≡ g *ℤ t → d *ℤ q ≡ g *ℤ (d *ℤ t)
    corner d q g t e = rw e (moved d g t)
      where
        moved : (d g t : ℤ) → d *ℤ (g *ℤ t) ≡ g *ℤ (d *ℤ t)
        moved d g t = simp expand

    plain : (p q g z y s t : ℤ) → p ≡ g *ℤ s → q ≡ g *ℤ t → p *ℤ z -ℤ q *ℤ y ≡ g *ℤ (s *ℤ z -ℤ t *ℤ y)
    plain p q g z y s t e f = rw (e, f) (moved g z y s t)
      where
        moved : (g z y s t : ℤ) → (g *ℤ s) *ℤ z -ℤ (g *ℤ t) *ℤ y ≡ g *ℤ (s *ℤ z -ℤ t *ℤ y)
        moved g z y s t = simp expand (omega (arith, ints))

    by : (b : Bool) → unsigned_abs found ∣ unsigned_abs (if b then m.d *ℤ m.q else m.p *ℤ z -ℤ m.q *ℤ y)
    by true = subst (λ (t : ℤ). unsigned_abs found ∣ unsigned_abs t) (sym (corner m.d m.q found (int_div m.q found) q_is)) (times found (m.d *ℤ int_div m.q found))
    by false = subst (λ (t : ℤ). unsigned_abs found ∣ unsigned_abs t) (sym (plain m.p m.q found z y (int_div m.p found) (int_div m.q found) p_is q_is)) (times found (int_div m.p found *ℤ z -ℤ int_div m.q found *ℤ y))

pub multiples_common : (m : Mix) (zs ys : List ℤ) (found : ℤ) → length zs ≡ length ys → unsigned_abs found ∣ unsigned_abs m.q → unsigned_abs found ∣ unsigned_abs m.p → IsCommon found (mixed_numbers m zs ys) found
multiples_common m zs ys found l q p k = (λ h. (h, λ i d b. subst (λ (t : ℤ). k ∣ unsigned_abs t) (number_is m zs ys i d l (let n = long_numbers m zs ys l in omega (arith, n, b))) (dvd_trans k h (each_multiple m i (get_or zs i (pos 0)) (get_or ys i (pos 0)) found q p))), λ h. h.0)
