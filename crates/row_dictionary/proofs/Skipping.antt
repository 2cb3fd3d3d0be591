-- A line that has no entry at what enters stays, where it is multiplied by the divisor and divided by it.
use Rattle.std.proofs.Common.{◌≡◌, ℕ, ◌<◌, ◌≤◌, List, length, get_or, refl, ap, sym, subst, ◌∙◌, arith, ℤ, pos, ◌-ℤ◌, ◌*ℤ◌, ◌⊎◌, inl, inr, Bool, true, false, unsigned_abs, int_div}
use Rattle.std.proofs.lemmas.Bool.{cases_lt}
use Rattle.std.proofs.lemmas.Bool.Decides.{nat_tests}
use Rattle.std.proofs.lemmas.Int.{ints, unsigned_abs-mul}
use Rattle.std.proofs.Math.Nat.{dvd-mul_right}
use Rattle.std.specs.Int.{◌∣◌}
use Rattle.std.specs.Prelude.{nat_eq, if◌then◌else◌}
use Rattle.integer_laws.specs.Laws.Divisors.{exact_quotient}
use Rattle.integer_laws.specs.Laws.Order.{same_from}
use Rattle.integer_laws.specs.Laws.Ring.{expand}
use Rattle.row_laws.specs.Laws.Independence.{past_the_end}
use Rattle.row_laws.specs.Laws.Kernel.{cancel_factor}
use Rattle.row_laws.specs.Laws.OneForm.{list_same}
use Rattle.row_dictionary.specs.Mixing.{mixed}
use Rattle.row_dictionary.specs.Tables.{mix_of, step_line}
use Rattle.row_dictionary.specs.declared.number.Mix.{Mix}
use Rattle.row_dictionary.specs.declared.table.Step.{Step}
use Rattle.row_dictionary.proofs.Numbers.{quotient_is, long_line}

pub times_quotient : (g z : ℤ) → (g ≡ pos 0 → ⊥) → int_div (g *ℤ z) g ≡ z
times_quotient g z n = differ (cancel_factor g (int_div (g *ℤ z) g -ℤ z) n (spread g z _ (exact_quotient (g *ℤ z) g divides)))
  where
    divides : unsigned_abs g ∣ unsigned_abs (g *ℤ z)
    divides = subst (λ t. unsigned_abs g ∣ t) (sym (unsigned_abs-mul g z)) (dvd-mul_right (unsigned_abs g) (unsigned_abs z))

    spread : (g z q : ℤ) → g *ℤ z ≡ g *ℤ q → g *ℤ (q -ℤ z) ≡ pos 0
    spread g z q e = same_from (sym e) (simp expand (omega (arith, ints)))

    differ : {a b : ℤ} → a -ℤ b ≡ pos 0 → a ≡ b
    differ h = omega (arith, ints)

is_here : (i k : ℕ) → nat_eq i k ≡ true → i ≡ k
is_here i k e = grind (arith, nat_tests)

pub nonzero : (g : ℤ) → 0 < unsigned_abs g → g ≡ pos 0 → ⊥
nonzero g h e = absurd (omega (arith, ints, h, ap unsigned_abs e))

one_number : (m : Mix) (j : ℕ) (z y : ℤ) → m.q ≡ pos 0 → m.p ≡ m.g → 0 < unsigned_abs m.g → (j ≡ m.place → z ≡ pos 0) → int_div (mixed m j z y) m.g ≡ z
one_number m j z y q p g at = by (nat_eq j m.place) refl
  where
    by : (b : Bool) → nat_eq j m.place ≡ b → int_div (if b then m.d *ℤ m.q else m.p *ℤ z -ℤ m.q *ℤ y) m.g ≡ z
    by true e = ap (λ t. int_div t m.g) (nothing m.d m.q z m.g q (at (is_here j m.place e))) ∙ times_quotient m.g z (nonzero m.g g)
      where
        nothing : (d q z g : ℤ) → q ≡ pos 0 → z ≡ pos 0 → d *ℤ q ≡ g *ℤ z
        nothing d q z g e f = rw (e, f) (zeros d g)
          where
            zeros : (d g : ℤ) → d *ℤ pos 0 ≡ g *ℤ pos 0
            zeros d g = simp expand
    by false e = ap (λ t. int_div t m.g) (plain m.p m.q m.g z y q p) ∙ times_quotient m.g z (nonzero m.g g)
      where
        plain : (p q g z y : ℤ) → q ≡ pos 0 → p ≡ g → p *ℤ z -ℤ q *ℤ y ≡ g *ℤ z
        plain p q g z y e f = rw (e, f) (left g z y)
          where
            left : (g z y : ℤ) → g *ℤ z -ℤ pos 0 *ℤ y ≡ g *ℤ z
            left g z y = simp expand (omega (arith, ints))

pub skipped : (s : Step) (ys zs : List ℤ) → length zs ≡ length ys → get_or zs s.place (pos 0) ≡ pos 0 → s.p ≡ s.g → 0 < unsigned_abs s.g → zs ≡ step_line s ys zs
skipped s ys zs l q p g = list_same zs (step_line s ys zs) (sym (long_line m zs ys l)) each
  where
    m : Mix
    m = mix_of s zs

    each : (j : ℕ) → get_or zs j (pos 0) ≡ get_or (step_line s ys zs) j (pos 0)
    each j = by (cases_lt j (length zs))
      where
        by : (j < length zs) ⊎ (length zs ≤ j) → get_or zs j (pos 0) ≡ get_or (step_line s ys zs) j (pos 0)
        by (inr h) = past_the_end zs j h ∙ sym (past_the_end (step_line s ys zs) j (let k = long_line m zs ys l in omega (arith, k, h)))
        by (inl h) = sym (one_number m j (get_or zs j (pos 0)) (get_or ys j (pos 0)) q p g (λ e. ap (λ t. get_or zs t (pos 0)) e ∙ q)) ∙ quotient_is m zs ys j (pos 0) l h
