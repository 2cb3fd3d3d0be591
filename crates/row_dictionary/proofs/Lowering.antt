-- A line that is divided by what divides both of its factors comes without a division.
use Rattle.std.proofs.Common.{◌≡◌, ℕ, ◌<◌, ◌≤◌, List, length, get_or, refl, ap, sym, ◌∙◌, arith, ℤ, pos, ◌-ℤ◌, ◌*ℤ◌, ◌⊎◌, inl, inr, Bool, true, false, unsigned_abs, int_div}
use Rattle.std.proofs.lemmas.Bool.{cases_lt}
use Rattle.std.proofs.lemmas.Int.{ints}
use Rattle.std.specs.Int.{◌∣◌}
use Rattle.std.specs.Prelude.{nat_eq, if◌then◌else◌}
use Rattle.integer_laws.specs.Laws.Divisors.{exact_quotient}
use Rattle.integer_laws.specs.Laws.Ring.{expand}
use Rattle.row_laws.specs.Laws.Independence.{past_the_end}
use Rattle.row_laws.specs.Laws.OneForm.{list_same}
use Rattle.row_pivots.specs.Ends.{Small}
use Rattle.row_dictionary.specs.Mixing.{mixed, mixed_line, IsLowered}
use Rattle.row_dictionary.specs.declared.number.Mix.{Mix}
use Rattle.row_dictionary.proofs.Numbers.{quotient_is, long_line}
use Rattle.row_dictionary.proofs.Skipping.{nonzero, times_quotient}

abbrev pub low_of : Mix → Mix
low_of m = record { d = m.d; p = int_div m.p m.g; q = int_div m.q m.g; g = pos 1; place = m.place }

pub by_one : (x : ℤ) → int_div x (pos 1) ≡ x
by_one x = ap (λ t. int_div t (pos 1)) (once x) ∙ times_quotient (pos 1) x (λ e. absurd (omega (arith, ints, e)))
  where
    once : (x : ℤ) → x ≡ pos 1 *ℤ x
    once x = simp expand

lower_number : (m : Mix) (j : ℕ) (z y : ℤ) → 0 < unsigned_abs m.g → unsigned_abs m.g ∣ unsigned_abs m.p → unsigned_abs m.g ∣ unsigned_abs m.q → int_div (mixed (low_of m) j z y) (pos 1) ≡ int_div (mixed m j z y) m.g
lower_number m j z y g p q = by_one (mixed (low_of m) j z y) ∙ sym (ap (λ t. int_div t m.g) (by (nat_eq j m.place)) ∙ times_quotient m.g (mixed (low_of m) j z y) (nonzero m.g g))
  where
    corner : (d q g t : ℤ) → q ≡ g *ℤ t → d *ℤ q ≡ g *ℤ (d *ℤ t)
    corner d q g t e = rw e (moved d g t)
      where
        moved : (d g t : ℤ) → d *ℤ (g *ℤ t) ≡ g *ℤ (d *ℤ t)
        moved d g t = simp expand

    plain : (p q g z y s t : ℤ) → p ≡ g *ℤ s → q ≡ g *ℤ t → p *ℤ z -ℤ q *ℤ y ≡ g *ℤ (s *ℤ z -ℤ t *ℤ y)
    plain p q g z y s t e f = rw (e, f) (moved g z y s t)
      where
        moved : (g z y s t : ℤ) → (g *ℤ s) *ℤ z -ℤ (g *ℤ t) *ℤ y ≡ g *ℤ (s *ℤ z -ℤ t *ℤ y)
        moved g z y s t = simp expand (omega (arith, ints))

    by : (b : Bool) → (if b then m.d *ℤ m.q else m.p *ℤ z -ℤ m.q *ℤ y) ≡ m.g *ℤ (if b then m.d *ℤ int_div m.q m.g else int_div m.p m.g *ℤ z -ℤ int_div m.q m.g *ℤ y)
    by true = corner m.d m.q m.g (int_div m.q m.g) (exact_quotient m.q m.g q)
    by false = plain m.p m.q m.g z y (int_div m.p m.g) (int_div m.q m.g) (exact_quotient m.p m.g p) (exact_quotient m.q m.g q)

pub lower_line : (m : Mix) (zs ys : List ℤ) → 0 < unsigned_abs m.g → unsigned_abs m.g ∣ unsigned_abs m.p → unsigned_abs m.g ∣ unsigned_abs m.q → length zs ≡ length ys → mixed_line (low_of m) zs ys ≡ mixed_line m zs ys
lower_line m zs ys g p q l = list_same (mixed_line (low_of m) zs ys) (mixed_line m zs ys) (long_line (low_of m) zs ys l ∙ sym (long_line m zs ys l)) each
  where
    each : (j : ℕ) → get_or (mixed_line (low_of m) zs ys) j (pos 0) ≡ get_or (mixed_line m zs ys) j (pos 0)
    each j = by (cases_lt j (length zs))
      where
        by : (j < length zs) ⊎ (length zs ≤ j) → get_or (mixed_line (low_of m) zs ys) j (pos 0) ≡ get_or (mixed_line m zs ys) j (pos 0)
        by (inr h) = past_the_end (mixed_line (low_of m) zs ys) j (let k = long_line (low_of m) zs ys l in omega (arith, k, h)) ∙ sym (past_the_end (mixed_line m zs ys) j (let k = long_line m zs ys l in omega (arith, k, h)))
        by (inl h) = sym (quotient_is (low_of m) zs ys j (pos 0) l h) ∙ lower_number m j (get_or zs j (pos 0)) (get_or ys j (pos 0)) g p q ∙ quotient_is m zs ys j (pos 0) l h

pub lowered_is : (m : Mix) (d p q : ℤ) → d ≡ m.d → p ≡ int_div m.p m.g → q ≡ int_div m.q m.g → Small p → Small q → 0 < unsigned_abs m.g → unsigned_abs m.g ∣ unsigned_abs m.q → unsigned_abs m.g ∣ unsigned_abs m.p
    → IsLowered m (record { d = d; p = p; q = q; g = pos 1; place = m.place })
lowered_is m d p q ed ep eq sp sq g fq fp = record {
  d = ed;
  place = refl;
  p = sp;
  q = sq;
  some = omega arith;
  same = λ zs ys l. ap (λ (low : Mix). mixed_line low zs ys) same_mix ∙ lower_line m zs ys g fp fq l;
}
  where
    same_mix : record { d = d; p = p; q = q; g = pos 1; place = m.place } ≡ low_of m
    same_mix = rw (ed, ep, eq) refl
