-- The divisor with the sign of the new denominator.
use Rattle.std.proofs.Common.{◌≡◌, ◌↔◌, List, ap, sym, subst, arith, ℤ, pos, neg_ℤ, ◌*ℤ◌, ◌≤ℤ◌, ◌<ℤ◌, unsigned_abs, int_div, All}
use Rattle.std.proofs.lemmas.Int.{ints, by_lt_z}
use Rattle.std.proofs.Math.Nat.{zero-dvd}
use Rattle.std.specs.Int.{◌∣◌}
use Rattle.integer_laws.specs.Laws.Divisors.{exact_quotient}
use Rattle.integer_laws.specs.Laws.Order.{cancel_lt}
use Rattle.integer_laws.specs.Laws.Ring.{expand}
use Rattle.row_laws.specs.Laws.Kernel.{cancel_factor}
use Rattle.row_pivots.specs.Laws.Turned.{divides_self}
use Rattle.row_pivots.specs.Turns.{IsContent}
use Rattle.row_dictionary.specs.Tables.{AreCommon}
use Rattle.row_dictionary.specs.Turns.{IsDivisor}

signed_quotient : (D g q : ℤ) → D ≡ g *ℤ q → (D ≡ pos 0 → ⊥) → (pos 0 <ℤ D → pos 0 ≤ℤ g) → (D <ℤ pos 0 → g ≤ℤ pos 0) → (g ≡ pos 0 → ⊥) → pos 1 ≤ℤ q
signed_quotient D g q e n above below some = by_lt_z (pos 0) D up (λ k. by_lt_z D (pos 0) down (λ h. absurd (n (omega (arith, ints, k, h)))))
  where
    positive : (x : ℤ) → pos 0 ≤ℤ x → (x ≡ pos 0 → ⊥) → pos 0 <ℤ x
    positive x h m = by_lt_z (pos 0) x (λ k. k) (λ k. absurd (m (omega (arith, ints, h, k))))

    negative : (x : ℤ) → x ≤ℤ pos 0 → (x ≡ pos 0 → ⊥) → pos 0 <ℤ neg_ℤ x
    negative x h m = by_lt_z x (pos 0) (λ k. omega (arith, ints, k)) (λ k. absurd (m (omega (arith, ints, h, k))))

    up : pos 0 <ℤ D → pos 1 ≤ℤ q
    up p =
        let z : g *ℤ pos 0 ≡ pos 0 = simp expand in
        let h : pos 0 <ℤ q = cancel_lt g (positive g (above p) some) (omega (arith, ints, p, e, z)) in
        omega (arith, ints, h)

    down : D <ℤ pos 0 → pos 1 ≤ℤ q
    down p =
        let z : neg_ℤ g *ℤ pos 0 ≡ pos 0 = simp expand in
        let m : neg_ℤ g *ℤ q ≡ neg_ℤ (g *ℤ q) = simp expand in
        let h : pos 0 <ℤ q = cancel_lt (neg_ℤ g) (negative g (below p) some) (omega (arith, ints, p, e, z, m)) in
        omega (arith, ints, h)

pub divided_by : (D : ℤ) (N : List (List ℤ)) (found g : ℤ) → (D ≡ pos 0 → ⊥) → AreCommon D N found → unsigned_abs g ≡ unsigned_abs found → (pos 0 <ℤ D → pos 0 ≤ℤ g) → (D <ℤ pos 0 → g ≤ℤ pos 0)
    → IsDivisor D N g
divided_by D N found g n common size above below = record { some = some; content = content; sign = signed_quotient D g (int_div D g) (exact_quotient D g divides) n above below some }
  where
    content : IsContent g D N
    content k = subst (λ t. (k ∣ t) ↔ ((k ∣ unsigned_abs D) × All (λ l. All (λ x. k ∣ unsigned_abs x) l) N)) (sym size) (common k)

    divides : unsigned_abs g ∣ unsigned_abs D
    divides = ((content (unsigned_abs g)).0 (divides_self (unsigned_abs g))).0

    zero_size : (D : ℤ) → unsigned_abs D ≡ 0 → D ≡ pos 0
    zero_size D e = omega (arith, ints, e)

    some : g ≡ pos 0 → ⊥
    some e =
        let h : 0 ∣ unsigned_abs D = subst (λ t. t ∣ unsigned_abs D) (ap unsigned_abs e) divides in
        n (zero_size D (zero-dvd.0 h))

pub product_some : (d p : ℤ) → pos 1 ≤ℤ d → (p ≡ pos 0 → ⊥) → d *ℤ p ≡ pos 0 → ⊥
product_some d p h n e = n (cancel_factor d p (λ z. absurd (omega (arith, ints, h, z))) e)
