-- Each height of a mesh lies in one of its bands.
use Rattle.std.proofs.Common.{◌≡◌, ℕ, suc, ◌<◌, ◌≤◌, max, ℤ, pos, negsuc, ◌+ℤ◌, ◌*ℤ◌, ◌≤ℤ◌, ◌<ℤ◌, unsigned_abs, subst, zero, arith, ⊎_elim}
use Rattle.std.proofs.lemmas.Bool.{cases_lt}
use Rattle.std.proofs.lemmas.Int.{ints}
use Rattle.integer_laws.specs.Laws.Order.{mul_le}
use Rattle.integer_laws.specs.Laws.Ring.{mul-zero, expand}
use Rattle.integer_laws.specs.Quotients.{floor, ceil}
use Rattle.integer_laws.specs.Laws.Quotients.{floor_is, ceil_is, least_quotient}

-- t, measured from the least z, lies in this band, which is one of so many
pub record InBand (step t : ℤ) (count : ℕ) : Type 0 where
  pub band : ℕ
  pub below_count : band < count
  pub from : (step *ℤ pos band) ≤ℤ t
  pub to : t ≤ℤ (step *ℤ pos band +ℤ step)

-- the band of the quotient q, or the last one where q is past it
by_quotient : (step t : ℤ) (q c m : ℕ) → c ≤ suc m → pos 0 <ℤ step → (step *ℤ pos q) ≤ℤ t → t <ℤ (step *ℤ pos q +ℤ step) → t ≤ℤ (step *ℤ pos c) → InBand step t (suc m)
by_quotient step t q c m few p from to top =
    ⊎_elim
    (λ below. record { band = q; below_count = below; from = from; to = omega (arith, ints, to) })
    (λ past.
    let down = mul_le step {a = pos m} {b = pos q} (omega (arith, ints, p)) (omega (arith, ints, past)) in
    let up = mul_le step {a = pos c} {b = pos m +ℤ pos 1} (omega (arith, ints, p)) (omega (arith, ints, few)) in
    let split : step *ℤ (pos m +ℤ pos 1) ≡ step *ℤ pos m +ℤ step = simp expand (omega (arith, ints)) in
    record { band = m; below_count = omega arith; from = omega (arith, ints, down, from); to = omega (arith, ints, up, split, top) })
    (cases_lt q (suc m))

nonneg_quotient : (step a q : ℤ) → pos 0 <ℤ step → pos 0 ≤ℤ a → a <ℤ (step *ℤ q +ℤ step) → pos 0 ≤ℤ q
nonneg_quotient step a q p h k = least_quotient step (pos 0) q p (omega (arith, ints, mul-zero step, h, k))

with_numbers : (step t top q c : ℤ) → pos 0 <ℤ step → pos 0 ≤ℤ q → pos 0 ≤ℤ c → (step *ℤ q) ≤ℤ t → t <ℤ (step *ℤ q +ℤ step) → t ≤ℤ (step *ℤ c) → InBand step t (max 1 (unsigned_abs c))
with_numbers step t top (negsuc q) c p hq hc from to over = absurd (omega (arith, ints, hq))
with_numbers step t top (pos q) (negsuc c) p hq hc from to over = absurd (omega (arith, ints, hc))
with_numbers step t top (pos q) (pos c) p hq hc from to over =
    ⊎_elim
    (λ none. subst (InBand step t) (omega (arith, none)) (by_quotient step t q c 0 (omega (arith, none)) p from to over))
    (λ some. from_some c some over)
    (cases_lt c 1)
  where
    from_some : (k : ℕ) → 1 ≤ k → t ≤ℤ (step *ℤ pos k) → InBand step t (max 1 k)
    from_some zero some over = absurd (omega (arith, some))
    from_some (suc m) some over = subst (InBand step t) (omega arith) (by_quotient step t q (suc m) m (omega arith) p from to over)

pub band_of : (step t top : ℤ) → pos 0 <ℤ step → pos 0 ≤ℤ t → t ≤ℤ top → InBand step t (max 1 (unsigned_abs (ceil top step)))
band_of step t top p low high =
    let f = floor_is t step p in
    let g = ceil_is top step p in
    let q = nonneg_quotient step t (floor t step) p low f.high in
    let c = nonneg_quotient step top (ceil top step) p (omega (arith, ints, low, high)) (omega (arith, ints, g.high, p)) in
    with_numbers step t top (floor t step) (ceil top step) p q c f.low f.high (omega (arith, ints, high, g.high))
