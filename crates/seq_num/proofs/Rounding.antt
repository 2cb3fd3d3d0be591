-- The quotients lie between their bounds.
use Rattle.std.proofs.Common.{ℕ, ℤ, pos, negsuc, ◌≡◌, ◌≤ℤ◌, ◌<ℤ◌, neg_ℤ, unsigned_abs, arith, sym, ap₂, ◌∙◌, subst}
use Rattle.std.proofs.lemmas.Int.{ints}
use Rattle.integer_laws.specs.Quotients.{floor, ceil, IsFloor, IsCeil}
use Rattle.integer_laws.specs.Laws.Quotients.{floor_is, ceil_is}
use Rattle.integer_laws.specs.Laws.Ring.{neg-neg}
use Rattle.seq_num.specs.Nearest.{IsNearest, half_up}
use Rattle.seq_num.specs.Laws.Nearest.{half_up_is, nearest_half, IsNearest-neg}

pub floor_rounds : (a d : ℤ) → pos 1 ≤ℤ d → IsFloor a d (floor a d)
floor_rounds a d h = floor_is a d (omega (arith, ints))

pub ceil_rounds : (a d : ℤ) → pos 1 ≤ℤ d → IsCeil a d (ceil a d)
ceil_rounds a d h = ceil_is a d (omega (arith, ints))

-- the nearest whole number from that of the sizes
pub nearest_above : (a d : ℤ) (m n u : ℕ) → pos 1 ≤ℤ d → pos 0 ≤ℤ a → m ≡ unsigned_abs a → n ≡ unsigned_abs d → u ≡ half_up m n → IsNearest a d (pos u)
nearest_above (pos a) (pos d) m n u p q x y e = subst (λ v. IsNearest (pos a) (pos d) (pos v)) (sym (e ∙ ap₂ half_up x y)) (nearest_half a d (half_up a d) (omega (arith, ints)) (half_up_is a d (omega (arith, ints))))
nearest_above (negsuc a) d m n u p q x y e = absurd (omega (arith, ints))
nearest_above (pos a) (negsuc d) m n u p q x y e = absurd (omega (arith, ints))

pub nearest_below : (a d : ℤ) (m n u : ℕ) → pos 1 ≤ℤ d → a <ℤ pos 0 → m ≡ unsigned_abs a → n ≡ unsigned_abs d → u ≡ half_up m n → IsNearest a d (neg_ℤ (pos u))
nearest_below a d m n u p q x y e =
    let other = nearest_above (neg_ℤ a) d m n u p (omega (arith, ints)) (omega (arith, ints)) y e in
    let P : ℤ → Type 0 = λ z. IsNearest z d (neg_ℤ (pos u)) in
    subst P (neg-neg a) (IsNearest-neg (neg_ℤ a) d (pos u) other)
