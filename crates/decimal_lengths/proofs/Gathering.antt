-- What the code keeps of the digits.
use Rattle.std.proofs.Common.{◌≡◌, ℕ, zero, suc, ◌+◌, ◌*◌, ◌/◌, ◌^◌, ◌<◌, ◌≤◌, refl, sym, ap, ◌∙◌, arith, add-one}
use Rattle.std.proofs.Math.Nat.{div-div-eq-div-mul, pow-succ'}
use Rattle.decimal_lengths.specs.Scanning.{KeepsDigits}

dropped_none : (kept dropped n : ℕ) → KeepsDigits (record { kept = kept; dropped = dropped }) n → kept < 10 ^ 18 → dropped ≡ 0
dropped_none kept zero n k small = refl
dropped_none kept (suc dropped) n k small = absurd (let f = k.full (omega arith) in omega arith)

pub keeps_next : (kept dropped n digit : ℕ) → digit < 10 → kept < 10 ^ 18 → KeepsDigits (record { kept = kept; dropped = dropped }) n
    → KeepsDigits (record { kept = kept * 10 + digit; dropped = dropped }) (n * 10 + digit)
keeps_next kept zero n digit small below k =
    record { kept = omega (arith, k.kept); full = λ p. absurd (omega arith) }
keeps_next kept (suc dropped) n digit small below k =
    absurd (let z = dropped_none kept (suc dropped) n k below in omega arith)

pub drops_next : (kept dropped n digit : ℕ) → digit < 10 → 10 ^ 18 ≤ kept → KeepsDigits (record { kept = kept; dropped = dropped }) n
    → KeepsDigits (record { kept = kept; dropped = dropped + 1 }) (n * 10 + digit)
drops_next kept dropped n digit small above k =
    let front : (n * 10 + digit) / 10 ≡ n = omega arith in
    let power : 10 ^ (dropped + 1) ≡ 10 * 10 ^ dropped = ap (λ e. 10 ^ e) (add-one dropped) ∙ pow-succ' 10 dropped in
    let same : (n * 10 + digit) / 10 ^ (dropped + 1) ≡ n / 10 ^ dropped =
    ap (λ p. (n * 10 + digit) / p) power ∙ sym (div-div-eq-div-mul (n * 10 + digit) 10 (10 ^ dropped)) ∙ ap (λ m. m / 10 ^ dropped) front in
    record { kept = k.kept ∙ sym same; full = λ p. above }
