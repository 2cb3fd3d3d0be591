-- A `-` stands before the digits of a number below 0, and of no other.
use Rattle.std.proofs.Common.{◌≡◌, ℕ, suc, ◌<◌, ◌^◌, ℤ, pos, negsuc, unsigned_abs, List, ◌∷◌, get_or, length, decimal, refl, sym, ap, arith}
use Rattle.seq_num.specs.Spelling.{spelling, Spells}
use Rattle.seq_num.specs.Laws.Digits.{each_digit, same_number}

-- no digits of a number begin with `-`
no_minus : (bs ds : List ℕ) (n : ℕ) → n < 10 ^ 64 → bs ≡ 45 ∷ ds → bs ≡ decimal n → ⊥
no_minus bs ds n small e s =
    let d = each_digit bs n 0 small s (omega (arith, ap length e)) in
    omega (arith, ap (λ l. get_or l 0 0) e)

-- behind a `-` digits of a number above 0 stand, or the bytes spell none
pub minus_none : (bs ds : List ℕ) → bs ≡ 45 ∷ ds → ((m : ℕ) → m < 2 ^ 100 → ds ≡ decimal m → ⊥) → (n : ℤ) → Spells bs n → ⊥
minus_none bs ds e none (pos n) s = no_minus bs ds n (omega (arith, s.small)) e s.is
minus_none bs ds e none (negsuc n) s = let is : bs ≡ spelling (negsuc n) = s.is in none (suc n) s.small cc

-- `-0` spells no number
pub minus_zero : (bs ds : List ℕ) → bs ≡ 45 ∷ ds → ds ≡ decimal 0 → (n : ℤ) → Spells bs n → ⊥
minus_zero bs ds e z (pos n) s = no_minus bs ds n (omega (arith, s.small)) e s.is
minus_zero bs ds e z (negsuc n) s =
    let is : bs ≡ spelling (negsuc n) = s.is in
    let same : decimal (suc n) ≡ decimal 0 = cc in
    omega (arith, same_number (suc n) 0 (omega (arith, s.small)) (omega arith) same)

pub same_spelling : (a b : ℤ) → unsigned_abs a < 2 ^ 100 → unsigned_abs b < 2 ^ 100 → spelling a ≡ spelling b → a ≡ b
same_spelling (pos m) (pos n) h k e = ap pos (same_number m n (omega arith) (omega arith) e)
same_spelling (pos m) (negsuc n) h k e = absurd (no_minus (decimal m) (decimal (suc n)) m (omega arith) e refl)
same_spelling (negsuc m) (pos n) h k e = absurd (no_minus (decimal n) (decimal (suc m)) n (omega arith) (sym e) refl)
same_spelling (negsuc m) (negsuc n) h k e =
    let t : decimal (suc m) ≡ decimal (suc n) = cc in
    let s : suc m ≡ suc n = same_number (suc m) (suc n) (omega arith) (omega arith) t in
    ap negsuc (omega arith)
