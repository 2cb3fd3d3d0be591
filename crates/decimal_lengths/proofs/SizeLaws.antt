-- The few digits that are kept give the size that all digits give.
use Rattle.std.proofs.Common.{◌≡◌, ℕ, zero, suc, ◌+◌, ◌-◌, min, ◌*◌, ◌/◌, ◌^◌, ◌<◌, ◌≤◌, sym, ap, ap₂, ◌∙◌, arith, mul-le-mul_left, ◌⊎◌, inl, inr, ⊎_elim, Bool, true, false, cond, Option, Some, None}
use Rattle.std.proofs.Math.Nat.{mul-div-le, lt-div-mul-add, pow-le-pow_right, one-le-pow, one-le-mul, pow-suc, mul_assoc}
use Rattle.std.proofs.lemmas.Nat.{pow-add, le-div}
use Rattle.std.proofs.lemmas.Bool.{cases_lt}
use Rattle.seq_num.specs.Nearest.{half_up}
use Rattle.seq_num.specs.Laws.Nearest.{IsHalfNear, half_up_is, half_up_unique}
use Rattle.decimal_lengths.specs.declared.scanning.Digits.{Digits}
use Rattle.decimal_lengths.specs.declared.scanning.Number.{Number}
use Rattle.decimal_lengths.specs.Scanning.{KeepsDigits, Spelled, Keeps, IsCounted, is_minus}
use Rattle.decimal_lengths.specs.Sizes.{IsShift, size_of, ups, downs, IsUpTo}

pub ten_pow_pos : (k : ℕ) → 0 < 10 ^ k
ten_pow_pos k = omega (arith, one-le-pow k 10 (omega arith))

-- a whole number is its own rounding
pub half_up-whole : (m d : ℕ) → 0 < d → half_up (m * d) d ≡ m
half_up-whole m d p = half_up_unique (m * d) d m p (record { low = omega arith; high = omega arith })

-- a common factor falls out
pub half_up-factor : (n d c : ℕ) → 0 < d → 0 < c → half_up (n * c) (d * c) ≡ half_up n d
half_up-factor n d c p q =
    let h = half_up_is n d p in
    let u = half_up n d in
    let low : c * (2 * (d * u)) ≤ c * (2 * n + d) = mul-le-mul_left c h.low in
    let high : c * suc (2 * n) ≤ c * (2 * (d * u) + d) = mul-le-mul_left c h.high in
    let some : 1 ≤ d * c = one-le-mul p q in
    half_up_unique (n * c) (d * c) u some (record { low = omega arith; high = omega arith })

half_up-zero : (n d : ℕ) → 2 * n < d → half_up n d ≡ 0
half_up-zero n d h = half_up_unique n d 0 (omega arith) (record { low = omega arith; high = omega arith })

half_up_le : (n m d : ℕ) → 0 < d → n ≤ m → half_up n d ≤ half_up m d
half_up_le n m d p h = le-div (half_up n d) (2 * m + d) (2 * d) (omega arith) (let l = (half_up_is n d p).low in omega arith)

-- digits below the first one that is rounded away don't count
front_near : (n p k h q u : ℕ) → p * k ≤ n → n < k * p + p → q ≡ 2 * h → IsHalfNear k q u → IsHalfNear n (q * p) u
front_near n p k h q u front back e near =
    let below : q * u ≤ k + h = (let l = near.low in omega arith) in
    let above : k + 1 ≤ q * u + h = (let l = near.high in omega arith) in
    let low : p * (q * u) ≤ p * (k + h) = mul-le-mul_left p below in
    let high : p * (k + 1) ≤ p * (q * u + h) = mul-le-mul_left p above in
    let even : q * p ≡ 2 * (p * h) = ap (λ t. t * p) e ∙ omega arith in
    record { low = grind arith; high = grind arith }

half_up-front : (n s r : ℕ) → half_up (n / 10 ^ r) (10 ^ suc s) ≡ half_up n (10 ^ suc s * 10 ^ r)
half_up-front n s r =
    let even : 10 ^ suc s ≡ 2 * (10 ^ s * 5) = omega (arith, pow-suc 10 s) in
    let near = half_up_is (n / 10 ^ r) (10 ^ suc s) (ten_pow_pos (suc s)) in
    sym (half_up_unique n (10 ^ suc s * 10 ^ r) _ (one-le-mul (ten_pow_pos (suc s)) (ten_pow_pos r)) (front_near n (10 ^ r) (n / 10 ^ r) (10 ^ s * 5) (10 ^ suc s) _ (mul-div-le n (10 ^ r)) (lt-div-mul-add (ten_pow_pos r)) even near))

-- the digits that are kept are a front of all digits
kept_at_most : (kept digits p : ℕ) → kept ≡ digits / p → kept * p ≤ digits
kept_at_most kept digits p e = omega (arith, mul-div-le digits p, ap (λ k. k * p) e)

kept_above : (kept digits p : ℕ) → 0 < p → kept ≡ digits / p → digits < (kept + 1) * p
kept_above kept digits p some e = let l : digits < digits / p * p + p = lt-div-mul-add some in omega (arith, ap (λ k. k * p) e)

-- a small number keeps all digits
all_kept : (digits : Digits) (n : ℕ) → KeepsDigits digits n → digits.kept < 10 ^ 18 → (digits.dropped ≡ 0) × (digits.kept ≡ n)
all_kept digits n keeps small =
    let none : digits.dropped ≡ 0 = grind (arith, keeps.full) in
    (none, keeps.kept ∙ ap (λ k. n / 10 ^ k) none ∙ omega arith)

pub raised_at_most : (digits : Digits) (n a b s : ℕ) → KeepsDigits digits n → s + b ≤ digits.dropped + a → digits.kept * 10 ^ s ≤ half_up (n * 10 ^ a) (10 ^ b)
raised_at_most digits n a b s keeps h =
    let kept = digits.kept in
    let longer : kept * 10 ^ (s + b) ≤ kept * 10 ^ (digits.dropped + a) = mul-le-mul_left kept (pow-le-pow_right (omega arith) h) in
    let front : 10 ^ a * (kept * 10 ^ digits.dropped) ≤ 10 ^ a * n = mul-le-mul_left (10 ^ a) (kept_at_most kept n (10 ^ digits.dropped) keeps.kept) in
    let below : kept * 10 ^ s * 10 ^ b ≤ n * 10 ^ a = omega (arith, ap (λ p. kept * p) (pow-add 10 s b), ap (λ p. kept * p) (pow-add 10 digits.dropped a)) in
    let le : half_up (kept * 10 ^ s * 10 ^ b) (10 ^ b) ≤ half_up (n * 10 ^ a) (10 ^ b) = half_up_le _ _ (10 ^ b) (ten_pow_pos b) below in
    rw (half_up-whole (kept * 10 ^ s) (10 ^ b) (ten_pow_pos b)) at le

-- a power of at most 10 ^ 7
short_power : (s : ℕ) → 10 ^ s ≤ 10 ^ 7 → s ≤ 7
short_power s h = ⊎_elim (λ k. omega arith) (λ k. absurd (let p : 10 ^ 8 ≤ 10 ^ s = pow-le-pow_right (omega arith) k in omega arith)) (cases_lt s 8)

raised_zero : (digits : Digits) (n a b s : ℕ) → KeepsDigits digits n → digits.kept ≡ 0 → half_up (n * 10 ^ a) (10 ^ b) ≡ digits.kept * 10 ^ s
raised_zero digits n a b s keeps nothing =
    let none : n ≡ 0 = sym (all_kept digits n keeps (omega arith)).1 ∙ nothing in
    let power = ten_pow_pos b in
    ap (λ m. half_up (m * 10 ^ a) (10 ^ b)) none ∙ half_up-zero (0 * 10 ^ a) (10 ^ b) (omega arith) ∙ sym (ap (λ k. k * 10 ^ s) nothing ∙ omega arith)

raised_some : (digits : Digits) (n a b s : ℕ) → KeepsDigits digits n → 0 < digits.kept → (s ≤ 7 → s + b ≡ digits.dropped + a)
    → digits.kept * 10 ^ s ≤ 10 ^ 7 → half_up (n * 10 ^ a) (10 ^ b) ≡ digits.kept * 10 ^ s
raised_some digits n a b s keeps some same small =
    let kept = digits.kept in
    let power : 10 ^ s ≤ kept * 10 ^ s = (let one : 10 ^ s * 1 ≤ 10 ^ s * kept = mul-le-mul_left (10 ^ s) some in omega arith) in
    let few : kept * 1 ≤ kept * 10 ^ s = mul-le-mul_left kept (ten_pow_pos s) in
    let all = all_kept digits n keeps (omega arith) in
    let places : a ≡ s + b = (let e = same (short_power s (omega arith)) in omega (arith, all.0)) in
    ap₂ (λ m k. half_up (m * 10 ^ k) (10 ^ b)) (sym all.1) places ∙ ap (λ m. half_up m (10 ^ b)) (ap (λ p. kept * p) (pow-add 10 s b) ∙ sym (mul_assoc kept (10 ^ s) (10 ^ b))) ∙ half_up-whole (kept * 10 ^ s) (10 ^ b) (ten_pow_pos b)

pub raised_same : (digits : Digits) (n a b s : ℕ) → KeepsDigits digits n → (s ≤ 7 → s + b ≡ digits.dropped + a) → digits.kept * 10 ^ s ≤ 10 ^ 7
    → half_up (n * 10 ^ a) (10 ^ b) ≡ digits.kept * 10 ^ s
raised_same digits n a b s keeps same small =
    ⊎_elim (λ k. raised_zero digits n a b s keeps (omega arith)) (λ k. raised_some digits n a b s keeps k same small) (cases_lt digits.kept 1)

lowered_far : (digits : Digits) (n a b s : ℕ) → KeepsDigits digits n → digits.kept < 10 ^ 19 → 20 ≤ s → digits.dropped + a + s ≤ b
    → half_up (n * 10 ^ a) (10 ^ b) ≡ half_up digits.kept (10 ^ s)
lowered_far digits n a b s keeps small far h =
    let r = digits.dropped in
    let power : 10 ^ 20 ≤ 10 ^ s = pow-le-pow_right (omega arith) far in
    let longer : 10 ^ (r + a + 20) ≤ 10 ^ b = pow-le-pow_right (omega arith) (omega arith) in
    let above : n < (digits.kept + 1) * 10 ^ r = kept_above digits.kept n (10 ^ r) (ten_pow_pos r) keeps.kept in
    let room : 10 ^ r * (digits.kept + 1) ≤ 10 ^ r * 10 ^ 19 = mul-le-mul_left (10 ^ r) (omega arith) in
    let digits_below : 10 ^ a * (n + 1) ≤ 10 ^ a * (10 ^ r * 10 ^ 19) = mul-le-mul_left (10 ^ a) (omega arith) in
    let split : 10 ^ (r + a + 20) ≡ 10 ^ r * 10 ^ a * 10 ^ 20 = pow-add 10 (r + a) 20 ∙ ap (λ p. p * 10 ^ 20) (pow-add 10 r a) in
    half_up-zero (n * 10 ^ a) (10 ^ b) (let p = ten_pow_pos a in omega arith) ∙ sym (half_up-zero digits.kept (10 ^ s) (omega arith))

lowered_near : (digits : Digits) (n a b s : ℕ) → KeepsDigits digits n → b ≡ digits.dropped + a + suc s → half_up (n * 10 ^ a) (10 ^ b) ≡ half_up digits.kept (10 ^ suc s)
lowered_near digits n a b s keeps e =
    let r = digits.dropped in
    let split : 10 ^ b ≡ 10 ^ suc s * 10 ^ r * 10 ^ a = ap (λ k. 10 ^ k) (let f : b ≡ suc s + r + a = omega arith in f) ∙ pow-add 10 (suc s + r) a ∙ ap (λ p. p * 10 ^ a) (pow-add 10 (suc s) r) in
    ap (half_up (n * 10 ^ a)) split
    ∙ half_up-factor n (10 ^ suc s * 10 ^ r) (10 ^ a) (one-le-mul (ten_pow_pos (suc s)) (ten_pow_pos r)) (ten_pow_pos a)
    ∙ sym (half_up-front n s r)
    ∙ ap (λ k. half_up k (10 ^ suc s)) (sym keeps.kept)

pub lowered_same : (digits : Digits) (n a b s : ℕ) → KeepsDigits digits n → digits.kept < 10 ^ 19 → digits.dropped + a + suc s ≤ b
    → (suc s < 20 → b ≡ digits.dropped + a + suc s) → half_up (n * 10 ^ a) (10 ^ b) ≡ half_up digits.kept (10 ^ suc s)
lowered_same digits n a b s keeps small h same =
    ⊎_elim (λ k. lowered_near digits n a b s keeps (same k)) (λ k. lowered_far digits n a b (suc s) keeps small k h) (cases_lt (suc s) 20)

raising : (negative : Bool) (exponent e fraction dropped up down : ℕ) → e ≡ min exponent 1000 → dropped ≤ 64 → fraction ≤ 64
    → up ≡ dropped + 3 + cond negative 0 e → down ≡ fraction + cond negative e 0 → down ≤ up
    → ((up - down) + (fraction + cond negative exponent 0) ≤ dropped + (3 + cond negative 0 exponent)) × ((up - down) ≤ 7 → (up - down) + (fraction + cond negative exponent 0) ≡ dropped + (3 + cond negative 0 exponent))
raising true exponent e fraction dropped up down small d f u v h = (omega arith, λ s. omega arith)
raising false exponent e fraction dropped up down small d f u v h = (omega arith, λ s. omega arith)

lowering : (negative : Bool) (exponent e fraction dropped up down s : ℕ) → e ≡ min exponent 1000 → dropped ≤ 64 → fraction ≤ 64
    → up ≡ dropped + 3 + cond negative 0 e → down ≡ fraction + cond negative e 0 → down ≡ up + suc s
    → (dropped + (3 + cond negative 0 exponent) + suc s ≤ fraction + cond negative exponent 0) × (suc s < 20 → fraction + cond negative exponent 0 ≡ dropped + (3 + cond negative 0 exponent) + suc s)
lowering true exponent e fraction dropped up down s small d f u v h = (omega arith, λ k. omega arith)
lowering false exponent e fraction dropped up down s small d f u v h = (omega arith, λ k. omega arith)

at_most_also : (n m : ℕ) (size : Option ℕ) → n ≤ m → (n ≤ 10 ^ 7 → m ≡ n) → IsUpTo n size → IsUpTo m size
at_most_also n m None le same h = omega arith
at_most_also n m (Some size) le same h = (let e : m ≡ n = same (omega arith) in omega arith, h.1)

pub raised_size : (number : Number) (up down : ℕ) (x : Spelled) (size : Option ℕ) → IsCounted number 64 → IsShift number up down → Keeps number x
    → down ≤ up → IsUpTo (number.digits.kept * 10 ^ (up - down)) size → IsUpTo (size_of x) size
raised_size number up down x size counted shift keeps h is =
    let up_is = rw keeps.exponent_negative at shift.up_is in
    let down_is = rw (keeps.exponent_negative, keeps.fraction) at shift.down_is in
    let fraction : x.fraction ≤ 64 = (let f = counted.fraction in let e = keeps.fraction in omega arith) in
    let r = raising (is_minus x.exponent_sign) x.exponent number.exponent x.fraction number.digits.dropped up down keeps.exponent counted.dropped fraction up_is down_is h in
    at_most_also (number.digits.kept * 10 ^ (up - down)) (size_of x) size
    (raised_at_most number.digits x.digits (ups x) (downs x) (up - down) keeps.digits r.0)
    (raised_same number.digits x.digits (ups x) (downs x) (up - down) keeps.digits r.1)
    is

lowered_by_more : (number : Number) (up down s : ℕ) (x : Spelled) (size : Option ℕ) → IsCounted number 64 → IsShift number up down → Keeps number x
    → down ≡ up + suc s → IsUpTo (half_up number.digits.kept (10 ^ suc s)) size → IsUpTo (size_of x) size
lowered_by_more number up down s x size counted shift keeps h is =
    let up_is = rw keeps.exponent_negative at shift.up_is in
    let down_is = rw (keeps.exponent_negative, keeps.fraction) at shift.down_is in
    let fraction : x.fraction ≤ 64 = (let f = counted.fraction in let e = keeps.fraction in omega arith) in
    let r = lowering (is_minus x.exponent_sign) x.exponent number.exponent x.fraction number.digits.dropped up down s keeps.exponent counted.dropped fraction up_is down_is h in
    let same : size_of x ≡ half_up number.digits.kept (10 ^ suc s) = lowered_same number.digits x.digits (ups x) (downs x) s keeps.digits counted.kept r.0 r.1 in
    rw same is

pub lowered_size : (number : Number) (up down by : ℕ) (x : Spelled) (size : Option ℕ) → IsCounted number 64 → IsShift number up down → Keeps number x
    → up < down → by ≡ down - up → IsUpTo (half_up number.digits.kept (10 ^ by)) size → IsUpTo (size_of x) size
lowered_size number up down zero x size counted shift keeps h e is = absurd (omega arith)
lowered_size number up down (suc s) x size counted shift keeps h e is = lowered_by_more number up down s x size counted shift keeps (omega arith) is

-- the code halves the unit in place of doubling the rest
half_up-even : (n h : ℕ) → 0 < h → half_up n (2 * h) ≡ (n + 2 * h / 2) / (2 * h)
half_up-even n h p =
    let two : 0 < 2 * h = omega arith in
    let half : 2 * h / 2 ≡ h = omega arith in
    let u = (n + h) / (2 * h) in
    let low : 2 * h * u ≤ n + h = mul-div-le (n + h) (2 * h) in
    let high : n + h < u * (2 * h) + 2 * h = lt-div-mul-add two in
    half_up_unique n (2 * h) u two (record { low = omega arith; high = omega arith }) ∙ ap (λ t. (n + t) / (2 * h)) (sym half)

pub half_up-unit : (n by : ℕ) → 0 < by → half_up n (10 ^ by) ≡ (n + 10 ^ by / 2) / 10 ^ by
half_up-unit n zero p = absurd (omega arith)
half_up-unit n (suc s) p =
    let even : 10 ^ suc s ≡ 2 * (10 ^ s * 5) = omega (arith, pow-suc 10 s) in
    rw even (half_up-even n (10 ^ s * 5) (let t = ten_pow_pos s in omega arith))

pub half_up-far : (n by : ℕ) → n < 10 ^ 19 → 19 < by → 0 ≡ half_up n (10 ^ by)
half_up-far n by small far = sym (half_up-zero n (10 ^ by) (let p : 10 ^ 20 ≤ 10 ^ by = pow-le-pow_right (omega arith) far in omega arith))

pub far_above : (kept by : ℕ) → 0 < kept → (10000000 < kept) ⊎ (7 < by) → 10000000 < kept * 10 ^ by
far_above kept by some (inl h) = (let one : kept * 1 ≤ kept * 10 ^ by = mul-le-mul_left kept (ten_pow_pos by) in omega arith)
far_above kept by some (inr h) =
    let p : 10 ^ 8 ≤ 10 ^ by = pow-le-pow_right (omega arith) h in
    let one : 10 ^ by * 1 ≤ 10 ^ by * kept = mul-le-mul_left (10 ^ by) some in
    omega arith
