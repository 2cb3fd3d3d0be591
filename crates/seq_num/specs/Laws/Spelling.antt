-- The laws of spellings.
--
--   number_spells    `number_of` gives a number that the bytes spell
--   number_again     `number_of` gives the number back from its spelling
--   number_is        a reader's two outcomes are those of `number_of`
--   guard_some       what a test let through, where it gave something
use Rattle.std.specs.Prelude.{◌≡◌, ℕ, suc, ◌<◌, ◌^◌, ℤ, pos, negsuc, neg_ℤ, unsigned_abs, List, Bool, true, false, ◌&&◌, nat_lt, Option, Some, None, IfSome, IfNone, decimal, refl}
use Rattle.std.proofs.Common.{sym, ap, ◌∙◌, arith, get_or, cond, eqb, subst}
use Rattle.std.proofs.lemmas.Slice.Eq.{bytes_eq-Decides}
use Rattle.std.proofs.lemmas.Bool.Decides.{nat_tests}
use Rattle.std.specs.Str.{bytes_eq}
use Rattle.std.specs.Str.Parse.{signed_digits_value}
use Rattle.std.proofs.lemmas.Bool.{and_parts}
use Rattle.seq_num.specs.Spelling.{spelling, Spells, number_of}
use Rattle.seq_num.specs.Laws.Digits.{each_digit, not_empty, decimal_value}

-- what a test lets through
pub guard_some : {A : Type 0} (b : Bool) (x y : A) → cond b (Some x) None ≡ Some y → (b ≡ true) × (x ≡ y)
guard_some true x y e = (refl, cc)
guard_some false x y e = absurd cc

-- the spelling of a number has its value
pub spelling_value : (n : ℤ) → unsigned_abs n < 2 ^ 100 → signed_digits_value 10 (spelling n) ≡ n
spelling_value (pos n) small =
    let some = not_empty (decimal n) n (omega arith) refl in
    let first = each_digit (decimal n) n 0 (omega arith) refl (omega arith) in
    let no_minus : eqb (get_or (decimal n) 0 0) 45 ≡ false = grind (arith, nat_tests) in
    let no_plus : eqb (get_or (decimal n) 0 0) 43 ≡ false = grind (arith, nat_tests) in
    rw (no_minus, no_plus) (ap pos (decimal_value n (omega arith)))
spelling_value (negsuc n) small = ap (λ k. neg_ℤ (pos k)) (decimal_value (suc n) (omega arith))

pub number_spells : (bytes : List ℕ) (n : ℤ) → number_of bytes ≡ Some n → Spells bytes n
unfolding number_of
number_spells bytes n e =
    let v = signed_digits_value 10 bytes in
    let g = guard_some (bytes_eq bytes (spelling v) && nat_lt (unsigned_abs v) (2 ^ 100)) v n e in
    let tests = and_parts (bytes_eq bytes (spelling v)) (nat_lt (unsigned_abs v) (2 ^ 100)) g.0 in
    let small : unsigned_abs v < 2 ^ 100 = grind (arith, nat_tests, tests.1) in
    subst (λ (m : ℤ). Spells bytes m) g.1 (record { small = small; is = (bytes_eq-Decides bytes (spelling v)).0 tests.0 })

pub number_again : (n : ℤ) → unsigned_abs n < 2 ^ 100 → number_of (spelling n) ≡ Some n
unfolding number_of
number_again n small =
    let v : signed_digits_value 10 (spelling n) ≡ n = spelling_value n small in
    let same : bytes_eq (spelling n) (spelling n) ≡ true = (bytes_eq-Decides (spelling n) (spelling n)).1 refl in
    let below : nat_lt (unsigned_abs n) (2 ^ 100) ≡ true = grind (arith, nat_tests) in
    rw (v, same, below) refl

none_spelled : (o : Option ℤ) → ((n : ℤ) → o ≡ Some n → ⊥) → None ≡ o
none_spelled None h = refl
none_spelled (Some n) h = absurd (h n refl)

-- the two outcomes of reading a number are those of `number_of`
pub number_is : (found : Option ℤ) (bytes : List ℕ) → IfSome found (Spells bytes) → IfNone found ((n : ℤ) → Spells bytes n → ⊥) → found ≡ number_of bytes
number_is (Some n) bytes some none = sym (ap number_of some.is ∙ number_again n some.small)
number_is None bytes some none = none_spelled (number_of bytes) (λ n e. none n (number_spells bytes n e))
