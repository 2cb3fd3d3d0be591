-- What a reading came to gives the answer.
use Rattle.std.proofs.Common.{◌≡◌, ℕ, ◌<◌, ◌≤◌, ℤ, pos, neg_ℤ, List, length, cond, Some, None, Err, refl, sym, ap, ◌∙◌, arith, subst, unsigned_abs}
use Rattle.std.proofs.lemmas.Int.{ints}
use Rattle.decimal_lengths.specs.declared.Decimal.{Decimal}
use Rattle.decimal_lengths.specs.declared.Decimal.TheVariants.{BadByte, NoDigit, TooFar}
use Rattle.decimal_lengths.specs.declared.scanning.Number.{Number}
use Rattle.decimal_lengths.specs.Decimals.{Sign, absent, plus, minus, signed}
use Rattle.decimal_lengths.specs.Lengths.{IsReadAs}
use Rattle.decimal_lengths.specs.Refusals.{Answers}
use Rattle.decimal_lengths.specs.Scanning.{Spelled, is_minus, Keeps, Accepts, StopsBy}
use Rattle.decimal_lengths.specs.Sizes.{size_of, IsUpTo}
use Rattle.decimal_lengths.proofs.Measuring.{length_read}
use Rattle.decimal_lengths.proofs.Refusing.{first_bad, unfinished}

pub stopped : (bytes : List ℕ) (cause : Decimal) → 0 < length bytes → length bytes ≤ 64 → StopsBy bytes cause → Answers bytes (Err cause)
stopped bytes (BadByte p) some short h = (short, first_bad bytes p h)
stopped bytes NoDigit some short h = (some, short, unfinished bytes h)
stopped bytes _ some short h = absurd h

signed_size : (s : Sign) (n : ℕ) → unsigned_abs (signed s n) ≡ n
signed_size absent n = refl
signed_size plus n = refl
signed_size minus n = omega (arith, ints)

signed_by : (s : Sign) (n : ℕ) → signed s n ≡ cond (is_minus s) (neg_ℤ (pos n)) (pos n)
signed_by absent n = refl
signed_by plus n = refl
signed_by minus n = refl

pub far : (bytes : List ℕ) (number : Number) → length bytes ≤ 64 → Accepts bytes number → ((x : Spelled) → Keeps number x → IsUpTo (size_of x) None)
    → Answers bytes (Err TooFar)
far bytes number short a above =
    let x = a.comes.numbers in (
      short,
      record {
        um = signed x.sign (size_of x);
        value = length_read bytes _ a.comes.came a.complete;
        far = (let h : 10000000 < size_of x = above x a.comes.keeps in rw signed_size h);
      },
    )

pub near : (bytes : List ℕ) (number : Number) (size : ℕ) → length bytes ≤ 64 → Accepts bytes number
    → ((x : Spelled) → Keeps number x → IsUpTo (size_of x) (Some size)) → IsReadAs bytes (cond number.negative (neg_ℤ (pos size)) (pos size))
near bytes number size short a is =
    let x = a.comes.numbers in
    let s = is x a.comes.keeps in
    let um : signed x.sign (size_of x) ≡ cond number.negative (neg_ℤ (pos size)) (pos size) =
    ap (signed x.sign) (sym s.0) ∙ signed_by x.sign size ∙ ap (λ b. cond b (neg_ℤ (pos size)) (pos size)) (sym a.comes.keeps.negative) in
    let small : size_of x ≤ 10000000 = omega (arith, s.0, s.1) in
    let P : ℤ → Type 0 = IsReadAs bytes in
    subst P um (record { short = short; value = length_read bytes _ a.comes.came a.complete; near = rw signed_size small })
