-- Where a reading stops no decimal begins, and each refusal excludes the others.
use Rattle.std.proofs.Common.{◌≡◌, ℕ, ◌+◌, ◌<◌, ℤ, List, [], ◌∷◌, ◌++◌, length, take, drop, Some, None, Result, Ok, Err, ◌↔◌, refl, sym, ap, ◌∙◌, arith, subst, fold, append_assoc, ⊎_elim, unsigned_abs}
use Rattle.std.proofs.lemmas.List.{take-append-drop, take-take, append-nil}
use Rattle.std.proofs.lemmas.List.Sums.{fold-append}
use Rattle.std.proofs.lemmas.Bool.{cases_lt}
use Rattle.decimal_lengths.specs.declared.Decimal.{Decimal}
use Rattle.decimal_lengths.specs.declared.Decimal.TheVariants.{Empty, TooLong, BadByte, NoDigit, TooFar}
use Rattle.decimal_lengths.specs.declared.scanning.Phase.{Phase}
use Rattle.decimal_lengths.specs.declared.scanning.Phase.TheVariants as Phases
use Rattle.decimal_lengths.specs.Decimals.{IsDecimal, BeginsDecimal}
use Rattle.decimal_lengths.specs.Lengths.{IsReadAs}
use Rattle.decimal_lengths.specs.Refusals.{IsFirstBad, IsUnfinished, IsFar, Refuses, Answers}
use Rattle.decimal_lengths.specs.Scanning.{Spelled, State, step, start, reading, IsComplete, StopsAt, StopsShort}
use Rattle.decimal_lengths.proofs.Coming.{last_complete, comes_through}
use Rattle.decimal_lengths.proofs.Following.{decimal_read, fold-None}
use Rattle.decimal_lengths.proofs.Measuring.{one_length}

-- a zero ends each reading that has come so far
record Ends (s : State) : Type 0 where
  end : State
  ended : step (Some s) 48 ≡ Some end
  complete : IsComplete end.phase

zero_ends : (phase : Phase) (x : Spelled) → Ends (record { phase = phase; numbers = x })
zero_ends Phases.Start x = record { end = _; ended = refl; complete = tt }
zero_ends Phases.Signed x = record { end = _; ended = refl; complete = tt }
zero_ends Phases.Whole x = record { end = _; ended = refl; complete = tt }
zero_ends Phases.BarePoint x = record { end = _; ended = refl; complete = tt }
zero_ends Phases.Fraction x = record { end = _; ended = refl; complete = tt }
zero_ends Phases.Letter x = record { end = _; ended = refl; complete = tt }
zero_ends Phases.ExponentSigned x = record { end = _; ended = refl; complete = tt }
zero_ends Phases.Exponent x = record { end = _; ended = refl; complete = tt }

finished : (bytes : List ℕ) (s : State) → reading bytes ≡ Some s → IsDecimal (bytes ++ 48 ∷ [])
finished bytes s e =
    let z = zero_ends s.phase s.numbers in
    decimal_read (bytes ++ 48 ∷ []) z.end (fold-append step (Some start) bytes (48 ∷ []) ∙ ap (λ s. step s 48) e ∙ z.ended) z.complete

-- a reading comes through a decimal
pub record Through (bytes : List ℕ) : Type 0 where
  pub end : State
  pub came : reading bytes ≡ Some end
  pub complete : IsComplete end.phase

pub through : (bytes : List ℕ) → IsDecimal bytes → Through bytes
through bytes d =
    record {
      end = _;
      came = ap reading d.spelled ∙ comes_through d.parts d.formed;
      complete = last_complete d.parts.fraction d.parts.exponent;
    }

dead : (bytes : List ℕ) → reading bytes ≡ None → BeginsDecimal bytes → ⊥
dead bytes none b =
    let t = through (bytes ++ b.rest) b.decimal in
    let stopped : reading (bytes ++ b.rest) ≡ None = fold-append step (Some start) bytes b.rest ∙ ap (λ s. fold step s b.rest) none ∙ fold-None b.rest in
    let came = t.came in
    cc

no_empty : (bytes : List ℕ) → bytes ≡ [] → IsDecimal bytes → ⊥
no_empty bytes e d =
    let t = through bytes d in
    let came : Some start ≡ Some t.end = ap reading (sym e) ∙ t.came in
    let P : State → Type 0 = λ s. IsComplete s.phase in
    let same : t.end ≡ start = cc in
    subst P same t.complete

-- the bytes before a place begin the bytes before a later one
begins_earlier : (bytes : List ℕ) (q p : ℕ) → q < p → BeginsDecimal (take p bytes) → BeginsDecimal (take (q + 1) bytes)
begins_earlier bytes q p h b =
    let front : take (q + 1) (take p bytes) ≡ take (q + 1) bytes = take-take (q + 1) p bytes (omega arith) in
    let back = drop (q + 1) (take p bytes) in
    let split : take p bytes ≡ take (q + 1) bytes ++ back = sym (take-append-drop (q + 1) (take p bytes)) ∙ ap (λ t. t ++ back) front in
    let P : List ℕ → Type 0 = IsDecimal in
    record { rest = back ++ b.rest; decimal = subst P (ap (λ t. t ++ b.rest) split ∙ append_assoc (take (q + 1) bytes) back b.rest) b.decimal }

-- a decimal, or what may become one, has no bad byte
not_bad : (bytes rest : List ℕ) (p : ℕ) → IsFirstBad bytes p → IsDecimal (bytes ++ rest) → ⊥
not_bad bytes rest p bad d =
    let split : bytes ++ rest ≡ take (p + 1) bytes ++ (drop (p + 1) bytes ++ rest) = ap (λ t. t ++ rest) (sym (take-append-drop (p + 1) bytes)) ∙ append_assoc (take (p + 1) bytes) (drop (p + 1) bytes) rest in
    let P : List ℕ → Type 0 = IsDecimal in
    bad.bad (record { rest = drop (p + 1) bytes ++ rest; decimal = subst P split d })

decimal_not_bad : (bytes : List ℕ) (p : ℕ) → IsFirstBad bytes p → IsDecimal bytes → ⊥
decimal_not_bad bytes p bad d = not_bad bytes [] p bad (let P : List ℕ → Type 0 = IsDecimal in subst P (sym (append-nil bytes)) d)

one_bad : (bytes : List ℕ) (p q : ℕ) → IsFirstBad bytes p → IsFirstBad bytes q → p ≡ q
one_bad bytes p q a b =
    ⊎_elim (λ h. absurd (a.bad (b.first p h))) (λ h. ⊎_elim (λ k. absurd (b.bad (a.first q k))) (λ k. omega arith) (cases_lt q p)) (cases_lt p q)

pub first_bad : (bytes : List ℕ) (p : ℕ) → StopsAt bytes p → IsFirstBad bytes p
first_bad bytes p stop =
    let begun : BeginsDecimal (take p bytes) = record { rest = 48 ∷ []; decimal = finished (take p bytes) stop.before stop.came } in
    record {
      within = stop.within;
      bad = dead (take (p + 1) bytes) stop.stopped;
      first = λ q h. begins_earlier bytes q p h begun;
    }

pub unfinished : (bytes : List ℕ) → StopsShort bytes → IsUnfinished bytes
unfinished bytes stop =
    record {
      next = 48;
      rest = [];
      finished = finished bytes stop.state stop.came;
      unfinished = λ d. (let t = through bytes d in
          let P : State → Type 0 = λ s. IsComplete s.phase in
          let came : Some t.end ≡ Some stop.state = sym t.came ∙ stop.came in
          let same : t.end ≡ stop.state = cc in
          stop.incomplete (subst P same t.complete));
    }

-- which cause excludes which
empty_length : (bytes : List ℕ) → bytes ≡ [] → length bytes ≡ 0
empty_length bytes e = ap length e

far_not_near : (bytes : List ℕ) (um : ℤ) → IsReadAs bytes um → IsFar bytes → ⊥
far_not_near bytes um r f =
    let same : um ≡ f.um = one_length bytes um f.um r.value f.value in
    let near = r.near in
    let far = f.far in
    absurd (omega (arith, ap unsigned_abs same))

only_empty : (bytes : List ℕ) (r : Result ℤ Decimal) → bytes ≡ [] → Answers bytes r → Err Empty ≡ r
only_empty bytes (Ok um) e a = absurd (no_empty bytes e a.value.decimal)
only_empty bytes (Err Empty) e a = refl
only_empty bytes (Err TooLong) e a = absurd (omega (arith, empty_length bytes e))
only_empty bytes (Err (BadByte p)) e a = absurd (let w = a.1.within in omega (arith, empty_length bytes e))
only_empty bytes (Err NoDigit) e a = absurd (omega (arith, empty_length bytes e))
only_empty bytes (Err TooFar) e a = absurd (no_empty bytes e a.1.value.decimal)

only_too_long : (bytes : List ℕ) (r : Result ℤ Decimal) → 64 < length bytes → Answers bytes r → Err TooLong ≡ r
only_too_long bytes (Ok um) h a = absurd (let s = a.short in omega arith)
only_too_long bytes (Err Empty) h a = absurd (omega (arith, empty_length bytes a))
only_too_long bytes (Err TooLong) h a = refl
only_too_long bytes (Err (BadByte p)) h a = absurd (let s = a.0 in omega arith)
only_too_long bytes (Err NoDigit) h a = absurd (let s = a.1 in omega arith)
only_too_long bytes (Err TooFar) h a = absurd (let s = a.0 in omega arith)

only_bad_byte : (bytes : List ℕ) (p : ℕ) (r : Result ℤ Decimal) → Refuses bytes (BadByte p) → Answers bytes r → Err (BadByte p) ≡ r
only_bad_byte bytes p (Ok um) h a = absurd (decimal_not_bad bytes p h.1 a.value.decimal)
only_bad_byte bytes p (Err Empty) h a = sym (only_empty bytes (Err (BadByte p)) a h)
only_bad_byte bytes p (Err TooLong) h a = sym (only_too_long bytes (Err (BadByte p)) a h)
only_bad_byte bytes p (Err (BadByte q)) h a = ap (λ n. Err (BadByte n)) (one_bad bytes p q h.1 a.1)
only_bad_byte bytes p (Err NoDigit) h a = absurd (not_bad bytes (a.2.next ∷ a.2.rest) p h.1 a.2.finished)
only_bad_byte bytes p (Err TooFar) h a = absurd (decimal_not_bad bytes p h.1 a.1.value.decimal)

only_no_digit : (bytes : List ℕ) (r : Result ℤ Decimal) → Refuses bytes NoDigit → Answers bytes r → Err NoDigit ≡ r
only_no_digit bytes (Ok um) h a = absurd (h.2.unfinished a.value.decimal)
only_no_digit bytes (Err Empty) h a = sym (only_empty bytes (Err NoDigit) a h)
only_no_digit bytes (Err TooLong) h a = sym (only_too_long bytes (Err NoDigit) a h)
only_no_digit bytes (Err (BadByte p)) h a = sym (only_bad_byte bytes p (Err NoDigit) a h)
only_no_digit bytes (Err NoDigit) h a = refl
only_no_digit bytes (Err TooFar) h a = absurd (h.2.unfinished a.1.value.decimal)

only_too_far : (bytes : List ℕ) (r : Result ℤ Decimal) → Refuses bytes TooFar → Answers bytes r → Err TooFar ≡ r
only_too_far bytes (Ok um) h a = absurd (far_not_near bytes um a h.1)
only_too_far bytes (Err Empty) h a = sym (only_empty bytes (Err TooFar) a h)
only_too_far bytes (Err TooLong) h a = sym (only_too_long bytes (Err TooFar) a h)
only_too_far bytes (Err (BadByte p)) h a = sym (only_bad_byte bytes p (Err TooFar) a h)
only_too_far bytes (Err NoDigit) h a = sym (only_no_digit bytes (Err TooFar) a h)
only_too_far bytes (Err TooFar) h a = refl

pub only_length : (bytes : List ℕ) (um : ℤ) (r : Result ℤ Decimal) → IsReadAs bytes um → Answers bytes r → Ok um ≡ r
only_length bytes um (Ok other) h a = ap Ok (one_length bytes um other h.value a.value)
only_length bytes um (Err Empty) h a = sym (only_empty bytes (Ok um) a h)
only_length bytes um (Err TooLong) h a = sym (only_too_long bytes (Ok um) a h)
only_length bytes um (Err (BadByte p)) h a = sym (only_bad_byte bytes p (Ok um) a h)
only_length bytes um (Err NoDigit) h a = sym (only_no_digit bytes (Ok um) a h)
only_length bytes um (Err TooFar) h a = sym (only_too_far bytes (Ok um) a h)

one_answer : (bytes : List ℕ) (r s : Result ℤ Decimal) → Answers bytes r → Answers bytes s → r ≡ s
one_answer bytes (Ok um) s a b = only_length bytes um s a b
one_answer bytes (Err Empty) s a b = only_empty bytes s a b
one_answer bytes (Err TooLong) s a b = only_too_long bytes s a b
one_answer bytes (Err (BadByte p)) s a b = only_bad_byte bytes p s a b
one_answer bytes (Err NoDigit) s a b = only_no_digit bytes s a b
one_answer bytes (Err TooFar) s a b = only_too_far bytes s a b

pub exact : (bytes : List ℕ) (r s : Result ℤ Decimal) → Answers bytes r → (r ≡ s) ↔ Answers bytes s
exact bytes r s a = (λ e. (let P : Result ℤ Decimal → Type 0 = Answers bytes in subst P e a), λ b. one_answer bytes r s a b)
