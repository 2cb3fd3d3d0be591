-- The length that is computed is the one that is promised.
use Rattle.std.proofs.Common.{◌≡◌, ◌≤◌, ◌↔◌, ℕ, ℤ, Bool, true, false, List, length, Option, Some, None, Result, Ok, Err, cond, nat_le, refl, sym, subst, unsigned_abs, arith}
use Rattle.std.proofs.lemmas.Bool.Decides.{nat_tests}
use Rattle.std.specs.Result.{result_ok}
use Rattle.decimal_lengths.specs.declared.Decimal.{Decimal}
use Rattle.decimal_lengths.specs.declared.scanning.Phase.{Phase}
use Rattle.decimal_lengths.specs.declared.scanning.Phase.TheVariants as Phases
use Rattle.decimal_lengths.specs.Computed.{is_complete, if_near, length_behind, length_of}
use Rattle.decimal_lengths.specs.Decimals.{signed}
use Rattle.decimal_lengths.specs.Lengths.{IsReadAs}
use Rattle.decimal_lengths.specs.Refusals.{Answers}
use Rattle.decimal_lengths.specs.Scanning.{State, reading, IsComplete}
use Rattle.decimal_lengths.specs.Sizes.{size_of}
use Rattle.decimal_lengths.proofs.Measuring.{length_read, one_length}
use Rattle.decimal_lengths.proofs.Refusing.{through, only_length}

when_complete : (phase : Phase) → is_complete phase ≡ true → IsComplete phase
when_complete Phases.Whole e = tt
when_complete Phases.Fraction e = tt
when_complete Phases.Exponent e = tt
when_complete Phases.Start e = absurd cc
when_complete Phases.Signed e = absurd cc
when_complete Phases.BarePoint e = absurd cc
when_complete Phases.Letter e = absurd cc
when_complete Phases.ExponentSigned e = absurd cc

if_complete : (phase : Phase) → IsComplete phase → is_complete phase ≡ true
if_complete Phases.Whole h = refl
if_complete Phases.Fraction h = refl
if_complete Phases.Exponent h = refl
if_complete Phases.Start h = absurd h
if_complete Phases.Signed h = absurd h
if_complete Phases.BarePoint h = absurd h
if_complete Phases.Letter h = absurd h
if_complete Phases.ExponentSigned h = absurd h

record NearAs (um to : ℤ) : Type 0 where
  is : um ≡ to
  near : unsigned_abs um ≤ 10_000_000

near_as : (um to : ℤ) (b : Bool) → nat_le (unsigned_abs um) 10_000_000 ≡ b → cond {A = Option ℤ} b (Some um) None ≡ Some to → NearAs um to
near_as um to true n e = record { is = cc; near = grind (arith, nat_tests) }
near_as um to false n e = absurd cc

behind : (bytes : List ℕ) (um : ℤ) (o : Option State) → reading bytes ≡ o → length bytes ≤ 64 → length_behind o ≡ Some um → IsReadAs bytes um
behind bytes um None e short h = absurd cc
behind bytes um (Some s) e short h = of_phase (is_complete s.phase) refl h
  where
    of_phase : (b : Bool) → is_complete s.phase ≡ b → cond {A = Option ℤ} b (if_near (signed s.numbers.sign (size_of s.numbers))) None ≡ Some um → IsReadAs bytes um
    of_phase true c k =
        let n = near_as (signed s.numbers.sign (size_of s.numbers)) um (nat_le (unsigned_abs (signed s.numbers.sign (size_of s.numbers))) 10_000_000) refl k in
        let read : IsReadAs bytes (signed s.numbers.sign (size_of s.numbers)) = record { short = short; value = length_read bytes s e (when_complete s.phase c); near = n.near } in
        let P : ℤ → Type 0 = IsReadAs bytes in
        subst P n.is read
    of_phase false c k = absurd cc

is_read : (bytes : List ℕ) (um : ℤ) (b : Bool) → nat_le (length bytes) 64 ≡ b → cond {A = Option ℤ} b (length_behind (reading bytes)) None ≡ Some um → IsReadAs bytes um
is_read bytes um true n h = behind bytes um (reading bytes) refl (grind (arith, nat_tests)) h
is_read bytes um false n h = absurd cc

pub computed_is : (bytes : List ℕ) (um : ℤ) → length_of bytes ≡ Some um → IsReadAs bytes um
unfolding length_of
computed_is bytes um h = is_read bytes um (nat_le (length bytes) 64) refl h

pub read_is : (bytes : List ℕ) (um : ℤ) → IsReadAs bytes um → length_of bytes ≡ Some um
unfolding length_of
read_is bytes um r =
    let t = through bytes r.value.decimal in
    let same : signed t.end.numbers.sign (size_of t.end.numbers) ≡ um = one_length bytes _ um (length_read bytes t.end t.came t.complete) r.value in
    let short : nat_le (length bytes) 64 ≡ true = (let s = r.short in grind (arith, nat_tests)) in
    let near : nat_le (unsigned_abs um) 10_000_000 ≡ true = (let n = r.near in grind (arith, nat_tests)) in
    rw (short, t.came, if_complete t.end.phase t.complete, same, near) refl

pub each : (bytes : List ℕ) (um : ℤ) → (length_of bytes ≡ Some um) ↔ IsReadAs bytes um
each bytes um = (computed_is bytes um, read_is bytes um)

no_length : (bytes : List ℕ) (cause : Decimal) (o : Option ℤ) → length_of bytes ≡ o → Answers bytes (Err cause) → None ≡ o
no_length bytes cause None e a = refl
no_length bytes cause (Some um) e a = (let same = only_length bytes um (Err cause) (computed_is bytes um e) a in absurd cc)

pub value_of : (bytes : List ℕ) (r : Result ℤ Decimal) → Answers bytes r → result_ok r ≡ length_of bytes
value_of bytes (Ok um) a = sym (read_is bytes um a)
value_of bytes (Err cause) a = no_length bytes cause (length_of bytes) refl a
