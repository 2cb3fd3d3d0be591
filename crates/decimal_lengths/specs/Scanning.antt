-- How a decimal is read byte by byte. What is promised doesn't rest on this module: the proofs show that such a
-- reading comes through at the decimals and nowhere else.
--
--   kind_of c               what the byte can be in a decimal
--   next_phase phase kind   the phase behind a byte of this kind, None where no decimal goes on so
--   IsComplete phase        what was read is a decimal
--   HasDigit kind           a digit is below 10
--   Spelled, nothing        the numbers of a decimal, of any size, and those before the first byte
--   with_kind x phase kind  x with what a byte of this kind adds, when it leads to the phase
--   reading bytes           the phase and the numbers behind the bytes, None where no decimal begins so
--   Keeps number x          the number in the code keeps of x what its length needs
--   IsCounted number n      its numbers are small, and no more than n digits are counted in it
--   Accepts bytes number    the reading comes through the bytes, and the number keeps what it gathers
--   StopsBy bytes cause     it doesn't come through them
use Rattle.std.specs.Prelude.{◌≡◌, ℕ, ◌+◌, ◌*◌, ◌-◌, ◌/◌, ◌^◌, ◌<◌, ◌≤◌, min, ◌==◌, ◌||◌, Bool, true, false, List, length, take, Option, Some, None, fold, if◌then◌else◌}
use Rattle.std.specs.Option.{option_map}
use Rattle.std.specs.Char.{is_ascii_digit}
use Rattle.decimal_lengths.specs.declared.Decimal.{Decimal}
use Rattle.decimal_lengths.specs.declared.Decimal.TheVariants.{BadByte, NoDigit}
use Rattle.decimal_lengths.specs.declared.scanning.Kind.{Kind}
use Rattle.decimal_lengths.specs.declared.scanning.Kind.TheVariants as Kinds
use Rattle.decimal_lengths.specs.declared.scanning.Phase.{Phase}
use Rattle.decimal_lengths.specs.declared.scanning.Phase.TheVariants as Phases
use Rattle.decimal_lengths.specs.declared.scanning.Digits.{Digits}
use Rattle.decimal_lengths.specs.declared.scanning.Number.{Number}
use Rattle.decimal_lengths.specs.Decimals.{Sign, absent, plus, minus}

abbrev pub kind_of : ℕ → Kind
kind_of c =
    if is_ascii_digit c then Kinds.Digit (c - 48) else (
    if c == 43 then Kinds.Sign false else (
    if c == 45 then Kinds.Sign true else (
    if c == 46 then Kinds.Point else (
    if c == 101 || c == 69 then Kinds.Letter else Kinds.Other))))

abbrev pub next_phase : Phase → Kind → Option Phase
next_phase Phases.Start (Kinds.Digit d) = Some Phases.Whole
next_phase Phases.Start (Kinds.Sign m) = Some Phases.Signed
next_phase Phases.Start Kinds.Point = Some Phases.BarePoint
next_phase Phases.Signed (Kinds.Digit d) = Some Phases.Whole
next_phase Phases.Signed Kinds.Point = Some Phases.BarePoint
next_phase Phases.Whole (Kinds.Digit d) = Some Phases.Whole
next_phase Phases.Whole Kinds.Point = Some Phases.Fraction
next_phase Phases.Whole Kinds.Letter = Some Phases.Letter
next_phase Phases.BarePoint (Kinds.Digit d) = Some Phases.Fraction
next_phase Phases.Fraction (Kinds.Digit d) = Some Phases.Fraction
next_phase Phases.Fraction Kinds.Letter = Some Phases.Letter
next_phase Phases.Letter (Kinds.Digit d) = Some Phases.Exponent
next_phase Phases.Letter (Kinds.Sign m) = Some Phases.ExponentSigned
next_phase Phases.ExponentSigned (Kinds.Digit d) = Some Phases.Exponent
next_phase Phases.Exponent (Kinds.Digit d) = Some Phases.Exponent
next_phase _ _ = None

abbrev pub IsComplete : Phase → Type 0
IsComplete Phases.Whole = Unit {0}
IsComplete Phases.Fraction = Unit {0}
IsComplete Phases.Exponent = Unit {0}
IsComplete _ = ⊥

abbrev pub HasDigit : Kind → Type 0
HasDigit (Kinds.Digit d) = d < 10
HasDigit _ = Unit {0}

pub record Spelled : Type 0 where
  pub sign : Sign
  pub digits : ℕ
  pub fraction : ℕ
  pub exponent_sign : Sign
  pub exponent : ℕ

abbrev pub nothing : Spelled
nothing = record { sign = absent; digits = 0; fraction = 0; exponent_sign = absent; exponent = 0 }

abbrev pub sign_of : Bool → Sign
sign_of true = minus
sign_of false = plus

abbrev pub is_minus : Sign → Bool
is_minus absent = false
is_minus plus = false
is_minus minus = true

abbrev pub with_kind : Spelled → Phase → Kind → Spelled
with_kind x Phases.Signed (Kinds.Sign m) = record x { sign = sign_of m }
with_kind x Phases.Whole (Kinds.Digit d) = record x { digits = x.digits * 10 + d }
with_kind x Phases.Fraction (Kinds.Digit d) = record x { digits = x.digits * 10 + d; fraction = x.fraction + 1 }
with_kind x Phases.ExponentSigned (Kinds.Sign m) = record x { exponent_sign = sign_of m }
with_kind x Phases.Exponent (Kinds.Digit d) = record x { exponent = x.exponent * 10 + d }
with_kind x _ _ = x

pub record State : Type 0 where
  pub phase : Phase
  pub numbers : Spelled

abbrev pub start : State
start = record { phase = Phases.Start; numbers = nothing }

-- the state behind one more byte
abbrev pub step : Option State → ℕ → Option State
step None c = None
step (Some s) c = option_map (λ next. record { phase = next; numbers = with_kind s.numbers next (kind_of c) }) (next_phase s.phase (kind_of c))

abbrev pub reading : List ℕ → Option State
reading bytes = fold step (Some start) bytes

pub record KeepsDigits (digits : Digits) (n : ℕ) : Type 0 where
  pub kept : digits.kept ≡ n / 10 ^ digits.dropped
  pub full : 0 < digits.dropped → 10 ^ 18 ≤ digits.kept

pub record Keeps (number : Number) (x : Spelled) : Type 0 where
  pub negative : number.negative ≡ is_minus x.sign
  pub digits : KeepsDigits number.digits x.digits
  pub fraction : number.fraction ≡ x.fraction
  pub exponent_negative : number.exponent_negative ≡ is_minus x.exponent_sign
  pub exponent : number.exponent ≡ min x.exponent 1000

pub record IsCounted (number : Number) (n : ℕ) : Type 0 where
  pub kept : number.digits.kept < 10 ^ 19
  pub dropped : number.digits.dropped ≤ n
  pub fraction : number.fraction ≤ n
  pub exponent : number.exponent ≤ 1000

-- the reading has come through the bytes to this phase
pub record ComesTo (bytes : List ℕ) (phase : Phase) (number : Number) : Type 0 where
  pub numbers : Spelled
  pub came : reading bytes ≡ Some (record { phase = phase; numbers = numbers })
  pub keeps : Keeps number numbers
  pub counted : IsCounted number (length bytes)

pub record Accepts (bytes : List ℕ) (number : Number) : Type 0 where
  pub phase : Phase
  pub complete : IsComplete phase
  pub comes : ComesTo bytes phase number

-- the byte at p leads nowhere
pub record StopsAt (bytes : List ℕ) (p : ℕ) : Type 0 where
  pub within : p < length bytes
  pub before : State
  pub came : reading (take p bytes) ≡ Some before
  pub stopped : reading (take (p + 1) bytes) ≡ None

-- the bytes lead to a phase that isn't complete
pub record StopsShort (bytes : List ℕ) : Type 0 where
  pub state : State
  pub came : reading bytes ≡ Some state
  pub incomplete : ¬ IsComplete state.phase

abbrev pub StopsBy : List ℕ → Decimal → Type 0
StopsBy bytes (BadByte p) = StopsAt bytes p
StopsBy bytes NoDigit = StopsShort bytes
StopsBy bytes _ = ⊥
