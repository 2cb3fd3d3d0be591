-- Why bytes are refused. Each cause says that none before it holds, so that no bytes have two.
--
--   IsFirstBad bytes p     p is the first place such that no decimal begins with the bytes up to and including p
--   IsUnfinished bytes     the bytes are a proper prefix of a decimal, and none themselves
--   IsFar bytes            the bytes are a decimal whose length is above the greatest
--   Refuses bytes cause    the bytes are refused for this cause
--   Answers bytes result   the result is their length or this cause
use Rattle.std.specs.Prelude.{◌≡◌, ℕ, ℤ, ◌+◌, ◌<◌, ◌≤◌, List, [], ◌∷◌, ◌++◌, length, take, unsigned_abs, Result, Ok, Err}
use Rattle.decimal_lengths.specs.declared.Decimal.{Decimal}
use Rattle.decimal_lengths.specs.declared.Decimal.TheVariants.{Empty, TooLong, BadByte, NoDigit, TooFar}
use Rattle.decimal_lengths.specs.Decimals.{IsDecimal, BeginsDecimal}
use Rattle.decimal_lengths.specs.Lengths.{IsLength, IsReadAs}
use Rattle.seq_limits.specs.declared.TheConstants.{FARTHEST}

pub record IsFirstBad (bytes : List ℕ) (p : ℕ) : Type 0 where
  pub within : p < length bytes
  pub bad : ¬ BeginsDecimal (take (p + 1) bytes)
  pub first : (q : ℕ) → q < p → BeginsDecimal (take (q + 1) bytes)

pub record IsUnfinished (bytes : List ℕ) : Type 0 where
  pub next : ℕ
  pub rest : List ℕ
  pub finished : IsDecimal (bytes ++ next ∷ rest)
  pub unfinished : ¬ IsDecimal bytes

pub record IsFar (bytes : List ℕ) : Type 0 where
  pub um : ℤ
  pub value : IsLength bytes um
  pub far : FARTHEST < unsigned_abs um

abbrev pub Refuses : List ℕ → Decimal → Type 0
Refuses bytes Empty = bytes ≡ []
Refuses bytes TooLong = 64 < length bytes
Refuses bytes (BadByte p) = (length bytes ≤ 64) × IsFirstBad bytes p
Refuses bytes NoDigit = (0 < length bytes) × (length bytes ≤ 64) × IsUnfinished bytes
Refuses bytes TooFar = (length bytes ≤ 64) × IsFar bytes

abbrev pub Answers : List ℕ → Result ℤ Decimal → Type 0
Answers bytes (Ok um) = IsReadAs bytes um
Answers bytes (Err cause) = Refuses bytes cause
