-- The length of a decimal in micrometres.
--
--   IsRounded m k q     q is the whole number nearest to m * 10 ^ k, the one of greater size at a tie
--   IsLength bytes um   the bytes are a decimal in millimetres, and um is its length in micrometres
--   IsReadAs bytes um   the same, for at most 64 bytes and a length of at most 10,000,000 in size
use Rattle.std.specs.Prelude.{◌≡◌, ℕ, suc, ℤ, pos, negsuc, ◌+ℤ◌, ◌*ℤ◌, ◌^◌, ◌≤◌, List, length, unsigned_abs}
use Rattle.seq_num.specs.Nearest.{IsNearest}
use Rattle.decimal_lengths.specs.Decimals.{IsDecimal, mantissa, power}
use Rattle.seq_limits.specs.declared.TheConstants.{FARTHEST}

abbrev pub IsRounded : ℤ → ℤ → ℤ → Type 0
IsRounded m (pos k) q = q ≡ m *ℤ pos (10 ^ k)
IsRounded m (negsuc k) q = IsNearest m (pos (10 ^ suc k)) q

pub record IsLength (bytes : List ℕ) (um : ℤ) : Type 0 where
  pub decimal : IsDecimal bytes
  pub rounded : IsRounded (mantissa decimal.parts) (power decimal.parts +ℤ pos 3) um

pub record IsReadAs (bytes : List ℕ) (um : ℤ) : Type 0 where
  pub short : length bytes ≤ 64
  pub value : IsLength bytes um
  pub near : unsigned_abs um ≤ FARTHEST
