-- The size of a length from the numbers that a reading gathers: what the code computes, as one number. That it is
-- the rounding that is promised is shown by the proofs.
--
--   ups x, downs x    the length in micrometres is the digits of x, times 10 ^ ups x, divided by 10 ^ downs x
--   size_of x         its size, rounded
--   IsShift number    how far up and down the digits are to go that the code keeps: the dropped ones count
--   IsUpTo n size     the size is n, and None where n is above the greatest size of a length
use Rattle.std.specs.Prelude.{◌≡◌, ℕ, ◌+◌, ◌*◌, ◌^◌, ◌<◌, ◌≤◌, Option, Some, None, if◌then◌else◌}
use Rattle.seq_num.specs.Nearest.{half_up}
use Rattle.decimal_lengths.specs.declared.scanning.Number.{Number}
use Rattle.decimal_lengths.specs.Scanning.{Spelled, is_minus}
use Rattle.seq_limits.specs.declared.TheConstants.{FARTHEST}

abbrev pub ups : Spelled → ℕ
ups x = 3 + (if is_minus x.exponent_sign then 0 else x.exponent)

abbrev pub downs : Spelled → ℕ
downs x = x.fraction + (if is_minus x.exponent_sign then x.exponent else 0)

abbrev pub size_of : Spelled → ℕ
size_of x = half_up (x.digits * 10 ^ ups x) (10 ^ downs x)

pub record IsShift (number : Number) (up down : ℕ) : Type 0 where
  pub up_is : up ≡ number.digits.dropped + 3 + (if number.exponent_negative then 0 else number.exponent)
  pub down_is : down ≡ number.fraction + (if number.exponent_negative then number.exponent else 0)

abbrev pub IsUpTo : ℕ → Option ℕ → Type 0
IsUpTo n None = FARTHEST < n
IsUpTo n (Some size) = (size ≡ n) × (size ≤ FARTHEST)
