-- The length of any bytes, as one function of them.
--
--   length_of bytes    the length in µm that the bytes are read as, None where they are read as none
--
-- That it is the length of `Lengths` and no other is promised by `each_length`.
use Rattle.std.specs.Prelude.{ℕ, ℤ, Bool, true, false, List, length, Option, Some, None, nat_le, unsigned_abs, if◌then◌else◌}
use Rattle.decimal_lengths.specs.declared.scanning.Phase.{Phase}
use Rattle.decimal_lengths.specs.declared.scanning.Phase.TheVariants as Phases
use Rattle.decimal_lengths.specs.Decimals.{signed}
use Rattle.decimal_lengths.specs.Scanning.{State, reading}
use Rattle.decimal_lengths.specs.Sizes.{size_of}
use Rattle.seq_limits.specs.declared.TheConstants.{FARTHEST}

abbrev pub is_complete : Phase → Bool
is_complete Phases.Whole = true
is_complete Phases.Fraction = true
is_complete Phases.Exponent = true
is_complete _ = false

abbrev pub if_near : ℤ → Option ℤ
if_near um = if nat_le (unsigned_abs um) FARTHEST then Some um else None

abbrev pub length_behind : Option State → Option ℤ
length_behind None = None
length_behind (Some s) = if is_complete s.phase then if_near (signed s.numbers.sign (size_of s.numbers)) else None

unfoldable pub length_of : List ℕ → Option ℤ
length_of bytes = if nat_le (length bytes) 64 then length_behind (reading bytes) else None
