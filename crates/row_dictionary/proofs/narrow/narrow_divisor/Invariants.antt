use Rattle.std.proofs.Common.{◌<◌, ◌^◌, unsigned_abs, take}
use Rattle.row_dictionary.specs.Mixing.{mixed_numbers, IsCommon}
use Rattle.row_dictionary.proofs.narrow.narrow_divisor.Given as goal

abbrev pub invariant-loop-i : goal.invariant-loop-i
invariant-loop-i l = IsCommon l.start (take l.i (mixed_numbers l.mix l.line l.by)) l.found × (unsigned_abs l.found < 2 ^ 63)
