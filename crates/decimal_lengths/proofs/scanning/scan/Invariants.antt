use Rattle.std.proofs.Common.{take}
use Rattle.decimal_lengths.specs.Scanning.{ComesTo}
use Rattle.decimal_lengths.proofs.scanning.scan.Given as goal

abbrev pub invariant-loop-place : goal.invariant-loop-place
invariant-loop-place l = ComesTo (take l.place l.bytes) l.phase l.number
