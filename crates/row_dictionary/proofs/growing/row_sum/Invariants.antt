use Rattle.std.proofs.Common.{◌≡◌, ◌+◌, length}
use Rattle.row_dictionary.specs.Halving.{whole, IsWithin}
use Rattle.row_dictionary.proofs.RowNumbers.{sum_upto}
use Rattle.row_dictionary.proofs.growing.row_sum.Given as goal

abbrev pub invariant-loop-k : goal.invariant-loop-k
invariant-loop-k l = (whole l.sum ≡ sum_upto l.k l.j l.den l.variables.basic l.variables.free l.lines l.row (length l.row.a)) × IsWithin (l.k + 1) l.sum
