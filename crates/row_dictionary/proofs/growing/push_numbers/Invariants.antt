use Rattle.std.proofs.Common.{◌≡◌, length, take, All}
use Rattle.row_pivots.specs.Ends.{Small}
use Rattle.row_pivots.specs.Growing.{row_line}
use Rattle.row_dictionary.proofs.growing.push_numbers.Given as goal

abbrev pub invariant-loop-j : goal.invariant-loop-j
invariant-loop-j l = (l.numbers.items ≡ take l.j (row_line (length l.row.a) l.den l.variables.basic l.variables.free l.lines l.row))
    × All Small (take l.j (row_line (length l.row.a) l.den l.variables.basic l.variables.free l.lines l.row))
