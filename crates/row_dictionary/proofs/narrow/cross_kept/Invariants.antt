use Rattle.row_dictionary.proofs.Crossing.{Crossed}
use Rattle.row_dictionary.proofs.narrow.cross_kept.Given as goal

abbrev pub invariant-loop-i : goal.invariant-loop-i
invariant-loop-i l = Crossed l.mix l.fn.line l.by l.i l.line l.narrow
