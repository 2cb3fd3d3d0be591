use Rattle.plate_shrink.proofs.Halving.{IsShrunk, left_over}
use Rattle.plate_shrink.proofs.shrinking.halved.Given as goal

abbrev pub invariant-loop-best : goal.invariant-loop-best
invariant-loop-best g l = IsShrunk l.job l.budget l.best l.failed × g.L.Looks.IsFor l.looks l.job

abbrev pub decreases-loop-best : goal.decreases-loop-best
decreases-loop-best g l = left_over l.best l.failed
