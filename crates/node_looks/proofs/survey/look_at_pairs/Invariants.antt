use Rattle.node_looks.specs.Candidates.{IsSurveyed}
use Rattle.node_looks.proofs.survey.look_at_pairs.Given as goal

abbrev pub invariant-loop-i : goal.invariant-loop-i
invariant-loop-i l = IsSurveyed l.site l.i 0 l.survey.best l.survey.forced.items
