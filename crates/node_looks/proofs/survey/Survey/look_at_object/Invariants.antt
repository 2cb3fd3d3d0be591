use Rattle.node_looks.specs.Candidates.{IsSurveyed}
use Rattle.node_looks.proofs.survey.Survey.look_at_object.Given as goal

abbrev pub invariant-loop-j : goal.invariant-loop-j
invariant-loop-j l = IsSurveyed l.site l.i l.j l.self.best l.self.forced.items
