use Rattle.plan_audit.specs.Firsts.{NumberBelow}
use Rattle.plan_audit.specs.Steps.{PartHits}
use Rattle.plan_audit.proofs.bands.first_part.Given as goal

abbrev pub invariant-loop-k : goal.invariant-loop-k
invariant-loop-k l = NumberBelow (PartHits l.parts l.a.corners l.b.corners l.later_band l.fn.band l.at) l.k
