use Rattle.plan_audit.specs.Firsts.{NumberBelow}
use Rattle.plan_audit.specs.Steps.{Holds}
use Rattle.plan_audit.proofs.bands.zone_in.Given as goal

abbrev pub invariant-loop-z : goal.invariant-loop-z
invariant-loop-z l = NumberBelow (Holds l.zones l.band) l.z
