use Rattle.std.proofs.Common.{◌≡◌}
use Rattle.plan_audit.specs.Firsts.{NumberBelow}
use Rattle.plan_audit.specs.Faults.{nth}
use Rattle.plan_audit.proofs.places.stands_below.Given as goal

abbrev pub invariant-loop-m : goal.invariant-loop-m
invariant-loop-m l = NumberBelow (λ m. (nth l.places m).object ≡ l.object) l.m
