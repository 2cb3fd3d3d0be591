use Rattle.std.proofs.Common.{◌≡◌, length, All}
use Rattle.plan_audit.specs.Places.{IsRoomy}
use Rattle.examples_audit.proofs.tests.plan.Given as goal

abbrev pub invariant-loop-object : goal.invariant-loop-object
invariant-loop-object l = (length l.places ≡ l.object-index) × All IsRoomy l.places
