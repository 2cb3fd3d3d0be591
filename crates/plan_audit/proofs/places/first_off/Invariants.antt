use Rattle.plan_audit.specs.Firsts.{NumberBelow}
use Rattle.plan_audit.specs.Faults.{IsOff}
use Rattle.seq_model.specs.Jobs.{scene_of_job}
use Rattle.plan_audit.proofs.places.first_off.Given as goal

abbrev pub invariant-loop-k : goal.invariant-loop-k
invariant-loop-k l = NumberBelow (IsOff (scene_of_job l.job) l.extent l.scale l.places) l.k
