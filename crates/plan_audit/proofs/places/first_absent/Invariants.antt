use Rattle.plan_audit.specs.Firsts.{NumberBelow}
use Rattle.plan_audit.specs.Faults.{IsAbsent}
use Rattle.seq_model.specs.Jobs.{scene_of_job}
use Rattle.plan_audit.proofs.places.first_absent.Given as goal

abbrev pub invariant-loop-o : goal.invariant-loop-o
invariant-loop-o l = NumberBelow (IsAbsent (scene_of_job l.job) l.places) l.o
