use Rattle.plan_audit.specs.Firsts.{Below}
use Rattle.plan_audit.specs.Steps.{HitsAfter}
use Rattle.seq_model.specs.Jobs.{scene_of_job}
use Rattle.plan_audit.proofs.hits.first_after.Given as goal

abbrev pub invariant-loop-l : goal.invariant-loop-l
invariant-loop-l l = Below (HitsAfter (scene_of_job l.job) l.scale l.places l.e) l.l
