use Rattle.plan_audit.specs.Firsts.{Below}
use Rattle.plan_audit.specs.Steps.{HitsAt}
use Rattle.seq_model.specs.Jobs.{scene_of_job}
use Rattle.plan_audit.proofs.hits.first_numbers.Given as goal

abbrev pub invariant-loop-e : goal.invariant-loop-e
invariant-loop-e l = Below (HitsAt (scene_of_job l.job) l.scale l.places) l.e
