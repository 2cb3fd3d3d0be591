use Rattle.plan_audit.specs.Firsts.{Below}
use Rattle.plan_audit.specs.Steps.{LaterHits}
use Rattle.seq_model.specs.Jobs.{scene_of_job}
use Rattle.plan_audit.proofs.bands.first_later_band.Given as goal

abbrev pub invariant-loop-band : goal.invariant-loop-band
invariant-loop-band l = Below (LaterHits (scene_of_job l.job) l.i l.j l.at) l.band
