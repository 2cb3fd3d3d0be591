-- What a looker keeps.
--
--   KeepsTrail job kept    if it keeps a trail, that is one of the job
use Rattle.std.specs.Global.{Box}
use Rattle.std.specs.Prelude.{Option, IfSome}
use Rattle.node_looks.specs.Trails.{IsTrail}
use Rattle.node_looks.specs.declared.trail.Trail.{Trail}
use Rattle.seq_model.specs.declared.job.Job.{Job}

abbrev pub KeepsTrail : Job → Option (Box Trail) → Type 0
KeepsTrail job kept = IfSome kept (λ (trail : Box Trail). IsTrail job trail.value)
