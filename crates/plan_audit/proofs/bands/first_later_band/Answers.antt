use Rattle.std.proofs.Common.{subst}
use Rattle.plan_audit.proofs.FirstLaws.{step}
use Rattle.plan_audit.proofs.PairLaws.{later_band}
use Rattle.plan_audit.specs.Firsts.{IsFirst, Less, Sooner}
use Rattle.plan_audit.specs.Steps.{EarlierHits, LaterHits}
use Rattle.seq_model.specs.Jobs.{scene_of_job}
use Rattle.plan_audit.proofs.bands.first_later_band.Goals as goal

pub loop-band-preserved : goal.loop-band-preserved
loop-band-preserved c =
    step (LaterHits (scene_of_job c.args.job.now) c.args.i c.args.j c.args.at.now) (Sooner Less)
    c.loop-band.band c.loop-band.invariant (λ x k. c.in_default.ensures x k.1)

pub returns-in-Some : goal.returns-in-Some
returns-in-Some c =
    later_band c.args.job.now c.args.i c.args.j c.args.at.now c.loop-band.band c.in-Some.rest _ _ c.requires.later_known c.as_slice.ensures c.loop-band-test.true c.loop-band.invariant
    (subst (IsFirst (EarlierHits (scene_of_job c.args.job.now) c.args.i ((scene_of_job c.args.job.now).spots c.args.j c.loop-band.band) c.loop-band.band c.args.at.now) (Sooner Less)) c.in-Some.is c.in_later_band.ensures)
