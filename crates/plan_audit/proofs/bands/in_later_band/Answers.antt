use Rattle.std.proofs.Common.{subst}
use Rattle.plan_audit.proofs.PairLaws.{later_some, later_none}
use Rattle.plan_audit.specs.Firsts.{IsFirst, Less, Sooner}
use Rattle.plan_audit.specs.Steps.{Holds, EarlierHits}
use Rattle.seq_model.specs.Jobs.{scene_of_job}
use Rattle.seq_model.specs.declared.job.Zone.{Zone}
use Rattle.plan_audit.proofs.bands.in_later_band.Goals as goal

pub returns-in-Some : goal.returns-in-Some
returns-in-Some c =
    let holds = (subst (IsFirst (Holds c.as_slice-zones.result.now c.args.band) Less) c.in-Some.is c.zone_in.ensures).0 in
    later_some c.args.job.now c.args.i c.args.j c.args.band c.in-Some.z c.args.at.now _ _ c.as_slice-zones.result.now _ c.first_band.result
    c.requires.later_known c.as_slice.ensures c.as_slice-zones.ensures holds
    (subst (λ (z : Zone). IsFirst (EarlierHits (scene_of_job c.args.job.now) c.args.i z.corners c.args.band c.args.at.now) (Sooner Less) c.first_band.result) c.index-zones-z.is c.first_band.ensures)

pub returns-in-None : goal.returns-in-None
returns-in-None c =
    let none = subst (IsFirst (Holds c.as_slice-zones.result.now c.args.band) Less) c.in-None.is c.zone_in.ensures in
    later_none c.args.job.now c.args.i c.args.j c.args.band c.args.at.now _ _ c.as_slice-zones.result.now c.requires.later_known c.as_slice.ensures c.as_slice-zones.ensures none
