use Rattle.std.proofs.Common.{subst}
use Rattle.plan_audit.proofs.PairLaws.{band_some, band_none}
use Rattle.plan_audit.specs.Firsts.{IsFirst, Less}
use Rattle.plan_audit.specs.Steps.{Holds, PartHits}
use Rattle.seq_model.specs.declared.job.Zone.{Zone}
use Rattle.plan_audit.proofs.bands.in_band.Goals as goal

pub returns-in-Some : goal.returns-in-Some
returns-in-Some c =
    let holds = (subst (IsFirst (Holds c.as_slice-zones.result.now c.args.band) Less) c.in-Some.is c.zone_in.ensures).0 in
    band_some c.args.job.now c.args.i c.args.band c.in-Some.z c.args.b.now.corners c.args.later_band c.args.at.now _ _ c.as_slice-zones.result.now _ c.as_slice-in-Some.result.now c.first_part.result
    c.requires.known c.as_slice.ensures c.as_slice-zones.ensures c.as_slice-in-Some.ensures holds
    (subst (λ (z : Zone). IsFirst (PartHits c.as_slice-in-Some.result.now z.corners c.args.b.now.corners c.args.later_band c.args.band c.args.at.now) Less c.first_part.result) c.index-zones-z.is c.first_part.ensures)

pub returns-in-None : goal.returns-in-None
returns-in-None c =
    let none = subst (IsFirst (Holds c.as_slice-zones.result.now c.args.band) Less) c.in-None.is c.zone_in.ensures in
    band_none c.args.job.now c.args.i c.args.band c.args.b.now.corners c.args.later_band c.args.at.now _ _ c.as_slice-zones.result.now c.requires.known c.as_slice.ensures c.as_slice-zones.ensures none
