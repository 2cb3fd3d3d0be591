use Rattle.std.proofs.Common.{◌+◌, sym, subst, ◌∙◌}
use Rattle.mesh_slices.specs.Runs.{AreRunsOf}
use Rattle.mesh_slices.proofs.Grown.{zone_grown, next_zone}
use Rattle.mesh_slices.proofs.zones.add_above.Goals as goal

pub returns-then-goes_on : goal.returns-then-goes_on
returns-then-goes_on c S r o =
    let both = c.goes_on.ensures.0 c.if-goes_on.true in
    subst (AreRunsOf S (c.args.band + 1)) (sym c.in_ok-push.ensures.items) (zone_grown S c.args.band c.args.zones.now.items c.args.below c.args.corners.items r o both.0 (sym c.as_slice.ensures.value ∙ both.1))

pub returns : goal.returns
returns c S r o =
    next_zone S c.args.band c.args.zones.now.items _ _ c.args.below c.args.corners.items _ c.in_ok-push-2.ensures.items c.in_ok-push-3.ensures.items c.zone_at.ensures
    (λ e f. let t = c.goes_on.ensures.1 (e, c.as_slice.ensures.value ∙ f) in let u = c.if-goes_on.false in absurd cc) r o c.requires
