use Rattle.std.proofs.Common.{sym, subst, ◌∙◌}
use Rattle.mesh_slices.specs.Objects.{IsOutlineOf}
use Rattle.mesh_slices.specs.Runs.{AreRunsOf}
use Rattle.mesh_slices.proofs.Grown.{nothing_added, first_zone}
use Rattle.mesh_slices.proofs.zones.add_band.Goals as goal

pub returns-then-are_none : goal.returns-then-are_none
returns-then-are_none c S r o =
    let none = c.are_none.ensures.0 c.if-are_none.true in
    nothing_added S c.args.band c.args.zones.now.items r (subst (IsOutlineOf (S c.args.band)) (sym c.as_slice.ensures.value ∙ none) o)

pub returns-in_default : goal.returns-in_default
returns-in_default c S r o =
    first_zone S c.args.band _ _ _ c.args.corners.items _ c.in_default.ensures.none c.in_default.ensures.empty c.in_ok-push.ensures.items c.zone_at.ensures r o
    (λ e. let t = c.are_none.ensures.1 (c.as_slice.ensures.value ∙ e) in let u = c.if-are_none.false in absurd cc)

pub returns : goal.returns
returns c S r o = c.in_ok-add_above.ensures S (subst (AreRunsOf S c.args.band) c.in-Some.ensures.some r) o
