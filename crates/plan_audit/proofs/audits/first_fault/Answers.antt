use Rattle.std.proofs.Common.{rules, FitsSigned, to_z-of_z, subst}
use Rattle.std.specs.Int.{w128}
use Rattle.plan_audit.specs.Faults.{FirstStray, FirstAbsent, FirstOff, FirstHit}
use Rattle.plan_audit.proofs.PlanLaws.{faultless_is_valid}
use Rattle.seq_model.specs.Jobs.{scene_of_job}
use Rattle.plan_audit.proofs.audits.first_fault.Goals as goal

pub returns-in-Some-first_off : goal.returns-in-Some-first_off
returns-in-Some-first_off c =
    let fits : FitsSigned w128 c.args.scale = search rules in
    let scene = scene_of_job c.args.job.now in
    let stray = subst (FirstStray scene c.args.places.now) c.in_default.is c.first_stray.ensures in
    let absent = subst (FirstAbsent scene c.args.places.now) c.in_default-first_absent.is c.first_absent.ensures in
    let off = subst (λ t. FirstOff scene c.args.extent t c.args.places.now c.first_off.result) (to_z-of_z fits) c.first_off.ensures in
    (stray, absent, subst (FirstOff scene c.args.extent c.args.scale c.args.places.now) c.in-Some-first_off.is off)

pub returns-in-Some-first_hit : goal.returns-in-Some-first_hit
returns-in-Some-first_hit c =
    let fits : FitsSigned w128 c.args.scale = search rules in
    let scene = scene_of_job c.args.job.now in
    let stray = subst (FirstStray scene c.args.places.now) c.in_default.is c.first_stray.ensures in
    let absent = subst (FirstAbsent scene c.args.places.now) c.in_default-first_absent.is c.first_absent.ensures in
    let off = subst (λ t. FirstOff scene c.args.extent t c.args.places.now c.first_off.result) (to_z-of_z fits) c.first_off.ensures in
    let hit = subst (λ t. FirstHit scene t c.args.places.now c.first_hit.result) (to_z-of_z fits) c.first_hit.ensures in
    (stray, absent, subst (FirstOff scene c.args.extent c.args.scale c.args.places.now) c.in_default-first_off.is off, subst (FirstHit scene c.args.scale c.args.places.now) c.in-Some-first_hit.is hit)

pub returns-in-None : goal.returns-in-None
returns-in-None c =
    let fits : FitsSigned w128 c.args.scale = search rules in
    let scene = scene_of_job c.args.job.now in
    let stray = subst (FirstStray scene c.args.places.now) c.in_default.is c.first_stray.ensures in
    let absent = subst (FirstAbsent scene c.args.places.now) c.in_default-first_absent.is c.first_absent.ensures in
    let off = subst (λ t. FirstOff scene c.args.extent t c.args.places.now c.first_off.result) (to_z-of_z fits) c.first_off.ensures in
    let hit = subst (λ t. FirstHit scene t c.args.places.now c.first_hit.result) (to_z-of_z fits) c.first_hit.ensures in
    faultless_is_valid c.args.job.now c.args.extent (record { scale = c.args.scale; places = c.args.places.now }) c.requires.from_one c.requires.to_grid c.requires.one stray absent
    (subst (FirstOff scene c.args.extent c.args.scale c.args.places.now) c.in_default-first_off.is off) (subst (FirstHit scene c.args.scale c.args.places.now) c.in-None.is hit)
