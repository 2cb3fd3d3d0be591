use Rattle.std.proofs.Common.{List, ap, sym, subst, ◌∙◌}
use Rattle.node_looks.proofs.LeafLaws.{small_den}
use Rattle.node_looks.proofs.Scaling.{found_plan, unscaled}
use Rattle.seq_model.specs.Jobs.{scene_of_job}
use Rattle.seq_model.specs.Scenes.{Valid}
use Rattle.seq_model.specs.declared.plan.Place.{Place}
use Rattle.node_looks.proofs.plans.plan_at.Goals as goal

pub returns-clause-found : goal.returns-clause-found
returns-clause-found c =
    let site = c.args.site.now in
    let den = site.at.den in
    let same = c.deref.ensures.value ∙ c.in_ok-places.ensures.value in
    found_plan site.job.now site.extent den c.deref.result.now c.in_ok-plan.plan c.requires.site.point.one (small_den den c.requires.site.point.one c.requires.site.point.small)
    (subst (λ (ps : List Place). Valid (scene_of_job site.job.now) site.extent (record { scale = den; places = ps })) (sym same) c.requires.valid)
    c.in_ok-plan.ensures.over c.in_ok-plan.ensures.each

pub returns-clause-unscaled : goal.returns-clause-unscaled
returns-clause-unscaled c = λ one.
    let den = c.args.site.now.at.den in
    let same = c.deref.ensures.value ∙ c.in_ok-places.ensures.value in
    unscaled den c.deref.result.now c.in_ok-plan.plan one c.in_ok-plan.ensures.over ∙ ap (λ (ps : List Place). record { scale = den; places = ps }) same
