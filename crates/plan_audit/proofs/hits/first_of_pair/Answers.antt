use Rattle.std.proofs.Common.{rules, FitsSigned, to_z-of_z, ap, ◌∙◌}
use Rattle.std.specs.Int.{w128}
use Rattle.plan_audit.proofs.PairLaws.{no_pair, clear}
use Rattle.plan_audit.specs.Places.{gap}
use Rattle.plan_audit.proofs.hits.first_of_pair.Goals as goal

pub returns-then-not-objects_hit : goal.returns-then-not-objects_hit
returns-then-not-objects_hit c =
    let fits : FitsSigned w128 c.args.scale = search rules in
    no_pair c.args.job.now c.args.earlier.now.object c.args.later.now.object c.gap-at.result (gap c.args.scale c.args.earlier.now c.args.later.now) c.requires.known c.requires.later_known
    (c.gap-at.ensures.value ∙ ap (λ s. gap s c.args.earlier.now c.args.later.now) (to_z-of_z fits)) (clear c.if-not-objects_hit.true c.objects_hit.ensures)
