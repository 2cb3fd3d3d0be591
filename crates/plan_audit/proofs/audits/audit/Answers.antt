use Rattle.std.proofs.Common.{rules, FitsSigned, to_z-of_z}
use Rattle.std.specs.Int.{w128}
use Rattle.plan_audit.proofs.PlanLaws.{good_is_valid, one_verdict, verdict_of_plan}
use Rattle.plan_audit.proofs.audits.audit.Goals as goal

pub returns-clause-verdict : goal.returns-clause-verdict
returns-clause-verdict c =
    let fits : FitsSigned w128 c.args.plan.now.scale = search rules in
    verdict_of_plan c.args.job.now c.args.extent c.args.plan.now _ _ c.first_fault.result (to_z-of_z fits) c.as_slice.ensures c.first_fault.ensures

pub returns-clause-good : goal.returns-clause-good
returns-clause-good c =
    let fits : FitsSigned w128 c.args.plan.now.scale = search rules in
    good_is_valid c.args.job.now c.args.extent c.args.plan.now c.first_fault.result
    (verdict_of_plan c.args.job.now c.args.extent c.args.plan.now _ _ c.first_fault.result (to_z-of_z fits) c.as_slice.ensures c.first_fault.ensures)

pub returns-clause-only : goal.returns-clause-only
returns-clause-only c =
    let fits : FitsSigned w128 c.args.plan.now.scale = search rules in
    λ v is. one_verdict c.args.job.now c.args.extent c.args.plan.now c.first_fault.result v
    (verdict_of_plan c.args.job.now c.args.extent c.args.plan.now _ _ c.first_fault.result (to_z-of_z fits) c.as_slice.ensures c.first_fault.ensures) is
