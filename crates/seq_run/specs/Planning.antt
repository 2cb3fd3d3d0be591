-- What the parts of a run print. Only contracts of the crate's own functions speak of it.
--
--   CanWorkOn task job plan          there are as many objects as the task is built for, and the plan that it needs
--   PrintsFor task job plan v text   the text is one of this verdict, whatever files the job and the plan are of
--   verdict_of_decision, verdict_of_outcome   the verdict of a search of the whole plate, and of the least extent
--   verdict_of_audit, verdict_of_judgement    the verdict of an audit, and of a judgement
use Rattle.std.specs.Prelude.{◌≡◌, ℕ, List, length, Option, Some, None}
use Rattle.claim_checker.specs.Claims.{HasBlock, excluded_by}
use Rattle.claim_checker.specs.declared.verdict.Judgement.{Judgement}
use Rattle.claim_checker.specs.declared.verdict.Judgement.TheVariants as Judgements
use Rattle.plan_audit.specs.declared.verdict.Verdict.{Verdict as Audit}
use Rattle.plan_audit.specs.declared.verdict.Verdict.TheVariants as Audits
use Rattle.plan_text.specs.PlanText.{IsPlanFile}
use Rattle.plate_shrink.specs.declared.outcome.Outcome.{Outcome}
use Rattle.plate_shrink.specs.declared.outcome.Outcome.TheVariants as Outcomes
use Rattle.refinement_loop.specs.declared.deciding.Decision.{Decision}
use Rattle.refinement_loop.specs.declared.deciding.Decision.TheVariants as Decisions
use Rattle.run_files.specs.Files.{Inputs}
use Rattle.run_files.specs.Jobs.{IsJobOf}
use Rattle.run_files.specs.Words.{IsBudgetFor, IsManyFor}
use Rattle.run_files.specs.declared.plans.GivenPlan.{GivenPlan}
use Rattle.run_files.specs.declared.words.Task.{Task}
use Rattle.run_files.specs.declared.words.Task.TheVariants as Tasks
use Rattle.seq_model.specs.declared.job.Job.{Job}
use Rattle.seq_run.specs.Printed.{Prints}
use Rattle.seq_run.specs.declared.status.Verdict.{Verdict}
use Rattle.seq_run.specs.declared.status.Verdict.TheVariants as Verdicts

abbrev pub CanBeJudged : GivenPlan → Type 0
CanBeJudged plan = IsPlanFile plan.file × HasBlock (excluded_by plan.file) plan.block

abbrev pub HasPlanFor : Task → Option GivenPlan → Type 0
HasPlanFor (Tasks.Arrange strict budget) plan = Unit {0}
HasPlanFor (Tasks.Least strict budget) plan = Unit {0}
HasPlanFor Tasks.Audit None = ⊥
HasPlanFor Tasks.Audit (Some plan) = IsPlanFile plan.file
HasPlanFor Tasks.Check None = ⊥
HasPlanFor Tasks.Check (Some plan) = CanBeJudged plan
HasPlanFor Tasks.Slices plan = Unit {0}

pub record CanWorkOn (task : Task) (job : Job) (plan : Option GivenPlan) : Type 0 where
  pub many : IsManyFor task (length job.objects)
  pub has_plan : HasPlanFor task plan
  pub budget : IsBudgetFor task

pub record PrintsFor (task : Task) (job : Job) (plan : Option GivenPlan) (verdict : Verdict) (text : List ℕ) : Type 0 where
  pub each : (inputs : Inputs) → IsJobOf inputs.description inputs.meshes job → inputs.plan ≡ plan → Prints task inputs verdict text

abbrev pub verdict_of_decision : Decision → Verdict
verdict_of_decision (Decisions.Found plan) = Verdicts.Done
verdict_of_decision (Decisions.Refuted tree) = Verdicts.NoPlan
verdict_of_decision (Decisions.Spent tree) = Verdicts.Undecided
verdict_of_decision (Decisions.Wide note tree) = Verdicts.Undecided

abbrev pub verdict_of_outcome : Outcome → Verdict
verdict_of_outcome (Outcomes.Least plan e tree) = Verdicts.Done
verdict_of_outcome (Outcomes.NoPlan tree) = Verdicts.NoPlan
verdict_of_outcome (Outcomes.Unproved plan e cause) = Verdicts.Open
verdict_of_outcome (Outcomes.Undecided cause) = Verdicts.Undecided

abbrev pub verdict_of_audit : Audit → Verdict
verdict_of_audit Audits.Good = Verdicts.Done
verdict_of_audit (Audits.Stray k) = Verdicts.Fault
verdict_of_audit (Audits.Absent o) = Verdicts.Fault
verdict_of_audit (Audits.OffPlate k) = Verdicts.Fault
verdict_of_audit (Audits.Collides h) = Verdicts.Fault

abbrev pub verdict_of_judgement : Judgement → Verdict
verdict_of_judgement (Judgements.Passes x) = Verdicts.Done
verdict_of_judgement (Judgements.Fails fault) = Verdicts.Fault
