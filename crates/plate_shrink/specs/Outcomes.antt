-- What a search for the least extent may answer.
--
--   IsCause job e budget cause     why the extent was left undecided: as a search of it may answer
--   IsTried job e budget tried     what an extent without a plan gave
--   IsAttempt job e budget a       a plan at the extent or below, or that
--   ExcludesBelow job e budget tree   the tree refutes the extent below, which is there but for extent 1
--   IsLeastOutcome ..              the plan is found at the extent, which is the least that has one, and the tree shows it
--   IsOpenOutcome ..               the plan is found at the extent, and the one below was left undecided by this cause
--   IsOutcome job budget outcome   what each answer shows
--   IsBudgetOutcome outcome        an extent was left undecided for want of budget
--   IsDecided outcome              the least extent is answered, or that there is none
--   HasNoWideJob job               at no extent a walk of a path of the job ends wide
--   failed_at failed               the extent that was tried without a plan, 0 where none was
--   kept_below failed e            what was tried below the extent
--   outcome_of best failed         what is answered where the two are neighbours
use Rattle.std.specs.Prelude.{◌≡◌, ℕ, ◌-◌, ◌≤◌, Option, Some, None, if◌then◌else◌, nat_lt}
use Rattle.node_looks.specs.Looks.{IsFound}
use Rattle.plate_shrink.specs.Fitting.{IsFitted}
use Rattle.plate_shrink.specs.declared.fitting.Fitted.{Fitted}
use Rattle.plate_shrink.specs.declared.outcome.Cause.{Cause}
use Rattle.plate_shrink.specs.declared.outcome.Cause.TheVariants as Causes
use Rattle.plate_shrink.specs.declared.outcome.Outcome.{Outcome}
use Rattle.plate_shrink.specs.declared.outcome.Outcome.TheVariants as Outcomes
use Rattle.plate_shrink.specs.declared.shrinking.Failed.{Failed}
use Rattle.plate_shrink.specs.declared.trying.Attempt.{Attempt}
use Rattle.plate_shrink.specs.declared.trying.Attempt.TheVariants as Attempts
use Rattle.plate_shrink.specs.declared.trying.Tried.{Tried}
use Rattle.plate_shrink.specs.declared.trying.Tried.TheVariants as Trials
use Rattle.refinement_loop.specs.Decisions.{HasNoWideWalk, IsRefutation, IsSpent, IsWideEnd}
use Rattle.seq_model.specs.Jobs.{scene_of_job}
use Rattle.seq_model.specs.Scenes.{Least}
use Rattle.seq_model.specs.declared.job.Job.{Job}
use Rattle.seq_model.specs.declared.plan.Plan.{Plan}
use Rattle.seq_model.specs.declared.tree.Tree.{Tree}

abbrev pub IsCause : Job → ℕ → ℕ → Cause → Type 0
IsCause job e budget (Causes.Budget tree) = IsSpent job e budget tree
IsCause job e budget (Causes.Wide note tree) = IsWideEnd job e note tree

abbrev pub IsTried : Job → ℕ → ℕ → Tried → Type 0
IsTried job e budget (Trials.Refuted tree) = IsRefutation job e budget tree
IsTried job e budget (Trials.Open cause) = IsCause job e budget cause

abbrev pub IsAttempt : Job → ℕ → ℕ → Attempt → Type 0
IsAttempt job e budget (Attempts.With fitted) = IsFitted job e fitted
IsAttempt job e budget (Attempts.Without tried) = IsTried job e budget tried

abbrev pub ExcludesBelow : Job → ℕ → ℕ → Option Tree → Type 0
ExcludesBelow job e budget None = e ≡ 1
ExcludesBelow job e budget (Some tree) = (2 ≤ e) × IsRefutation job (e - 1) budget tree

pub record IsLeastOutcome (job : Job) (budget : ℕ) (plan : Plan) (e : ℕ) (tree : Option Tree) : Type 0 where
  pub found : IsFound job e plan
  pub least : Least (scene_of_job job) e
  pub below : ExcludesBelow job e budget tree

pub record IsOpenOutcome (job : Job) (budget : ℕ) (plan : Plan) (e : ℕ) (cause : Cause) : Type 0 where
  pub found : IsFound job e plan
  pub from_two : 2 ≤ e
  pub below : IsCause job (e - 1) budget cause

abbrev pub IsOutcome : Job → ℕ → Outcome → Type 0
IsOutcome job budget (Outcomes.Least plan e tree) = IsLeastOutcome job budget plan e tree
IsOutcome job budget (Outcomes.NoPlan tree) = IsRefutation job job.printer.grid budget tree
IsOutcome job budget (Outcomes.Unproved plan e cause) = IsOpenOutcome job budget plan e cause
IsOutcome job budget (Outcomes.Undecided cause) = IsCause job job.printer.grid budget cause

abbrev pub IsBudgetCause : Cause → Type 0
IsBudgetCause (Causes.Budget tree) = Unit {0}
IsBudgetCause (Causes.Wide note tree) = ⊥

abbrev pub IsBudgetOutcome : Outcome → Type 0
IsBudgetOutcome (Outcomes.Least plan e tree) = ⊥
IsBudgetOutcome (Outcomes.NoPlan tree) = ⊥
IsBudgetOutcome (Outcomes.Unproved plan e cause) = IsBudgetCause cause
IsBudgetOutcome (Outcomes.Undecided cause) = IsBudgetCause cause

abbrev pub IsDecided : Outcome → Type 0
IsDecided (Outcomes.Least plan e tree) = Unit {0}
IsDecided (Outcomes.NoPlan tree) = Unit {0}
IsDecided (Outcomes.Unproved plan e cause) = ⊥
IsDecided (Outcomes.Undecided cause) = ⊥

abbrev pub HasNoWideJob : Job → Type 0
HasNoWideJob job = (e : ℕ) → 1 ≤ e → e ≤ job.printer.grid → HasNoWideWalk job e

abbrev pub failed_at : Option Failed → ℕ
failed_at None = 0
failed_at (Some failed) = failed.extent

abbrev nothing_failed : Option Failed
nothing_failed = None

abbrev pub kept_below : Option Failed → ℕ → Option Failed
kept_below None e = None
kept_below (Some failed) e = if nat_lt failed.extent e then Some failed else nothing_failed

abbrev pub outcome_with : Fitted → Tried → Outcome
outcome_with best (Trials.Refuted tree) = Outcomes.Least best.plan best.extent (Some tree)
outcome_with best (Trials.Open cause) = Outcomes.Unproved best.plan best.extent cause

abbrev pub outcome_of : Fitted → Option Failed → Outcome
outcome_of best None = Outcomes.Least best.plan best.extent None
outcome_of best (Some failed) = outcome_with best failed.tried
