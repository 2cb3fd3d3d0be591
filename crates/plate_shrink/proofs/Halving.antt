-- Between an extent that has a plan and one that was tried without.
--
--   IsShrunk job budget best failed   a plan at the one, and below it what the other gave
use Rattle.std.proofs.Common.{◌≡◌, ℕ, ◌+◌, ◌-◌, ◌*◌, ◌<◌, ◌≤◌, Bool, true, false, Option, Some, None, [], ◌∷◌, refl, sym, subst, arith, if◌then◌else◌, nat_lt}
use Rattle.std.proofs.lemmas.Bool.{ltb-true}
use Rattle.model_laws.specs.Laws.Reading.{reads_weaker}
use Rattle.plate_shrink.specs.Fitting.{IsFitted}
use Rattle.plate_shrink.specs.Outcomes.{HasNoWideJob, IsBudgetOutcome, IsDecided, IsOutcome, IsTried, IsCause, IsBudgetCause, failed_at, kept_below, outcome_of, outcome_with}
use Rattle.plate_shrink.specs.declared.fitting.Fitted.{Fitted}
use Rattle.plate_shrink.specs.declared.outcome.Cause.{Cause}
use Rattle.plate_shrink.specs.declared.outcome.Cause.TheVariants as Causes
use Rattle.plate_shrink.specs.declared.outcome.Outcome.{Outcome}
use Rattle.plate_shrink.specs.declared.outcome.Outcome.TheVariants as Outcomes
use Rattle.plate_shrink.specs.declared.shrinking.Failed.{Failed}
use Rattle.plate_shrink.specs.declared.trying.Tried.{Tried}
use Rattle.plate_shrink.specs.declared.trying.Tried.TheVariants as Trials
use Rattle.node_looks.specs.Looks.{IsFound}
use Rattle.refinement_loop.specs.Decisions.{IsRefutation}
use Rattle.model_laws.specs.Laws.OnePath.{stands_at_path}
use Rattle.search_laws.specs.Laws.Refuting.{least_by_a_tree, least_at_one}
use Rattle.search_laws.specs.Laws.Shares.{spent_below_full}
use Rattle.seq_model.specs.Budgets.{Full}
use Rattle.seq_model.specs.Jobs.{scene_of_job}
use Rattle.seq_model.specs.Scenes.{Least, Valid}
use Rattle.seq_model.specs.Splits.{Grounded}
use Rattle.seq_model.specs.Trees.{IsClosed, IsSoundNode, TreeRefutes}
use Rattle.seq_model.specs.declared.job.Job.{Job}
use Rattle.seq_model.specs.declared.tree.Tree.{Tree}

abbrev pub IsFailed : Job → ℕ → Option Failed → Type 0
IsFailed job budget None = Unit {0}
IsFailed job budget (Some failed) = (1 ≤ failed.extent) × IsTried job failed.extent budget failed.tried

pub record IsShrunk (job : Job) (budget : ℕ) (best : Fitted) (failed : Option Failed) : Type 0 where
  pub fitted : IsFitted job job.printer.grid best
  pub below : failed_at failed < best.extent
  pub tried : IsFailed job budget failed

-- extents that may still be tried
pub left_over : Fitted → Option Failed → ℕ
left_over best failed = best.extent * 4294967296 + (best.extent - failed_at failed)

pub record Step (job : Job) (budget : ℕ) (best next : Fitted) (failed now : Option Failed) : Type 0 where
  pub keeps : IsShrunk job budget next now
  pub less : left_over next now < left_over best failed

kept : (job : Job) (budget e : ℕ) (failed : Option Failed) → 1 ≤ e → IsFailed job budget failed → (failed_at (kept_below failed e) < e) × IsFailed job budget (kept_below failed e)
kept job budget e None low was = (low, tt)
kept job budget e (Some failed) low was = by (nat_lt failed.extent e) refl
  where
    nothing : Option Failed
    nothing = None

    none : (n : ℕ) → 1 ≤ n → 0 < n
    none n h = omega (arith, h)

    by : (b : Bool) → nat_lt failed.extent e ≡ b → (failed_at (if b then Some failed else None) < e) × IsFailed job budget (if b then Some failed else None)
    by true is = (ltb-true failed.extent e is, was)
    by false is = (none e low, tt)

pub found_step : (job : Job) (budget middle : ℕ) (best next : Fitted) (failed now : Option Failed) → IsShrunk job budget best failed → middle < best.extent → IsFitted job middle next
    → now ≡ kept_below failed next.extent → Step job budget best next failed now
unfolding left_over
found_step job budget middle best next failed now s low fitted is =
    subst (Step job budget best next failed) (sym is)
    (record {
      keeps = record {
        fitted = record { low = fitted.low; high = omega (arith, fitted.high, low, s.fitted.high); found = fitted.found };
        below = rest.0;
        tried = rest.1;
      };
      less = omega (arith, fitted.high, low, s.fitted.high, job.printer.ranged.grid_high);
    })
  where
    rest : (failed_at (kept_below failed next.extent) < next.extent) × IsFailed job budget (kept_below failed next.extent)
    rest = kept job budget next.extent failed fitted.low s.tried

pub failed_step : (job : Job) (budget middle : ℕ) (best : Fitted) (failed now : Option Failed) (tried : Tried) → IsShrunk job budget best failed → failed_at failed < middle → middle < best.extent
    → IsTried job middle budget tried → now ≡ Some (record { extent = middle; tried = tried }) → Step job budget best best failed now
unfolding left_over
failed_step job budget middle best failed now tried s low high is now_is =
    subst (Step job budget best best failed) (sym now_is)
    (record {
      keeps = record { fitted = s.fitted; below = high; tried = (omega (arith, low), is) };
      less = omega (arith, low, high);
    })

-- ---- where the two are neighbours
refutes : (job : Job) (e budget : ℕ) (tree : Tree) → IsRefutation job e budget tree → TreeRefutes job e tree
refutes job e budget tree is =
    reads_weaker job (λ path node. (IsSoundNode job e path node × IsClosed node) × Grounded job e path node) (λ path node. IsSoundNode job e path node × IsClosed node) (λ path node g. g.0)
    tree.nodes ([] ∷ []) [] is.certificate

at_one : (job : Job) (budget : ℕ) (best : Fitted) → IsFound job best.extent best.plan → best.extent ≡ 1 → IsOutcome job budget (Outcomes.Least best.plan best.extent None)
at_one job budget best found is = record {
  found = found;
  least = subst (Least (scene_of_job job)) (sym is) (least_at_one job best.plan (subst (λ e. Valid (scene_of_job job) e best.plan) is found.valid));
  below = is;
}

next_to : (job : Job) (budget e : ℕ) (best : Fitted) (tried : Tried) → IsFound job best.extent best.plan → best.extent ≡ e + 1 → 1 ≤ e → IsTried job e budget tried
    → IsOutcome job budget (outcome_with best tried)
next_to job budget e best (Trials.Refuted tree) found is low tried = record {
  found = found;
  least = subst (Least (scene_of_job job)) (sym is)
      (least_by_a_tree job e best.plan tree (subst (λ n. Valid (scene_of_job job) n best.plan) is found.valid) (refutes job e budget tree tried));
  below = (omega (arith, is, low), subst (λ n. IsRefutation job n budget tree) (before best.extent e is) tried);
}
  where
    before : (n m : ℕ) → n ≡ m + 1 → m ≡ n - 1
    before n m h = omega (arith, h)
next_to job budget e best (Trials.Open cause) found is low tried = record {
  found = found;
  from_two = omega (arith, is, low);
  below = subst (λ n. IsCause job n budget cause) (before best.extent e is) tried;
}
  where
    before : (n m : ℕ) → n ≡ m + 1 → m ≡ n - 1
    before n m h = omega (arith, h)

pub ends : (job : Job) (budget : ℕ) (best : Fitted) (failed : Option Failed) → IsShrunk job budget best failed → best.extent ≤ failed_at failed + 1 → IsOutcome job budget (outcome_of best failed)
ends job budget best None s near = at_one job budget best s.fitted.found (omega (arith, near, s.fitted.low))
ends job budget best (Some failed) s near = next_to job budget failed.extent best failed.tried s.fitted.found (omega (arith, near, s.below)) s.tried.0 s.tried.1

-- ---- what follows where the budget is Full
no_budget : (job : Job) (e budget full : ℕ) (cause : Cause) → Full job full → full ≤ budget → IsCause job e budget cause → IsBudgetCause cause → ⊥
no_budget job e budget full (Causes.Budget tree) is enough shows spent =
    let below : budget < full = spent_below_full job e full budget tree is shows.spent in omega (arith, below, enough)
no_budget job e budget full (Causes.Wide note tree) is enough shows spent = spent

pub never_spent : (job : Job) (budget full : ℕ) (outcome : Outcome) → Full job full → full ≤ budget → IsOutcome job budget outcome → IsBudgetOutcome outcome → ⊥
never_spent job budget full (Outcomes.Least plan e tree) is enough shows spent = spent
never_spent job budget full (Outcomes.NoPlan tree) is enough shows spent = spent
never_spent job budget full (Outcomes.Unproved plan e cause) is enough shows spent = no_budget job (e - 1) budget full cause is enough shows.below spent
never_spent job budget full (Outcomes.Undecided cause) is enough shows spent = no_budget job job.printer.grid budget full cause is enough shows spent

no_cause : (job : Job) (e budget full : ℕ) (cause : Cause) → Full job full → full ≤ budget → HasNoWideJob job → 1 ≤ e → e ≤ job.printer.grid → IsCause job e budget cause → ⊥
no_cause job e budget full (Causes.Budget tree) is enough narrow low high shows =
    let below : budget < full = spent_below_full job e full budget tree is shows.spent in omega (arith, below, enough)
no_cause job e budget full (Causes.Wide note tree) is enough narrow low high shows =
    narrow e low high shows.noted.path (stands_at_path job e tree note.node shows.noted.path shows.unfinished shows.noted.path_is) (note.basis, note.row, shows.noted.wide)

pub decides : (job : Job) (budget full : ℕ) (outcome : Outcome) → Full job full → full ≤ budget → HasNoWideJob job → IsOutcome job budget outcome → IsDecided outcome
decides job budget full (Outcomes.Least plan e tree) is enough narrow shows = tt
decides job budget full (Outcomes.NoPlan tree) is enough narrow shows = tt
decides job budget full (Outcomes.Unproved plan e cause) is enough narrow shows = no_cause job (e - 1) budget full cause is enough narrow (omega (arith, shows.from_two)) (omega (arith, shows.found.valid.to_grid)) shows.below
decides job budget full (Outcomes.Undecided cause) is enough narrow shows = no_cause job job.printer.grid budget full cause is enough narrow job.printer.ranged.grid_low (omega arith) shows
