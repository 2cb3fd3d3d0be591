use Rattle.std.proofs.Common.{rules, ◌≡◌, List, ℕ, sym, subst}
use Rattle.decision_text.specs.DecisionText.{outcome_text}
use Rattle.plate_shrink.specs.Outcomes.{IsOutcome}
use Rattle.run_files.specs.declared.words.Task.TheVariants.{Least}
use Rattle.seq_run.specs.Planning.{PrintsFor}
use Rattle.seq_run.proofs.Planned.{outcome_file, outcome_for}
use Rattle.seq_run.proofs.planning.shrink.Goals as goal

pub outcome_text-requires : goal.outcome_text-requires
outcome_text-requires c =
    let job = c.args.job.now in
    let outcome = c.in_ok-outcome.outcome in
    let is : IsOutcome job c.args.budget outcome = search rules in
    outcome_file job c.args.budget outcome is

pub returns : goal.returns
returns c = λ plan.
    (let job = c.args.job.now in
    let outcome = c.in_ok-outcome.outcome in
    let e = c.in_ok-outcome.ensures in
    let text : List ℕ = c.from_vec.result in
    let is : text ≡ outcome_text job.printer.grid outcome = search rules in
    subst (λ v. PrintsFor (Least c.args.strict c.args.budget) job plan v text) (sym c.verdict_of_outcome-verdict.ensures)
    (outcome_for c.args.strict c.args.budget plan job text outcome e.is e.unspent is))
