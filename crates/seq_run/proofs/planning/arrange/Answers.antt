use Rattle.std.proofs.Common.{rules, ◌≡◌, List, ℕ, sym, subst}
use Rattle.decision_text.specs.DecisionText.{decision_text}
use Rattle.run_files.specs.declared.words.Task.TheVariants.{Arrange}
use Rattle.refinement_loop.specs.Decisions.{IsDecision}
use Rattle.seq_run.specs.Planning.{PrintsFor}
use Rattle.seq_run.proofs.Planned.{decision_file, decision_for}
use Rattle.seq_run.proofs.planning.arrange.Goals as goal

pub decision_text-requires : goal.decision_text-requires
decision_text-requires c =
    let job = c.args.job.now in
    let d = c.in_ok-decision.decision in
    let is : IsDecision job job.printer.grid c.args.budget d = search rules in
    decision_file job c.args.budget d is

pub returns : goal.returns
returns c = λ plan.
    (let job = c.args.job.now in
    let d = c.in_ok-decision.decision in
    let e = c.in_ok-decision.ensures in
    let text : List ℕ = c.from_vec.result in
    let is : text ≡ decision_text job.printer.grid d = search rules in
    subst (λ v. PrintsFor (Arrange c.args.strict c.args.budget) job plan v text) (sym c.verdict_of_decision-verdict.ensures)
    (decision_for c.args.strict c.args.budget plan job text d e.is e.zero e.unspent is))
