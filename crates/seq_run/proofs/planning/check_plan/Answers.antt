use Rattle.std.proofs.Common.{rules, ◌≡◌, Some, List, ℕ, sym, subst}
use Rattle.check_text.specs.CheckText.{check_text}
use Rattle.run_files.specs.declared.words.Task.TheVariants.{Check}
use Rattle.seq_run.specs.Planning.{PrintsFor}
use Rattle.seq_run.proofs.Claimed.{judgement_for}
use Rattle.seq_run.proofs.planning.check_plan.Goals as goal

pub returns : goal.returns
returns c =
    let job = c.args.job.now in
    let plan = c.args.plan.now in
    let judged = c.in_ok-judged.judged in
    let text : List ℕ = c.from_vec.result in
    let is : text ≡ check_text judged = search rules in
    let e = c.in_ok-judged.ensures in
    subst (λ v. PrintsFor Check job (Some plan) v text) (sym c.verdict_of_judgement.ensures)
    (judgement_for c.the_job_of_files_is_one.ensures job plan judged text e.is e.only e.sound is)
