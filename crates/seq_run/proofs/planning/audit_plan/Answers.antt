use Rattle.std.proofs.Common.{rules, ◌≡◌, Some, List, ℕ, sym, subst}
use Rattle.audit_text.specs.AuditText.{audit_text}
use Rattle.run_files.specs.declared.words.Task.TheVariants.{Audit}
use Rattle.seq_run.specs.Planning.{PrintsFor}
use Rattle.seq_run.proofs.Answered.{audit_for}
use Rattle.seq_run.proofs.planning.audit_plan.Goals as goal

pub returns : goal.returns
returns c =
    let job = c.args.job.now in
    let plan = c.args.plan.now in
    let found = c.audit-found.result in
    let text : List ℕ = c.from_vec.result in
    let is : text ≡ audit_text job.printer.parts plan.file.plan.places found = search rules in
    let e = c.audit-found.ensures in
    subst (λ v. PrintsFor Audit job (Some plan) v text) (sym c.verdict_of_audit.ensures)
    (audit_for job plan found text e.verdict e.good.1 is)
