use Rattle.std.proofs.Common.{sym, subst}
use Rattle.seq_io.specs.Views.{ShelfView}
use Rattle.run_files.specs.Files.{name_in}
use Rattle.run_files.specs.Plans.{IsOnlyBy}
use Rattle.run_files.specs.Stops.{Explains}
use Rattle.run_files.specs.declared.stop.NamedFile.TheVariants.{Plan}
use Rattle.run_files.proofs.ReadLaws.{unread}
use Rattle.run_files.proofs.Stated.{one_named}
use Rattle.run_files.proofs.plans.load_named_plan.Goals as goal

pub returns-in-Err-clause-why : goal.returns-in-Err-clause-why
returns-in-Err-clause-why g c = λ s due.
    (let a = c.args.asked.now in
    let s1 : ShelfView = g.S.Shelf.shows c.args.shelf.now in
    let s' : ShelfView = g.S.Shelf.shows c.read_file.new.shelf in
    subst (Explains a s s') (sym c.stop_of.ensures) (unread a Plan s s1 s' c.in-Err.why due c.in-Err.ensures.why))

pub returns-in-Ok-plan_of-clause-only : goal.returns-in-Ok-plan_of-clause-only
returns-in-Ok-plan_of-clause-only g c =
    let a = c.args.asked.now in
    let s1 : ShelfView = g.S.Shelf.shows c.args.shelf.now in
    one_named s1.files a.task (name_in a Plan) c.in-Ok.bytes.items c.in-Ok-plan_of.plan c.in-Ok.ensures.bytes
    (subst (λ b. IsOnlyBy a.task b c.in-Ok-plan_of.plan) c.deref.ensures.value c.in-Ok-plan_of.ensures.only)
