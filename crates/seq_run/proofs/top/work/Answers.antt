use Rattle.std.proofs.Common.{rules, sym, subst}
use Rattle.seq_io.specs.Views.{ShelfView}
use Rattle.run_files.specs.Jobs.{IsLoaded}
use Rattle.seq_run.specs.Printed.{Answers}
use Rattle.seq_run.proofs.Answered.{answered, can_work_on}
use Rattle.seq_run.proofs.top.work.Goals as goal

pub answer_of-requires : goal.answer_of-requires
answer_of-requires g c =
    let a = c.args.asked.now in
    let s : ShelfView = g.S.Shelf.shows c.args.shelf.now in
    let l = c.in_ok-loaded.loaded in
    let is : IsLoaded s.files a l.job l.plan l.notes = search rules in
    can_work_on s.files a l.job l.plan l.notes c.requires is

pub returns-clause-answers : goal.returns-clause-answers
returns-clause-answers g c =
    let a = c.args.asked.now in
    let s : ShelfView = g.S.Shelf.shows c.args.shelf.now in
    let l = c.in_ok-loaded.loaded in
    let is : IsLoaded s.files a l.job l.plan l.notes = search rules in
    let x = c.in_ok-answer.answer in
    let e = c.in_ok-answer.ensures in
    subst (λ ns. Answers s.files a x.verdict ns x.text) (sym e.notes) (answered s.files a l.job l.plan l.notes x.text x.verdict is e.prints)
