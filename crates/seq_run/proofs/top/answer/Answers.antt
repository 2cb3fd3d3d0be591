use Rattle.std.proofs.Common.{sym, subst}
use Rattle.seq_io.specs.Views.{ShelfView, SinkView}
use Rattle.seq_run.specs.Runs.{AskedEnds}
use Rattle.seq_run.proofs.Ended.{stop_ends}
use Rattle.run_files.specs.Laws.Stopping.{told_explains}
use Rattle.seq_run.proofs.top.answer.Goals as goal

pub returns-in-Ok-tell : goal.returns-in-Ok-tell
returns-in-Ok-tell g c =
    let a = c.args.asked.now in
    let s : ShelfView = g.S.Shelf.shows c.args.shelf.now in
    let s' : ShelfView = g.S.Shelf.shows c.work.new.shelf in
    let e : SinkView = g.E.Sink.shows c.args.err.now in
    let e' : SinkView = g.E.Sink.shows c.tell.new.err in
    let o : SinkView = g.O.Sink.shows c.args.out.now in
    let told = c.in-Ok-tell in
    let why = told_explains a s s' c.in-Err.stop told.told told.ensures.told c.in-Err.ensures.why in
    subst (AskedEnds a s s' e e' o o) (sym c.status_of.ensures) (stop_ends a s s' e e' o told.told why told.ensures.line)
