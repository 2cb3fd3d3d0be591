use Rattle.std.proofs.Common.{rules, ◌≡◌, Ok}
use Rattle.seq_io.specs.Views.{ShelfView, SinkView}
use Rattle.run_files.specs.Words.{requested}
use Rattle.run_files.specs.declared.words.Request.TheVariants.{Trial}
use Rattle.seq_words.specs.Usages.{texts}
use Rattle.seq_run.proofs.Ended.{trial_ends}
use Rattle.seq_run.proofs.top.end.Goals as goal

pub returns-in-Ok-Trial : goal.returns-in-Ok-Trial
returns-in-Ok-Trial g c =
    let words = texts c.args.words.now.items in
    let s : ShelfView = g.S.Shelf.shows c.args.shelf.now in
    let e : SinkView = g.E.Sink.shows c.args.err.now in
    let e' : SinkView = g.E.Sink.shows c.try_files.new.err in
    let o : SinkView = g.O.Sink.shows c.args.out.now in
    let o' : SinkView = g.O.Sink.shows c.try_files.new.out in
    let accepted : requested words ≡ Ok (Trial c.in-Ok-Trial.objects c.in-Ok-Trial.seed) = search rules in
    trial_ends words c.in-Ok-Trial.objects c.in-Ok-Trial.seed s e e' o o' c.try_files.result accepted c.try_files.ensures
