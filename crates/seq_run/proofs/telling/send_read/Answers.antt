use Rattle.std.proofs.Common.{rules, ◌++◌, codes}
use Rattle.std.proofs.lemmas.Result.{on_err_weaker}
use Rattle.seq_io.specs.Taken.{BrokeIn, Wrote}
use Rattle.seq_io.specs.Views.{SinkView}
use Rattle.run_lines.specs.Messages.{read_line}
use Rattle.seq_run.proofs.Pieces.{BrokeIn-append, BrokeIn-front}
use Rattle.seq_run.proofs.telling.send_read.Goals as goal

pub returns-in_err-write_all-clause-part : goal.returns-in_err-write_all-clause-part
returns-in_err-write_all-clause-part g c =
    let name = c.args.name.now in
    let u : SinkView = g.E.Sink.shows c.args.err.now in
    let v : SinkView = g.E.Sink.shows c.write_all.new.sink in
    let broke : BrokeIn (codes "read: ") u v = search rules in
    let part : BrokeIn (read_line name) u v = BrokeIn-front (codes "read: ") (name ++ codes "\n") u v broke in
    search rules

pub returns-in_err-write_all-2-clause-part : goal.returns-in_err-write_all-2-clause-part
returns-in_err-write_all-2-clause-part g c =
    let name = c.args.name.now in
    let u : SinkView = g.E.Sink.shows c.args.err.now in
    let v : SinkView = g.E.Sink.shows c.write_all.new.sink in
    let w : SinkView = g.E.Sink.shows c.write_all-2.new.sink in
    let first : Wrote (codes "read: ") u v = search rules in
    let broke : BrokeIn name v w = search rules in
    let part : BrokeIn (read_line name) u w = BrokeIn-append (codes "read: ") (name ++ codes "\n") u v w first (BrokeIn-front name (codes "\n") v w broke) in
    search rules

pub returns-clause-part : goal.returns-clause-part
returns-clause-part g c =
    let name = c.args.name.now in
    let u : SinkView = g.E.Sink.shows c.args.err.now in
    let v : SinkView = g.E.Sink.shows c.write_all.new.sink in
    let w : SinkView = g.E.Sink.shows c.write_all-2.new.sink in
    let x : SinkView = g.E.Sink.shows c.write_all-3.new.sink in
    let first : Wrote (codes "read: ") u v = search rules in
    let second : Wrote name v w = search rules in
    on_err_weaker c.write_all-3.result (λ broke. BrokeIn-append (codes "read: ") (name ++ codes "\n") u v x first (BrokeIn-append name (codes "\n") v w x second broke)) c.write_all-3.ensures.part
