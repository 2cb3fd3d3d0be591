use Rattle.std.proofs.Common.{rules, ◌≡◌, length, subst, arith}
use Rattle.seq_io.specs.Views.{ShelfView}
use Rattle.run_files.specs.Loading.{Loading}
use Rattle.run_files.proofs.meshes.load_meshes.Goals as goal

pub returns-in_err-load_next-clause-why : goal.returns-in_err-load_next-clause-why
returns-in_err-load_next-clause-why g c = λ s plan l.
    (let why = c.load_next.ensures.why s plan (c.loop-number.invariant s plan l) in
    search rules)

pub loop-number-preserved : goal.loop-number-preserved
loop-number-preserved g c = λ s plan l. c.in_ok-load_next.ensures.next s plan (c.loop-number.invariant s plan l)

pub returns-clause-all : goal.returns-clause-all
returns-clause-all g c = λ s plan l.
    (let s' : ShelfView = g.S.Shelf.shows c.loop-number.shelf in
    let found = c.loop-number.found in
    let done : c.loop-number.number ≡ length c.args.asked.now.meshes = omega arith in
    subst (λ k. Loading c.args.asked.now c.args.printer.now plan k s s' found.objects found.notes.items) done (c.loop-number.invariant s plan l))
