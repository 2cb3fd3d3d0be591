use Rattle.std.proofs.Common.{rules, ◌+◌, ◌++◌, ◌∷◌, [], sym, subst}
use Rattle.seq_io.specs.Views.{ShelfView}
use Rattle.run_files.specs.Files.{name_in}
use Rattle.run_files.specs.Loading.{IsFitted, Loading}
use Rattle.run_files.specs.declared.stop.NamedFile.TheVariants.{Mesh}
use Rattle.run_files.proofs.Loadings.{loaded_more, unkept_mesh}
use Rattle.run_files.proofs.meshes.load_next.Goals as goal

pub returns-in_err-fitted-clause-why : goal.returns-in_err-fitted-clause-why
returns-in_err-fitted-clause-why g c = λ s plan l.
    (let why = c.fit_file.ensures.why s plan c.args.found.now.objects c.args.found.now.notes.items l in
    search rules)

pub returns-in-Ok-clause-next : goal.returns-in-Ok-clause-next
returns-in-Ok-clause-next g c = λ s plan l.
    (let a = c.args.asked.now in
    let k = c.args.number in
    let printer = c.args.printer.now in
    let s1 : ShelfView = g.S.Shelf.shows c.args.shelf.now in
    let s' : ShelfView = g.S.Shelf.shows c.fit_file.new.shelf in
    let objects = c.args.found.now.objects in
    let notes = c.args.found.now.notes.items in
    let fitted = c.in_ok-fitted.fitted in
    let is : IsFitted s1.files a.task (name_in a (Mesh k)) printer fitted.object fitted.note = search rules in
    let more = loaded_more a printer plan k s s1 s' objects notes fitted.object fitted.note l c.requires c.in_ok-fitted.ensures.files c.in_ok-fitted.ensures.read is in
    subst (λ os. Loading a printer plan (k + 1) s s' os c.keep.new.found.notes.items) (sym c.in-Ok.ensures.objects)
    (subst (λ ns. Loading a printer plan (k + 1) s s' (objects ++ fitted.object ∷ []) ns) (sym c.in-Ok.ensures.notes) more))

pub returns-in-Err-clause-why : goal.returns-in-Err-clause-why
returns-in-Err-clause-why g c = λ s plan l.
    unkept_mesh c.args.asked.now c.args.printer.now plan c.args.number s (g.S.Shelf.shows c.args.shelf.now) (g.S.Shelf.shows c.fit_file.new.shelf) c.args.found.now.objects c.args.found.now.notes.items l c.requires c.in_ok-fitted.ensures.read
