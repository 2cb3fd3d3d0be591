use Rattle.std.proofs.Common.{rules, sym, subst}
use Rattle.seq_io.specs.Views.{ShelfView}
use Rattle.run_files.specs.Files.{IsMeshFile, name_in}
use Rattle.run_files.specs.Stops.{Explains}
use Rattle.run_files.specs.declared.stop.NamedFile.TheVariants.{Mesh}
use Rattle.run_files.proofs.Loadings.{mesh_due, unfit_stops}
use Rattle.run_files.proofs.meshes.fit_file.Goals as goal

pub returns-in_err-mesh-clause-why : goal.returns-in_err-mesh-clause-why
returns-in_err-mesh-clause-why g c = λ s plan objects notes l.
    (let a = c.args.asked.now in
    let s1 : ShelfView = g.S.Shelf.shows c.args.shelf.now in
    let why = c.load_mesh.ensures.why s (mesh_due a c.args.printer.now plan c.args.number s s1 objects notes l c.requires) in
    search rules)

pub returns-clause-why : goal.returns-clause-why
returns-clause-why g c = λ s plan objects notes l.
    (let a = c.args.asked.now in
    let s1 : ShelfView = g.S.Shelf.shows c.args.shelf.now in
    let s' : ShelfView = g.S.Shelf.shows c.load_mesh.new.shelf in
    let mesh = c.in_ok-mesh.mesh in
    let is : IsMeshFile s1.files (name_in a (Mesh c.args.number)) mesh.facets mesh.dropped = search rules in
    subst (Explains a s s') (sym c.stop_at.ensures)
    (unfit_stops a c.args.printer.now plan c.args.number s s1 s' objects notes mesh.facets mesh.dropped c.in-Err.why l c.requires c.in_ok-mesh.ensures.read is c.in-Err.ensures.why))
