use Rattle.std.proofs.Common.{rules, length, refl, sym, subst}
use Rattle.seq_io.specs.Views.{ShelfView}
use Rattle.run_files.specs.Jobs.{IsLoaded}
use Rattle.run_files.specs.Loading.{Loading}
use Rattle.run_files.proofs.Loadings.{all_read, are_sound, is_loaded, none_loaded}
use Rattle.run_files.proofs.loading.load.Goals as goal

pub returns-in_err-found-clause-why : goal.returns-in_err-found-clause-why
returns-in_err-found-clause-why g c =
    let a = c.args.asked.now in
    let s : ShelfView = g.S.Shelf.shows c.args.shelf.now in
    let s1 : ShelfView = g.S.Shelf.shows c.load_printer.new.shelf in
    let s2 : ShelfView = g.S.Shelf.shows c.load_plan.new.shelf in
    let p = c.in_ok-printer in
    let q = c.in_ok-plan in
    let why = c.load_meshes.ensures.why s q.plan (none_loaded a p.printer q.plan s s1 s2 p.ensures.files p.ensures.is p.ensures.read q.ensures.files q.ensures.is q.ensures.only q.ensures.read) in
    search rules

pub invariant_of-result : goal.invariant_of-result
invariant_of-result g c =
    let a = c.args.asked.now in
    let s : ShelfView = g.S.Shelf.shows c.args.shelf.now in
    let s1 : ShelfView = g.S.Shelf.shows c.load_printer.new.shelf in
    let s2 : ShelfView = g.S.Shelf.shows c.load_plan.new.shelf in
    let s' : ShelfView = g.S.Shelf.shows c.load_meshes.new.shelf in
    let p = c.in_ok-printer in
    let q = c.in_ok-plan in
    let found = c.in_ok-found.found in
    let none = none_loaded a p.printer q.plan s s1 s2 p.ensures.files p.ensures.is p.ensures.read q.ensures.files q.ensures.is q.ensures.only q.ensures.read in
    let all : Loading a p.printer q.plan (length a.meshes) s s' found.objects found.notes.items = c.in_ok-found.ensures.all s q.plan none in
    record { sound = are_sound a p.printer q.plan s s' found.objects found.notes.items c.requires all }

pub returns-clause-is : goal.returns-clause-is
returns-clause-is g c =
    let a = c.args.asked.now in
    let s : ShelfView = g.S.Shelf.shows c.args.shelf.now in
    let s1 : ShelfView = g.S.Shelf.shows c.load_printer.new.shelf in
    let s2 : ShelfView = g.S.Shelf.shows c.load_plan.new.shelf in
    let s' : ShelfView = g.S.Shelf.shows c.load_meshes.new.shelf in
    let p = c.in_ok-printer in
    let q = c.in_ok-plan in
    let found = c.in_ok-found.found in
    let none = none_loaded a p.printer q.plan s s1 s2 p.ensures.files p.ensures.is p.ensures.read q.ensures.files q.ensures.is q.ensures.only q.ensures.read in
    let all : Loading a p.printer q.plan (length a.meshes) s s' found.objects found.notes.items = c.in_ok-found.ensures.all s q.plan none in
    subst (IsLoaded s.files a _ q.plan) (sym c.from_vec-notes.ensures) (is_loaded a p.printer q.plan s s' found.objects found.notes.items _ all refl refl)

pub returns-clause-read : goal.returns-clause-read
returns-clause-read g c =
    let a = c.args.asked.now in
    let s : ShelfView = g.S.Shelf.shows c.args.shelf.now in
    let s1 : ShelfView = g.S.Shelf.shows c.load_printer.new.shelf in
    let s2 : ShelfView = g.S.Shelf.shows c.load_plan.new.shelf in
    let s' : ShelfView = g.S.Shelf.shows c.load_meshes.new.shelf in
    let p = c.in_ok-printer in
    let q = c.in_ok-plan in
    let found = c.in_ok-found.found in
    let none = none_loaded a p.printer q.plan s s1 s2 p.ensures.files p.ensures.is p.ensures.read q.ensures.files q.ensures.is q.ensures.only q.ensures.read in
    let all : Loading a p.printer q.plan (length a.meshes) s s' found.objects found.notes.items = c.in_ok-found.ensures.all s q.plan none in
    all_read a p.printer q.plan s s' found.objects found.notes.items c.requires all

pub returns-clause-reached : goal.returns-clause-reached
returns-clause-reached g c =
    let a = c.args.asked.now in
    let s : ShelfView = g.S.Shelf.shows c.args.shelf.now in
    let s1 : ShelfView = g.S.Shelf.shows c.load_printer.new.shelf in
    let s2 : ShelfView = g.S.Shelf.shows c.load_plan.new.shelf in
    let s' : ShelfView = g.S.Shelf.shows c.load_meshes.new.shelf in
    let p = c.in_ok-printer in
    let q = c.in_ok-plan in
    let found = c.in_ok-found.found in
    let none = none_loaded a p.printer q.plan s s1 s2 p.ensures.files p.ensures.is p.ensures.read q.ensures.files q.ensures.is q.ensures.only q.ensures.read in
    let all : Loading a p.printer q.plan (length a.meshes) s s' found.objects found.notes.items = c.in_ok-found.ensures.all s q.plan none in
    all.reached
