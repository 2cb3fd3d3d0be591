use Rattle.std.proofs.Common.{[], Option}
use Rattle.seq_io.specs.Views.{ShelfView}
use Rattle.run_files.specs.Loading.{Loading}
use Rattle.run_files.specs.declared.plans.GivenPlan.{GivenPlan}
use Rattle.run_files.proofs.meshes.load_meshes.Given as goal

abbrev pub invariant-loop-number : goal.invariant-loop-number
invariant-loop-number g l = (s : ShelfView) (plan : Option GivenPlan)
    → Loading l.asked l.printer plan 0 s (g.S.Shelf.shows l.initial.shelf) [] []
    → Loading l.asked l.printer plan l.number s (g.S.Shelf.shows l.shelf) l.found.objects l.found.notes.items
