use Rattle.std.proofs.Common.{All, []}
use Rattle.pair_constraints.specs.Maximal.{IsOf}
use Rattle.pair_constraints.specs.Laws.Settling.{LaterBelow, Settles}
use Rattle.pair_constraints.proofs.settling.settled.Given as goal

abbrev pub invariant-loop-zj : goal.invariant-loop-zj
invariant-loop-zj l = record {
  kept : All (IsOf l.job l.i l.j) l.kept.items;
  settles : Settles l.job (LaterBelow l.job l.i l.j l.zj) [] l.kept.items;
}
