use Rattle.std.proofs.Common.{All}
use Rattle.pair_constraints.specs.Maximal.{IsOf}
use Rattle.pair_constraints.specs.Laws.Settling.{Settles, ZonesBelow}
use Rattle.pair_constraints.proofs.settling.settle_zones.Given as goal

abbrev pub invariant-loop-zi : goal.invariant-loop-zi
invariant-loop-zi l = record {
  kept : All (IsOf l.job l.i l.j) l.kept.items;
  settles : Settles l.job (ZonesBelow l.job l.i l.zj l.j l.zi) l.fn.kept.items l.kept.items;
}
