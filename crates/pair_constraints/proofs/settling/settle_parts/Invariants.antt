use Rattle.std.proofs.Common.{All}
use Rattle.pair_constraints.specs.Maximal.{IsOf}
use Rattle.pair_constraints.specs.Laws.Settling.{PartsBelow, Settles}
use Rattle.pair_constraints.proofs.settling.settle_parts.Given as goal

abbrev pub invariant-loop-part : goal.invariant-loop-part
invariant-loop-part l = record {
  kept : All (IsOf l.job l.i l.j) l.kept.items;
  settles : Settles l.job (PartsBelow l.job l.i l.zi l.zj l.j l.part) l.fn.kept.items l.kept.items;
}
