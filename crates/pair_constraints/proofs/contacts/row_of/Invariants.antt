use Rattle.std.proofs.Common.{◌≡◌, length}
use Rattle.pair_constraints.specs.Laws.Numbered.{AreBy}
use Rattle.pair_constraints.specs.Maximal.{IsPair}
use Rattle.pair_constraints.proofs.contacts.row_of.Given as goal

abbrev pub invariant-loop-j : goal.invariant-loop-j
invariant-loop-j l = record {
  many : length l.row ≡ l.j;
  each : AreBy (IsPair l.job l.i) l.row;
}
