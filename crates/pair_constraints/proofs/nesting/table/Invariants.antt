use Rattle.std.proofs.Common.{◌≡◌, length}
use Rattle.pair_constraints.specs.Laws.Nesting.{IsRowOf}
use Rattle.pair_constraints.specs.Laws.Numbered.{AreBy}
use Rattle.pair_constraints.proofs.nesting.table.Given as goal

abbrev pub invariant-loop-z : goal.invariant-loop-z
invariant-loop-z l = record {
  many : length l.table ≡ l.z;
  each : AreBy (IsRowOf l.outlines) l.table;
}
