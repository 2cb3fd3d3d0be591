use Rattle.std.proofs.Common.{◌≡◌, length}
use Rattle.pair_constraints.specs.Laws.Numbered.{AreBy}
use Rattle.pair_constraints.specs.Laws.Rows.{IsRow}
use Rattle.pair_constraints.proofs.contacts.rows_of.Given as goal

abbrev pub invariant-loop-i : goal.invariant-loop-i
invariant-loop-i l = record {
  many : length l.rows ≡ l.i;
  each : AreBy (IsRow l.job) l.rows;
}
