use Rattle.std.proofs.Common.{◌≡◌, length, true}
use Rattle.pair_constraints.specs.Laws.Nesting.{outline_at}
use Rattle.pair_constraints.specs.Laws.Numbered.{AreBy}
use Rattle.pair_constraints.specs.Laws.Reaching.{Outreaches}
use Rattle.pair_constraints.proofs.nesting.row.Given as goal

abbrev pub invariant-loop-y : goal.invariant-loop-y
invariant-loop-y l = record {
  many : length l.row ≡ l.y;
  each : AreBy (λ y marked. marked ≡ true → Outreaches (outline_at l.outlines y) (outline_at l.outlines l.z)) l.row;
}
