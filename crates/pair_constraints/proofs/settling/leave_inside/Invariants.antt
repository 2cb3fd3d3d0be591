use Rattle.std.proofs.Common.{◌-◌, ◌≤◌, All, length}
use Rattle.pair_constraints.specs.Maximal.{IsOf}
use Rattle.pair_constraints.specs.Laws.Settling.{LeavesOut}
use Rattle.pair_constraints.proofs.settling.leave_inside.Given as goal

abbrev pub invariant-loop-k : goal.invariant-loop-k
invariant-loop-k l = record {
  within : l.k ≤ length l.kept.items;
  kept : All (IsOf l.job l.contact.i l.contact.j) l.kept.items;
  leaves : LeavesOut l.job l.contact l.fn.kept.items l.kept.items;
}

abbrev pub decreases-loop-k : goal.decreases-loop-k
decreases-loop-k l = length l.kept.items - l.k
