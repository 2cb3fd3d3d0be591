use Rattle.std.proofs.Common.{◌≤◌, length}
use Rattle.pair_constraints.proofs.settling.is_inside_one.Given as goal

abbrev pub invariant-loop-other : goal.invariant-loop-other
invariant-loop-other l = l.other-index ≤ length l.kept
