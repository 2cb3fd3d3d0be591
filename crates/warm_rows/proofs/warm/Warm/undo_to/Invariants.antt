use Rattle.std.proofs.Common.{◌≡◌, ◌≤◌, length, take}
use Rattle.warm_rows.proofs.warm.Warm.undo_to.Given as goal

abbrev pub invariant-loop-mark : goal.invariant-loop-mark
invariant-loop-mark l = (l.self.vars ≡ l.initial.self.vars) × (l.mark.steps ≤ length l.self.steps) × (l.self.steps ≡ take (length l.self.steps) l.initial.self.steps)

abbrev pub decreases-loop-mark : goal.decreases-loop-mark
decreases-loop-mark l = length l.self.steps
