use Rattle.std.proofs.Common.{take}
use Rattle.node_looks.specs.Trails.{HasOnlyRows}
use Rattle.node_looks.proofs.trail.add_all.Given as goal

abbrev pub invariant-loop-row : goal.invariant-loop-row
invariant-loop-row l = HasOnlyRows l.warm l.initial.warm.vars (take l.row-index l.rows)
