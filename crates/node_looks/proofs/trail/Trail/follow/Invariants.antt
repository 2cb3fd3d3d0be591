use Rattle.std.proofs.Common.{take}
use Rattle.node_looks.specs.Trails.{IsTrailOf}
use Rattle.node_looks.proofs.trail.Trail.follow.Given as goal

abbrev pub invariant-loop-k : goal.invariant-loop-k
invariant-loop-k l = IsTrailOf l.job l.fn.self.extent (take l.k l.path) l.self
