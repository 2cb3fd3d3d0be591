use Rattle.std.proofs.Common.{◌≡◌, take}
use Rattle.node_looks.specs.Trails.{path_of}
use Rattle.node_looks.proofs.trail.shared.Given as goal

abbrev pub invariant-loop-k : goal.invariant-loop-k
invariant-loop-k l = path_of (take l.k l.levels) ≡ take l.k l.path
