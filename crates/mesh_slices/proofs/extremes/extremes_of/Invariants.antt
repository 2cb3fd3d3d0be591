use Rattle.std.proofs.Common.{drop}
use Rattle.mesh_slices.proofs.Running.{Running}
use Rattle.mesh_slices.proofs.extremes.extremes_of.Given as goal

abbrev pub invariant-loop-f : goal.invariant-loop-f
invariant-loop-f l = Running l.facets (drop l.f-index l.facets) l.found.low l.found.high
