use Rattle.std.proofs.Common.{◌≡◌, take}
use Rattle.mesh_checks.specs.Edges.{edges}
use Rattle.mesh_checks.specs.Runs.{half_edges}
use Rattle.mesh_checks.proofs.half_edges.half_edges_of.Given as goal

abbrev pub invariant-loop-facet : goal.invariant-loop-facet
invariant-loop-facet l = l.half_edges.items ≡ half_edges (edges (take l.facet-index l.facets))
