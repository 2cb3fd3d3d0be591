use Rattle.std.proofs.Common.{All}
use Rattle.seq_model.specs.Bounds.{IsNearFacet}
use Rattle.examples_shapes.proofs.slices.mesh_of.Given as goal

abbrev pub invariant-loop-solid : goal.invariant-loop-solid
invariant-loop-solid l = All IsNearFacet l.facets.items
