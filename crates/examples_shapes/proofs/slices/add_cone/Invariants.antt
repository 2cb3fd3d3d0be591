use Rattle.std.proofs.Common.{All}
use Rattle.seq_model.specs.Bounds.{IsNearFacet}
use Rattle.examples_shapes.proofs.slices.add_cone.Given as goal

abbrev pub invariant-loop-k : goal.invariant-loop-k
invariant-loop-k l = All IsNearFacet l.facets.items
