use Rattle.std.proofs.Common.{All}
use Rattle.seq_model.specs.Bounds.{IsNearFacet}
use Rattle.examples_shapes.proofs.slices.add_base.Given as goal

abbrev pub invariant-loop-place : goal.invariant-loop-place
invariant-loop-place l = All IsNearFacet l.facets.items
