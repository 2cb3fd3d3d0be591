use Rattle.std.proofs.Common.{All}
use Rattle.seq_model.specs.Bounds.{IsNearFacet}
use Rattle.examples_shapes.proofs.checks.facets.Given as goal

abbrev pub invariant-loop-corners : goal.invariant-loop-corners
invariant-loop-corners l = All IsNearFacet l.facets.items
