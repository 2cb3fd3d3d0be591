use Rattle.std.proofs.Common.{◌≤◌, All, length}
use Rattle.seq_model.specs.Bounds.{IsNearFacet}
use Rattle.examples_contacts.proofs.objects.facets.Given as goal

abbrev pub invariant-loop-triangle : goal.invariant-loop-triangle
invariant-loop-triangle l = record {
  near : All IsNearFacet l.facets.items;
  few : length l.facets.items ≤ l.triangle-index;
}
