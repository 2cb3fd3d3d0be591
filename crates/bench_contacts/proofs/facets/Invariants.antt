use Rattle.std.proofs.Common.{◌≤◌, All, length}
use Rattle.seq_model.specs.Bounds.{IsNearFacet}
use Rattle.bench_contacts.proofs.facets.Given as goal

abbrev pub invariant-loop-k : goal.invariant-loop-k
invariant-loop-k l = record {
  near : All IsNearFacet l.facets.items;
  few : length l.facets.items ≤ l.k;
}
