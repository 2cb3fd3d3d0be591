use Rattle.std.proofs.Common.{◌≤◌, All, length}
use Rattle.seq_model.specs.Bounds.{IsNearFacet}
use Rattle.bench_meshes.proofs.scattered.Given as goal

abbrev pub invariant-loop : goal.invariant-loop
invariant-loop l = record { near : All IsNearFacet l.facets.items; few : length l.facets.items ≤ l.counter }
