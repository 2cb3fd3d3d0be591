use Rattle.std.proofs.Common.{◌≡◌, ◌≤◌, ◌^◌, ◌*◌, unsigned_abs, take}
use Rattle.mesh_checks.specs.Volumes.{six_volume}
use Rattle.mesh_checks.proofs.volume.sum_six_volumes.Given as goal

abbrev pub invariant-loop-facet : goal.invariant-loop-facet
invariant-loop-facet l = record {
  value : l.total ≡ six_volume (take l.facet-index l.facets);
  size : unsigned_abs l.total ≤ l.facet-index * 2 ^ 75;
}
