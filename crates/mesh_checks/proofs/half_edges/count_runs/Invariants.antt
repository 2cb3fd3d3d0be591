use Rattle.std.proofs.Common.{◌≡◌, ◌+◌, ◌≤◌, drop, unsigned_abs}
use Rattle.mesh_checks.specs.Runs.{runs, all_runs}
use Rattle.mesh_checks.proofs.half_edges.count_runs.Given as goal

abbrev pub invariant-loop-half_edge : goal.invariant-loop-half_edge
invariant-loop-half_edge l = record {
  left : l.«open» + runs l.last l.balance (drop l.half_edge-index l.half_edges) ≡ all_runs l.half_edges;
  few : l.«open» + unsigned_abs l.balance ≤ l.half_edge-index;
}
