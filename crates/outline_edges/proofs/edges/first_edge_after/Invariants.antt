use Rattle.std.proofs.Common.{◌≡◌, drop}
use Rattle.outline_laws.specs.Corners.{IsNarrow}
use Rattle.outline_laws.specs.Directions.{first_after}
use Rattle.outline_laws.specs.Laws.Loops.{IsShortOption, edges_along, edges_if}
use Rattle.outline_edges.proofs.edges.first_edge_after.Given as goal

abbrev pub invariant-loop-corner : goal.invariant-loop-corner
invariant-loop-corner l = record {
  first : first_after l.after l.first (edges_along l.turned l.last (drop l.corner-index l.corners)) ≡ first_after l.after l.fn.best (edges_if l.turned l.corners);
  short : IsShortOption l.first;
  near : IsNarrow l.last;
}
