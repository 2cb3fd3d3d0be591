use Rattle.std.proofs.Common.{◌≡◌, ◌++◌, drop, All}
use Rattle.outline_laws.specs.Corners.{IsNarrow}
use Rattle.outline_laws.specs.Directions.{IsShort}
use Rattle.outline_laws.specs.Edges.{edges_along, edges_if}
use Rattle.outline_edges.proofs.edges.push_edges.Given as goal

abbrev pub invariant-loop-corner : goal.invariant-loop-corner
invariant-loop-corner l = record {
  pushed : l.edges.items ++ edges_along l.turned l.last (drop l.corner-index l.corners) ≡ l.fn.edges.items ++ edges_if l.turned l.corners;
  short : All IsShort l.edges.items;
  near : IsNarrow l.last;
}
