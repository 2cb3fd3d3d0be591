use Rattle.std.proofs.Common.{◌≡◌, drop}
use Rattle.outline_laws.specs.Corners.{IsNarrow}
use Rattle.outline_laws.specs.Edges.{last_in_list}
use Rattle.outline_laws.specs.Laws.Left.{all_left}
use Rattle.convex_outline.proofs.inner.lies_left_of_all.Given as goal

abbrev pub invariant-loop-corner : goal.invariant-loop-corner
invariant-loop-corner l = record {
  same : all_left l.at l.last (drop l.corner-index l.corners) ≡ all_left l.at (last_in_list l.corners) l.corners;
  near : IsNarrow l.last;
}
