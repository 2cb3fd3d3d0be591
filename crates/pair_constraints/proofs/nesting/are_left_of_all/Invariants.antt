use Rattle.std.proofs.Common.{◌≡◌, drop}
use Rattle.outline_laws.specs.Corners.{IsNarrow}
use Rattle.outline_laws.specs.Edges.{last_in_list}
use Rattle.pair_constraints.specs.Laws.Reaching.{are_behind}
use Rattle.pair_constraints.proofs.nesting.are_left_of_all.Given as goal

abbrev pub invariant-loop-corner : goal.invariant-loop-corner
invariant-loop-corner l = record {
  same : are_behind l.spots l.last (drop l.corner-index l.outline) ≡ are_behind l.spots (last_in_list l.outline) l.outline;
  near : IsNarrow l.last;
}
