use Rattle.std.proofs.Common.{◌≡◌, drop}
use Rattle.std.specs.List.{list_all}
use Rattle.seq_model.specs.Contacts.{difference}
use Rattle.outline_laws.specs.Corners.{IsNarrow}
use Rattle.outline_laws.specs.Laws.Loops.{edges_along, edges_if}
use Rattle.outline_laws.specs.Laws.Clear.{clear_of}
use Rattle.difference_polygon.proofs.inside.edges_are_clear.Given as goal

abbrev pub invariant-loop-corner : goal.invariant-loop-corner
invariant-loop-corner l = record {
  same : list_all (clear_of (difference l.a l.b l.f) l.at) (edges_along l.turned l.last (drop l.corner-index l.of)) ≡ list_all (clear_of (difference l.a l.b l.f) l.at) (edges_if l.turned l.of);
  near : IsNarrow l.last;
}
