use Rattle.std.proofs.Common.{◌≡◌, get_or, take}
use Rattle.seq_model.specs.Jobs.{no_place}
use Rattle.plate_shrink.specs.Edges.{IsNearEdges, edges_of, edges_with}
use Rattle.plate_shrink.proofs.fitting.span_of.Given as goal

abbrev pub invariant-loop-place : goal.invariant-loop-place
invariant-loop-place l = record {
  are : l.all ≡ edges_with l.job l.plan.scale (edges_of l.job l.plan.scale (get_or l.places 0 no_place)) (take l.place-index l.places);
  near : IsNearEdges l.all;
}
