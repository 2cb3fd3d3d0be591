use Rattle.std.proofs.Common.{sym, subst, ◌∙◌}
use Rattle.node_looks.proofs.RegionLaws.{corner_near, object_is, low_near}
use Rattle.seq_model.specs.Bounds.{IsNearSpot}
use Rattle.seq_model.specs.declared.plate.Region.{Region}
use Rattle.node_looks.proofs.plans.place.Goals as goal

pub coordinate_x-requires-clause-corner : goal.coordinate_x-requires-clause-corner
coordinate_x-requires-clause-corner c = subst (λ (r : Region). IsNearSpot 40_000 r.low) (sym c.region-region.ensures) (corner_near c.args.site.now.job.now c.args.site.now.extent c.requires.site.to_grid)

pub coordinate_x-requires-clause-low : goal.coordinate_x-requires-clause-low
coordinate_x-requires-clause-low c =
    let job = c.args.site.now.job.now in
    low_near job c.args.object _ c.requires.known (sym c.index-as_slice-object.is ∙ object_is job c.args.object _ _ c.requires.known c.as_slice.ensures c.index-as_slice-object.is)

pub coordinate_y-requires-clause-corner : goal.coordinate_y-requires-clause-corner
coordinate_y-requires-clause-corner c = subst (λ (r : Region). IsNearSpot 40_000 r.low) (sym c.region-region.ensures) (corner_near c.args.site.now.job.now c.args.site.now.extent c.requires.site.to_grid)

pub coordinate_y-requires-clause-low : goal.coordinate_y-requires-clause-low
coordinate_y-requires-clause-low c =
    let job = c.args.site.now.job.now in
    low_near job c.args.object _ c.requires.known (sym c.index-as_slice-object.is ∙ object_is job c.args.object _ _ c.requires.known c.as_slice.ensures c.index-as_slice-object.is)
