use Rattle.std.proofs.Common.{◌<◌, length, arith}
use Rattle.mesh_slices.proofs.Outlines.{start, near_start, near_added, next_facet}
use Rattle.mesh_slices.proofs.outline.standing_spots.Goals as goal

pub loop-f-init : goal.loop-f-init
loop-f-init c = record { stand = start _ _ c.new-found.ensures.items; near = near_start _ c.new-found.ensures.items }

pub fold_if_full-requires : goal.fold_if_full-requires
fold_if_full-requires c =
    let t = c.loop-f-test.true in
    let h : c.loop-f.f-index < length c.args.facets.now = omega arith in
    near_added _ _ _ _ _ _ _ _ _ _ _ c.args.printer.now.ranged (c.requires c.loop-f.f-index _ h) c.in_ok-add_facet.ensures c.loop-f.invariant.near

pub loop-f-preserved : goal.loop-f-preserved
loop-f-preserved c =
    let t = c.loop-f-test.true in
    let h : c.loop-f.f-index < length c.args.facets.now = omega arith in
    record {
      stand = next_facet c.args.printer.now.grain c.args.printer.now.margin c.args.slab.now.low c.args.slab.now.high c.args.facets.now c.loop-f.f-index _ _ _ _ _ h c.in_ok-add_facet.ensures c.in_ok-kept.ensures.stand c.loop-f.invariant.stand;
      near = c.in_ok-kept.ensures.near;
    }
