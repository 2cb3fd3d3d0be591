use Rattle.std.proofs.Common.{rules, FitsSigned, to_z-of_z, sym, subst}
use Rattle.std.specs.Int.{w128}
use Rattle.plan_audit.proofs.BoxLaws.{object_is, extremes_of, out_is_off}
use Rattle.plan_audit.proofs.SizeLaws.{IsSmallRegion, region_small}
use Rattle.plan_audit.proofs.places.is_off.Goals as goal

pub is_box_out-requires-clause-region : goal.is_box_out-requires-clause-region
is_box_out-requires-clause-region c = (subst IsSmallRegion (sym c.region.ensures) (region_small c.args.job.now c.args.extent c.requires.to_grid)).low

pub is_box_out-requires-clause-wide : goal.is_box_out-requires-clause-wide
is_box_out-requires-clause-wide c = (subst IsSmallRegion (sym c.region.ensures) (region_small c.args.job.now c.args.extent c.requires.to_grid)).wide

pub is_box_out-requires-clause-deep : goal.is_box_out-requires-clause-deep
is_box_out-requires-clause-deep c = (subst IsSmallRegion (sym c.region.ensures) (region_small c.args.job.now c.args.extent c.requires.to_grid)).deep

pub is_box_out-requires-clause-low : goal.is_box_out-requires-clause-low
is_box_out-requires-clause-low c = (extremes_of c.args.job.now c.args.place.now.object _ c.requires.known (object_is c.args.job.now c.args.place.now.object _ _ c.requires.known c.as_slice.ensures c.index-as_slice-place.is)).0

pub is_box_out-requires-clause-high : goal.is_box_out-requires-clause-high
is_box_out-requires-clause-high c = (extremes_of c.args.job.now c.args.place.now.object _ c.requires.known (object_is c.args.job.now c.args.place.now.object _ _ c.requires.known c.as_slice.ensures c.index-as_slice-place.is)).1

pub returns : goal.returns
returns c =
    let fits : FitsSigned w128 c.args.scale = search rules in
    let is = object_is c.args.job.now c.args.place.now.object _ _ c.requires.known c.as_slice.ensures c.index-as_slice-place.is in
    out_is_off c.args.job.now c.args.extent c.args.scale _ c.args.place.now _ _ c.is_box_out.result c.requires.known c.requires.one (to_z-of_z fits) c.region.ensures is c.is_box_out.ensures
