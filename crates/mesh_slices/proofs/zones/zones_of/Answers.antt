use Rattle.std.proofs.Common.{sym, subst}
use Rattle.mesh_slices.specs.Objects.{spots_in}
use Rattle.mesh_slices.specs.Runs.{AreRunsOf}
use Rattle.mesh_slices.proofs.Grown.{no_zones}
use Rattle.mesh_slices.proofs.zones.zones_of.Goals as goal

pub loop-band-init : goal.loop-band-init
loop-band-init c = subst (AreRunsOf (spots_in c.args.printer.now c.args.facets.now) 0) (sym c.new-zones.ensures.items) (no_zones (spots_in c.args.printer.now c.args.facets.now))

pub loop-band-preserved : goal.loop-band-preserved
loop-band-preserved c = c.in_ok-add_band.ensures (spots_in c.args.printer.now c.args.facets.now) c.loop-band.invariant c.in_ok-corners.ensures
