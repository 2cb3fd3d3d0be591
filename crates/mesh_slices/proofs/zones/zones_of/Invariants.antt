use Rattle.mesh_slices.specs.Objects.{spots_in}
use Rattle.mesh_slices.specs.Runs.{AreRunsOf}
use Rattle.mesh_slices.proofs.zones.zones_of.Given as goal

abbrev pub invariant-loop-band : goal.invariant-loop-band
invariant-loop-band l = AreRunsOf (spots_in l.printer l.facets) l.band l.zones.items
