use Rattle.std.proofs.Common.{◌≡◌, ◌++◌, drop}
use Rattle.pair_constraints.specs.Laws.Nesting.{corners_of_zones}
use Rattle.pair_constraints.proofs.nesting.outlines_of_zones.Given as goal

abbrev pub invariant-loop-zone : goal.invariant-loop-zone
invariant-loop-zone l = l.outlines.items ++ corners_of_zones (drop l.zone-index l.zones) ≡ corners_of_zones l.zones
