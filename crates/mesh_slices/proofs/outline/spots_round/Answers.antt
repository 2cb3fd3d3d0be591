use Rattle.std.proofs.Common.{arith}
use Rattle.integer_laws.specs.Laws.Steps.{steps}
use Rattle.mesh_slices.specs.CornerPoints.{as_point}
use Rattle.mesh_slices.proofs.Outlines.{four_is}
use Rattle.mesh_slices.proofs.outline.spots_round.Goals as goal

pub returns : goal.returns
returns c = four_is c.args.printer.now.grain c.args.printer.now.margin (as_point c.args.point.now) _ _ _ _ (grind (arith, steps)) (grind (arith, steps)) (grind (arith, steps)) (grind (arith, steps))
