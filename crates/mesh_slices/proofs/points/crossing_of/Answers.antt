use Rattle.std.proofs.Common.{arith}
use Rattle.integer_laws.specs.Laws.Steps.{steps}
use Rattle.mesh_slices.proofs.Pushes.{crossing_is}
use Rattle.mesh_slices.proofs.points.crossing_of.Goals as goal

pub invariant_of-result : goal.invariant_of-result
invariant_of-result c = record { ranged = record { x_size = grind (arith, steps); y_size = grind (arith, steps); d_low = grind (arith, steps); d_high = grind (arith, steps) } }

pub returns : goal.returns
returns c = crossing_is c.args.height c.args.under.now c.args.over.now _ _ _ c.requires.from c.requires.to (grind (arith, steps)) (grind (arith, steps)) (grind (arith, steps))
