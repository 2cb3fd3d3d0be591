use Rattle.std.proofs.Common.{arith}
use Rattle.integer_laws.specs.Laws.Steps.{steps}
use Rattle.mesh_slices.proofs.Pushes.{part_size}
use Rattle.mesh_slices.proofs.points.part_of.Goals as goal

pub returns-clause-value : goal.returns-clause-value
returns-clause-value c = let small = part_size c.args.x c.args.rise c.requires.x c.requires.rise in grind (arith, steps)

pub returns-clause-size : goal.returns-clause-size
returns-clause-size c = let small = part_size c.args.x c.args.rise c.requires.x c.requires.rise in grind (arith, steps)
