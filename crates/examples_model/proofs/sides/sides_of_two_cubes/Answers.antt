use Rattle.examples_model.proofs.SideLaws.{cube_sides}
use Rattle.examples_model.proofs.sides.sides_of_two_cubes.Goals as goal

pub returns-clause-sides : goal.returns-clause-sides
returns-clause-sides c = cube_sides
