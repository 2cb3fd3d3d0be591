use Rattle.examples_model.proofs.SystemLaws.{most_sides_of_one, full_of_one}
use Rattle.examples_model.proofs.systems.number_of_nodes_of_one_cube.Goals as goal

pub returns-clause-most_sides : goal.returns-clause-most_sides
returns-clause-most_sides c = most_sides_of_one

pub returns-clause-full : goal.returns-clause-full
returns-clause-full c = full_of_one
