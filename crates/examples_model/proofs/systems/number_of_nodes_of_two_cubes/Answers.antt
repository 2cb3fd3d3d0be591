use Rattle.examples_model.specs.Certificates.{four_sides}
use Rattle.examples_model.specs.Jobs.{two_cubes}
use Rattle.examples_model.proofs.FullLaws.{most_sides, full, two_cubes_have}
use Rattle.examples_model.proofs.systems.number_of_nodes_of_two_cubes.Goals as goal

pub returns-clause-most_sides : goal.returns-clause-most_sides
returns-clause-most_sides c = most_sides two_cubes four_sides two_cubes_have

pub returns-clause-full : goal.returns-clause-full
returns-clause-full c = full two_cubes four_sides two_cubes_have
