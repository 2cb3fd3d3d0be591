use Rattle.examples_model.specs.Certificates.{four_sides}
use Rattle.examples_model.specs.Jobs.{three_cubes}
use Rattle.examples_model.proofs.FullLaws.{most_sides, full, three_cubes_have}
use Rattle.examples_model.proofs.systems.number_of_nodes_of_three_cubes.Goals as goal

pub returns-clause-most_sides : goal.returns-clause-most_sides
returns-clause-most_sides c = most_sides three_cubes four_sides three_cubes_have

pub returns-clause-full : goal.returns-clause-full
returns-clause-full c = full three_cubes four_sides three_cubes_have
