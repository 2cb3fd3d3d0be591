use Rattle.examples_model.specs.Certificates.{six_sides}
use Rattle.examples_model.specs.Jobs.{two_wedges}
use Rattle.examples_model.proofs.FullLaws.{most_sides, full, two_wedges_have}
use Rattle.examples_model.proofs.systems.number_of_nodes_of_two_wedges.Goals as goal

pub returns-clause-most_sides : goal.returns-clause-most_sides
returns-clause-most_sides c = most_sides two_wedges six_sides two_wedges_have

pub returns-clause-full : goal.returns-clause-full
returns-clause-full c = full two_wedges six_sides two_wedges_have
