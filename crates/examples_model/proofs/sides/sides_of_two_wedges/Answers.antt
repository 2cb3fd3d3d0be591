use Rattle.std.proofs.Common.{length, ap, arith}
use Rattle.examples_model.specs.Certificates.{five_sides, six_sides}
use Rattle.examples_model.specs.Cubes.{first_contact}
use Rattle.examples_model.specs.Jobs.{two_wedges}
use Rattle.model_laws.specs.Laws.OneList.{one_list_of_sides}
use Rattle.seq_model.specs.Contacts.{points_of}
use Rattle.examples_model.proofs.SideLaws.{wedge_sides}
use Rattle.examples_model.proofs.sides.sides_of_two_wedges.Goals as goal

pub returns-clause-sides : goal.returns-clause-sides
returns-clause-sides c = wedge_sides

pub returns-clause-all : goal.returns-clause-all
returns-clause-all c = λ five. (let many = ap length (one_list_of_sides (points_of two_wedges first_contact) five_sides six_sides five wedge_sides) in absurd (omega (arith, many)))
