use Rattle.std.proofs.Common.{[], refl, lit<}
use Rattle.examples_model.specs.Deciding.{contradiction_is}
use Rattle.examples_model.proofs.CauseLaws.{no_room}
use Rattle.examples_model.proofs.certificates.certificates_where_no_cube_fits.Goals as goal

pub returns-clause-one_bound : goal.returns-clause-one_bound
returns-clause-one_bound c = (((contradiction_is _ _ refl, tt), tt), [], refl, refl)

pub returns-clause-pending : goal.returns-clause-pending
returns-clause-pending c = λ w. w.0.0.1

pub returns-clause-refutes : goal.returns-clause-refutes
returns-clause-refutes c = (((lit< tt, lit< tt), tt), _, refl, ((contradiction_is _ _ refl, tt), [], refl, ((contradiction_is _ _ refl, tt), [], refl, refl)))

pub returns-clause-without_cause : goal.returns-clause-without_cause
returns-clause-without_cause c = λ w. (let root = w.0.1.1 in no_room root.at root.on)
