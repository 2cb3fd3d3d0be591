use Rattle.examples_model.proofs.SystemLaws.{tight}
use Rattle.examples_model.proofs.systems.a_point_that_meets_a_system.Goals as goal

pub returns : goal.returns
returns c = tight
