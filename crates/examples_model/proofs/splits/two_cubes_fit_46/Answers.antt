use Rattle.examples_model.proofs.PlanLaws.{valid}
use Rattle.examples_model.proofs.splits.two_cubes_fit_46.Goals as goal

pub returns-clause-valid : goal.returns-clause-valid
returns-clause-valid c = valid
