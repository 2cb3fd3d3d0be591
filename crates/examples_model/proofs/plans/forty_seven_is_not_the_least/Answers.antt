use Rattle.examples_model.proofs.PlacedLaws.{least}
use Rattle.examples_model.proofs.plans.forty_seven_is_not_the_least.Goals as goal

pub returns : goal.returns
returns c = least
