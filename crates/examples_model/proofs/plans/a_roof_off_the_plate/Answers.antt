use Rattle.examples_model.proofs.PlacedLaws.{roof_off}
use Rattle.examples_model.proofs.plans.a_roof_off_the_plate.Goals as goal

pub returns : goal.returns
returns c = roof_off
