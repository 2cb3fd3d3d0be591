use Rattle.examples_model.proofs.PlacedLaws.{missing, stranger}
use Rattle.examples_model.proofs.plans.a_plan_has_each_object_once.Goals as goal

pub returns-clause-without_the_second : goal.returns-clause-without_the_second
returns-clause-without_the_second c = missing

pub returns-clause-with_a_third : goal.returns-clause-with_a_third
returns-clause-with_a_third c = stranger
