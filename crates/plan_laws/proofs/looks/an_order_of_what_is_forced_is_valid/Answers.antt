use Rattle.plan_laws.specs.Laws.Looking.{looked_causes, order_is_valid}
use Rattle.plan_laws.proofs.looks.an_order_of_what_is_forced_is_valid.Goals as goal

pub returns : goal.returns
returns c = record { causes = looked_causes; valid = order_is_valid }
