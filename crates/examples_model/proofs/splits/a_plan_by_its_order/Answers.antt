use Rattle.examples_model.proofs.OrderLaws.{valid_low_first, invalid_tall_first}
use Rattle.examples_model.proofs.splits.a_plan_by_its_order.Goals as goal

pub returns-clause-low_first : goal.returns-clause-low_first
returns-clause-low_first c = valid_low_first

pub returns-clause-tall_first : goal.returns-clause-tall_first
returns-clause-tall_first c = invalid_tall_first
