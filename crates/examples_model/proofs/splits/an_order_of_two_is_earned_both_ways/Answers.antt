use Rattle.examples_model.proofs.CauseLaws.{both_ways}
use Rattle.examples_model.proofs.splits.an_order_of_two_is_earned_both_ways.Goals as goal

pub returns : goal.returns
returns c = both_ways
