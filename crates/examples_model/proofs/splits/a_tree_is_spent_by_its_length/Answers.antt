use Rattle.examples_model.proofs.SplitLaws.{three_over, four_over, one_under}
use Rattle.examples_model.proofs.splits.a_tree_is_spent_by_its_length.Goals as goal

pub returns-clause-three_over : goal.returns-clause-three_over
returns-clause-three_over c = three_over

pub returns-clause-four_over : goal.returns-clause-four_over
returns-clause-four_over c = four_over

pub returns-clause-one_under : goal.returns-clause-one_under
returns-clause-one_under c = one_under
