use Rattle.refutation_tree.specs.Laws.Standing.{one_order, number_is_node, whole_length}
use Rattle.refutation_tree.proofs.laws.a_tree_has_one_preorder.Goals as goal

pub returns-clause-one : goal.returns-clause-one
returns-clause-one c = one_order

pub returns-clause-all : goal.returns-clause-all
returns-clause-all c = whole_length

pub returns-clause-there : goal.returns-clause-there
returns-clause-there c = number_is_node
