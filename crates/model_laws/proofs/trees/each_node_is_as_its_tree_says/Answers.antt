use Rattle.model_laws.specs.Laws.OnePath.{open_node, certified_node}
use Rattle.model_laws.proofs.trees.each_node_is_as_its_tree_says.Goals as goal

pub returns-clause-of_an_open_tree : goal.returns-clause-of_an_open_tree
returns-clause-of_an_open_tree c = open_node

pub returns-clause-of_a_certificate : goal.returns-clause-of_a_certificate
returns-clause-of_a_certificate c = certified_node
