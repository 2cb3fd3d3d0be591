use Rattle.model_laws.specs.Laws.Reading.{children_are_paths, tree_of_paths}
use Rattle.model_laws.proofs.trees.nodes_stand_at_paths.Goals as goal

pub returns-clause-children : goal.returns-clause-children
returns-clause-children c = children_are_paths

pub returns-clause-all : goal.returns-clause-all
returns-clause-all c = tree_of_paths
