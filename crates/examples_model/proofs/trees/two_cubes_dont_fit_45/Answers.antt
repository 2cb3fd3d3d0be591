use Rattle.examples_model.proofs.TreeLaws.{tree_refutes, tree_refutes_nothing}
use Rattle.examples_model.proofs.trees.two_cubes_dont_fit_45.Goals as goal

pub returns-clause-refutes : goal.returns-clause-refutes
returns-clause-refutes c = tree_refutes

pub returns-clause-without_row_2 : goal.returns-clause-without_row_2
returns-clause-without_row_2 c = tree_refutes_nothing
