use Rattle.examples_model.proofs.PlanLaws.{valid}
use Rattle.examples_model.proofs.TreeLaws.{tree_refutes}
use Rattle.examples_model.specs.Certificates.{tree, bound}
use Rattle.examples_model.specs.Jobs.{two_cubes}
use Rattle.examples_model.specs.Plans.{beside_each_other}
use Rattle.search_laws.specs.Laws.Refuting.{least_by_a_tree}
use Rattle.examples_least.proofs.two_cubes_need_46.Goals as goal

pub returns : goal.returns
returns c = least_by_a_tree two_cubes 45 beside_each_other (tree (bound 2 1 4 1)) valid tree_refutes
