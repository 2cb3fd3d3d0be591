use Rattle.model_laws.specs.Laws.OnePath.{one_path, stands_at_path}
use Rattle.model_laws.proofs.trees.a_node_stands_at_one_path.Goals as goal

pub returns-clause-one : goal.returns-clause-one
returns-clause-one c = one_path

pub returns-clause-of_the_job : goal.returns-clause-of_the_job
returns-clause-of_the_job c = stands_at_path
