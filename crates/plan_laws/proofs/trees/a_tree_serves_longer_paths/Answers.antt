use Rattle.plan_laws.specs.Laws.Pasting.{contradiction_on_part, pasted}
use Rattle.plan_laws.proofs.trees.a_tree_serves_longer_paths.Goals as goal

pub returns : goal.returns
returns c = record { bound = contradiction_on_part; tree = pasted }
