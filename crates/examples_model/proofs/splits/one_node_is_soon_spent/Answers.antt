use Rattle.examples_model.proofs.SplitLaws.{root_is_earned, spent}
use Rattle.examples_model.proofs.splits.one_node_is_soon_spent.Goals as goal

pub returns-clause-earned : goal.returns-clause-earned
returns-clause-earned c = root_is_earned

pub returns-clause-spent : goal.returns-clause-spent
returns-clause-spent c = spent
