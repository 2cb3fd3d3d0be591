use Rattle.plan_laws.specs.Laws.Dropping.{dropped}
use Rattle.plan_laws.proofs.trees.a_tree_does_without_an_unused_choice.Goals as goal

pub returns : goal.returns
returns c = dropped
