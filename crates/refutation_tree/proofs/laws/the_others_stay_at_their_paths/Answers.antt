use Rattle.refutation_tree.specs.Laws.Kept.{stands_before, stands_behind, stands_below, tree_splits}
use Rattle.seq_model.specs.Splits.{Earned}
use Rattle.seq_model.specs.Trees.{IsSoundNode}
use Rattle.refutation_tree.proofs.laws.the_others_stay_at_their_paths.Goals as goal

pub returns-clause-before : goal.returns-clause-before
returns-clause-before c = stands_before

pub returns-clause-behind : goal.returns-clause-behind
returns-clause-behind c = stands_behind

pub returns-clause-below : goal.returns-clause-below
returns-clause-below c = stands_below

pub returns-clause-good : goal.returns-clause-good
returns-clause-good c = λ job e front back node at paths tree stands sound earned children many.
    tree_splits job (λ path n. IsSoundNode job e path n × Earned job e path n) (λ path. (tt, tt)) front back node at paths tree stands (sound, earned) children many
