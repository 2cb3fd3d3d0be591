use Rattle.examples_model.proofs.SpentLaws.{bound_not_pending}
use Rattle.examples_model.proofs.splits.a_note_names_a_pending_node.Goals as goal

pub returns : goal.returns
returns c = λ note. bound_not_pending _ note.leaf_is
