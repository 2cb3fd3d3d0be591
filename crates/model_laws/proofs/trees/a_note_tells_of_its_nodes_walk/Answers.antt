use Rattle.std.proofs.Common.{length, subst}
use Rattle.std.specs.Prelude.{◌*◌}
use Rattle.model_laws.specs.Laws.OnePath.{one_path}
use Rattle.seq_model.specs.Systems.{system}
use Rattle.seq_model.specs.Walks.{WalkWide}
use Rattle.model_laws.proofs.trees.a_note_tells_of_its_nodes_walk.Goals as goal

pub returns : goal.returns
returns c = λ job e tree note path n s. subst (λ p. WalkWide (2 * length job.objects) (system job e p) note.basis note.row) (one_path job tree.nodes note.node n.path path n.path_is s) n.wide
