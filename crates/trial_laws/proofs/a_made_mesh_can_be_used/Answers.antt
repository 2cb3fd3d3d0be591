use Rattle.trial_laws.specs.Laws.Files.{mesh_made}
use Rattle.trial_laws.proofs.a_made_mesh_can_be_used.Goals as goal

pub returns : goal.returns
returns c = mesh_made
