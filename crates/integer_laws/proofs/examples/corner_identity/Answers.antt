use Rattle.integer_laws.proofs.ExampleLaws.{corner_identity}
use Rattle.integer_laws.proofs.examples.corner_identity.Goals as goal

pub returns : goal.returns
returns c = corner_identity
