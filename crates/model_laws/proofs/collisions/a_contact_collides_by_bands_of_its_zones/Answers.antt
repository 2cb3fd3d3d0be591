use Rattle.model_laws.specs.Laws.Collisions.{contact_by_bands}
use Rattle.model_laws.proofs.collisions.a_contact_collides_by_bands_of_its_zones.Goals as goal

pub returns : goal.returns
returns c = contact_by_bands
