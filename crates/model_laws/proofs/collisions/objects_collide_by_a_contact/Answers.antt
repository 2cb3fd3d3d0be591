use Rattle.model_laws.specs.Laws.Collisions.{contact_collides, collides_by_contact}
use Rattle.model_laws.proofs.collisions.objects_collide_by_a_contact.Goals as goal

pub returns-clause-if_a_contact_does : goal.returns-clause-if_a_contact_does
returns-clause-if_a_contact_does c = contact_collides

pub returns-clause-only_then : goal.returns-clause-only_then
returns-clause-only_then c = collides_by_contact
