use Rattle.model_laws.specs.Laws.SamePoints.{overlap_of_same, collides_at_same}
use Rattle.model_laws.proofs.points.collisions_are_at_points.Goals as goal

pub returns-clause-overlap : goal.returns-clause-overlap
returns-clause-overlap c = overlap_of_same

pub returns-clause-collides : goal.returns-clause-collides
returns-clause-collides c = collides_at_same
