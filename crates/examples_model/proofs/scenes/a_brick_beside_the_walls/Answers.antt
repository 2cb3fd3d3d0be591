use Rattle.examples_model.proofs.SceneLaws.{meet, east_clear, north_clear}
use Rattle.examples_model.proofs.scenes.a_brick_beside_the_walls.Goals as goal

pub returns-clause-meets : goal.returns-clause-meets
returns-clause-meets c = meet

pub returns-clause-east : goal.returns-clause-east
returns-clause-east c = east_clear

pub returns-clause-north : goal.returns-clause-north
returns-clause-north c = north_clear
