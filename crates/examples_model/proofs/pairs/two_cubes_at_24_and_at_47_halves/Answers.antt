use Rattle.examples_model.proofs.CubeLaws.{clear_at_24, meet_at_47_2, clear_of_tip, collide_at_47_2, apart_at_24}
use Rattle.examples_model.proofs.pairs.two_cubes_at_24_and_at_47_halves.Goals as goal

pub returns-clause-clear_by_the_nozzle : goal.returns-clause-clear_by_the_nozzle
returns-clause-clear_by_the_nozzle c = clear_at_24

pub returns-clause-meet_by_the_nozzle : goal.returns-clause-meet_by_the_nozzle
returns-clause-meet_by_the_nozzle c = meet_at_47_2

pub returns-clause-clear_by_the_tip : goal.returns-clause-clear_by_the_tip
returns-clause-clear_by_the_tip c = clear_of_tip

pub returns-clause-collide : goal.returns-clause-collide
returns-clause-collide c = collide_at_47_2

pub returns-clause-clear : goal.returns-clause-clear
returns-clause-clear c = apart_at_24
