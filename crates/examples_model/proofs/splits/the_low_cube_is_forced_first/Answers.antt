use Rattle.examples_model.proofs.CauseLaws.{forced, neighbours}
use Rattle.examples_model.proofs.splits.the_low_cube_is_forced_first.Goals as goal

pub returns-clause-forced : goal.returns-clause-forced
returns-clause-forced c = forced

pub returns-clause-neighbours : goal.returns-clause-neighbours
returns-clause-neighbours c = neighbours
