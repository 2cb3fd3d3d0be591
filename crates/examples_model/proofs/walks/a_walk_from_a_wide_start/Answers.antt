use Rattle.examples_model.proofs.WideStart.{from_a_wide_start}
use Rattle.examples_model.proofs.walks.a_walk_from_a_wide_start.Goals as goal

pub returns : goal.returns
returns c = from_a_wide_start
