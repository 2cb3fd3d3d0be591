use Rattle.pair_constraints.specs.Laws.Covering.{out_of_reach}
use Rattle.pair_constraints.proofs.laws.beyond_any_direction_is_out_of_reach.Goals as goal

pub returns : goal.returns
returns c = out_of_reach
