use Rattle.row_laws.specs.Laws.OneWalk.{one_walk}
use Rattle.row_laws.proofs.a_start_has_one_walk_at_most.Goals as goal

pub returns : goal.returns
returns c = one_walk
