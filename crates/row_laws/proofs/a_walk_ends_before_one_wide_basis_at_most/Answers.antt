use Rattle.row_laws.specs.Laws.OneWalk.{one_wide}
use Rattle.row_laws.proofs.a_walk_ends_before_one_wide_basis_at_most.Goals as goal

pub returns : goal.returns
returns c = one_wide
