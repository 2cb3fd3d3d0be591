use Rattle.row_pivots.specs.Laws.Grown.{grown}
use Rattle.row_pivots.proofs.a_row_more_gives_a_table.Goals as goal

pub returns : goal.returns
returns c = grown
