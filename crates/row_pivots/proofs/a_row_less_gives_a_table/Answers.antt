use Rattle.row_pivots.specs.Laws.Shrunk.{shrunk}
use Rattle.row_pivots.proofs.a_row_less_gives_a_table.Goals as goal

pub returns : goal.returns
returns c = shrunk
