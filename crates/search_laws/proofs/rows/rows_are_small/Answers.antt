use Rattle.search_laws.specs.Laws.RowSizes.{small_rows}
use Rattle.search_laws.proofs.rows.rows_are_small.Goals as goal

pub returns : goal.returns
returns c = small_rows
