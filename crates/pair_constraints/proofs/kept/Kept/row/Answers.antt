use Rattle.pair_constraints.specs.Laws.KeptRows.{kept_row_at}
use Rattle.pair_constraints.proofs.kept.Kept.row.Goals as goal

pub returns-clause-row : goal.returns-clause-row
returns-clause-row c =
    let is = c.row_of_limit.ensures in
    λ e d.
    kept_row_at c.args.job.now e c.args.self.now c.args.side c.as_slice.result.now _ d c.row_of_limit.result.c c.row_of_limit.result.x c.row_of_limit.result.y c.row_of_limit.result.i c.row_of_limit.result.j c.requires.kept c.requires.side c.as_slice.ensures
    is.c is.x is.y is.i is.j
