use Rattle.difference_polygon.proofs.Lows.{low_narrow}
use Rattle.difference_polygon.proofs.rows.low_along.Goals as goal

pub value_along-requires-clause-at : goal.value_along-requires-clause-at
value_along-requires-clause-at c = low_narrow c.args.object.now c.requires.object
