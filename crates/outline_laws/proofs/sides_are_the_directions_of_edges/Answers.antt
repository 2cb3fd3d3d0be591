use Rattle.outline_laws.specs.Laws.Ahead.{side_across}
use Rattle.outline_laws.proofs.sides_are_the_directions_of_edges.Goals as goal

pub returns : goal.returns
returns c = side_across
