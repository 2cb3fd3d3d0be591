use Rattle.std.proofs.Common.{arith}
use Rattle.integer_laws.specs.Laws.Steps.{steps}
use Rattle.convex_outline.proofs.turn_of.Goals as goal

pub returns : goal.returns
returns k = grind (arith, steps)
