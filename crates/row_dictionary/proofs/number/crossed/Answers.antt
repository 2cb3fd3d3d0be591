use Rattle.std.proofs.Common.{arith}
use Rattle.integer_laws.specs.Laws.Steps.{steps, product_below}
use Rattle.row_dictionary.proofs.number.crossed.Goals as goal

pub returns-clause-size : goal.returns-clause-size
returns-clause-size c = grind (arith, steps, product_below)
