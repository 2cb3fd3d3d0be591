use Rattle.std.proofs.Common.{arith}
use Rattle.integer_laws.specs.Laws.Steps.{steps, product_below}
use Rattle.row_dictionary.proofs.narrow.narrow_product.Goals as goal

pub product-requires : goal.product-requires
product-requires c = grind (arith, steps, product_below)

pub returns-clause-size : goal.returns-clause-size
returns-clause-size c = grind (arith, steps, product_below)
