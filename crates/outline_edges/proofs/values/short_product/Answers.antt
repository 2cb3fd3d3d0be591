use Rattle.std.proofs.Common.{arith}
use Rattle.integer_laws.specs.Laws.Steps.{steps, product_below}
use Rattle.outline_edges.proofs.values.short_product.Goals as goal

pub narrow_product-requires : goal.narrow_product-requires
narrow_product-requires c = grind (arith, steps, product_below)

pub returns-clause-size : goal.returns-clause-size
returns-clause-size c = grind (arith, steps, product_below)
