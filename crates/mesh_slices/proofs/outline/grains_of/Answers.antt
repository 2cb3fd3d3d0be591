use Rattle.std.proofs.Common.{arith}
use Rattle.integer_laws.specs.Laws.Steps.{steps}
use Rattle.mesh_slices.proofs.Pushes.{span_size, span_low}
use Rattle.mesh_slices.proofs.outline.grains_of.Goals as goal

pub returns-clause-value : goal.returns-clause-value
returns-clause-value c = let small = span_size c.args.d c.args.grain c.requires.low c.requires.high c.requires.grain_low c.requires.grain_high in grind (arith, steps)

pub returns-clause-low : goal.returns-clause-low
returns-clause-low c = let small = span_size c.args.d c.args.grain c.requires.low c.requires.high c.requires.grain_low c.requires.grain_high in let low = span_low c.args.d c.args.grain c.requires.low c.requires.grain_low in grind (arith, steps)
