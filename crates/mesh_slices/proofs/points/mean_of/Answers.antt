use Rattle.std.proofs.Common.{arith}
use Rattle.integer_laws.specs.Laws.Steps.{steps}
use Rattle.mesh_slices.proofs.points.mean_of.Goals as goal

pub returns-clause-value : goal.returns-clause-value
returns-clause-value c = grind (arith, steps)
