use Rattle.std.proofs.Common.{arith, ◌-◌, length}
use Rattle.outline_laws.specs.Laws.Loops.{last_at}
use Rattle.outline_edges.proofs.edges.last_corner.Goals as goal

pub returns-clause-value : goal.returns-clause-value
returns-clause-value c = let h = c.requires.some in last_at c.args.corners.now (length c.args.corners.now - 1) _ (omega (arith, h))
