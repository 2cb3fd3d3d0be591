use Rattle.std.proofs.Common.{arith}
use Rattle.node_looks.proofs.TrailLaws.{rows_count}
use Rattle.node_looks.proofs.trail.add_all.Goals as goal

pub add-requires-clause-count : goal.add-requires-clause-count
add-requires-clause-count c =
    omega (arith, rows_count c.loop-row.warm.steps c.args.rows.now c.loop-row.row-index c.loop-row.invariant.steps, c.loop-row.invariant.vars, c.requires.count, c.loop-row-test.true)
