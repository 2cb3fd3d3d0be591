use Rattle.std.proofs.Common.{arith}
use Rattle.node_looks.proofs.TrailLaws.{shared_more}
use Rattle.node_looks.proofs.trail.shared.Goals as goal

pub loop-k-preserved : goal.loop-k-preserved
loop-k-preserved c =
    shared_more c.args.levels.now c.args.path.now c.loop-k.k _ _ (omega (arith, c.loop-k-test.true, c.min-count.ensures)) (omega (arith, c.loop-k-test.true, c.min-count.ensures)) (c.is_of.ensures c.if-not-is_of.false) c.loop-k.invariant
