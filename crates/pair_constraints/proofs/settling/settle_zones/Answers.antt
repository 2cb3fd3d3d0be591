use Rattle.pair_constraints.specs.Laws.Settling.{zones_more}
use Rattle.pair_constraints.proofs.settling.settle_zones.Goals as goal

pub loop-zi-preserved : goal.loop-zi-preserved
loop-zi-preserved c =
    let a = c.args in
    record {
      kept = c.in_ok-settle_parts.ensures.kept;
      settles = zones_more a.job.now a.i a.zj a.j c.loop-zi.zi a.kept.now.items c.loop-zi.kept.items c.settle_parts.new.kept.items c.loop-zi.invariant.settles c.in_ok-settle_parts.ensures.settles;
    }
