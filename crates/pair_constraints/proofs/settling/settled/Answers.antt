use Rattle.std.proofs.Common.{[]}
use Rattle.pair_constraints.specs.Laws.Settling.{later_more}
use Rattle.pair_constraints.proofs.settling.settled.Goals as goal

pub loop-zj-preserved : goal.loop-zj-preserved
loop-zj-preserved c =
    let a = c.args in
    record {
      kept = c.in_ok-settle_zones.ensures.kept;
      settles = later_more a.job.now a.i a.j c.loop-zj.zj [] c.loop-zj.kept.items c.settle_zones.new.kept.items c.loop-zj.invariant.settles c.in_ok-settle_zones.ensures.settles;
    }
