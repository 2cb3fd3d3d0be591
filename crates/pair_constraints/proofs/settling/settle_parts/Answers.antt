use Rattle.pair_constraints.specs.Laws.Settling.{parts_more}
use Rattle.pair_constraints.proofs.settling.settle_parts.Goals as goal

pub loop-part-preserved : goal.loop-part-preserved
loop-part-preserved c =
    let a = c.args in
    record {
      kept = c.in_ok-settle_if.ensures.kept;
      settles = parts_more a.job.now a.i a.zi a.zj a.j c.loop-part.part a.kept.now.items c.loop-part.kept.items c.settle_if.new.kept.items c.loop-part.invariant.settles c.in_ok-settle_if.ensures.settles;
    }
