use Rattle.std.proofs.Common.{refl, ◌∙◌}
use Rattle.node_looks.proofs.TrailLaws.{order_entered, trail_cycle}
use Rattle.node_looks.proofs.trail.Trail.enter_order.Goals as goal

pub returns-in-Err-clause-is : goal.returns-in-Err-clause-is
returns-in-Err-clause-is c =
    let may = c.may_hold.ensures c.if-not-may_hold.false in
    trail_cycle c.args.job.now c.args.self.now.extent c.args.k c.args.path.now c.args.self.now c.args.i c.args.j c.in-Err.cycle c.requires.at c.requires.choice may.0 c.in-Err.ensures.cycle

pub returns-clause-is : goal.returns-clause-is
returns-clause-is c =
    let may = c.may_hold.ensures c.if-not-may_hold.false in
    order_entered c.args.job.now c.args.k c.args.path.now c.args.self.now c.push.new.self _ c.args.i c.args.j c.requires.at c.requires.choice refl may.0 may.1 c.mark-before.ensures.is c.push.ensures.extent c.push.ensures.warm
    (c.push.ensures.graph ∙ c.in_default.ensures.held) c.push.ensures.orders c.in_ok-push.ensures.levels

pub returns-clause-stays : goal.returns-clause-stays
returns-clause-stays c =
    let may = c.may_hold.ensures c.if-not-may_hold.false in
    (order_entered c.args.job.now c.args.k c.args.path.now c.args.self.now c.push.new.self _ c.args.i c.args.j c.requires.at c.requires.choice refl may.0 may.1 c.mark-before.ensures.is c.push.ensures.extent c.push.ensures.warm
    (c.push.ensures.graph ∙ c.in_default.ensures.held) c.push.ensures.orders c.in_ok-push.ensures.levels).trail
