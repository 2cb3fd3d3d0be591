use Rattle.order_graph.proofs.PlacingLaws.{one_linked}
use Rattle.order_graph.proofs.placing.next_backwards.Goals as goal

pub loop-k-preserved : goal.loop-k-preserved
loop-k-preserved c =
    one_linked c.args.before.now c.args.left c.loop-k.rest c.loop-k.next c.in-Some.k c.shared.result c.loop-k.invariant c.requires c.in-Some.ensures.0 c.in-Some.ensures.1 c.shared.ensures c.any_of-in-Some.result c.any_of-in-Some.ensures c.without-rest.result c.without-rest.ensures.same c.without-rest.ensures.others
