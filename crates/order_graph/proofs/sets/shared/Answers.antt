use Rattle.order_graph.proofs.SetLaws.{in_both}
use Rattle.order_graph.proofs.sets.shared.Goals as goal

pub returns : goal.returns
returns c k = in_both c.args.set c.args.other k
