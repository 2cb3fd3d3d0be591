use Rattle.order_graph.proofs.SetLaws.{in_below}
use Rattle.order_graph.proofs.sets.below.Goals as goal

pub returns : goal.returns
returns c k = in_below c.args.n k c.requires.few
