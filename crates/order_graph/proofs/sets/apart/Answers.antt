use Rattle.order_graph.proofs.SetLaws.{in_first}
use Rattle.order_graph.proofs.sets.apart.Goals as goal

pub returns : goal.returns
returns c k = in_first c.args.set c.args.other k c.ranges.set.fits c.ranges.other.fits
