use Rattle.order_graph.proofs.SetLaws.{not_in_fewer, in_fewer, fewer}
use Rattle.order_graph.proofs.sets.without.Goals as goal

pub returns-clause-same : goal.returns-clause-same
returns-clause-same c = not_in_fewer c.args.set c.args.k c.requires

pub returns-clause-others : goal.returns-clause-others
returns-clause-others c a apart = in_fewer c.args.set c.args.k a c.ranges.set.fits c.requires apart

pub returns-clause-fewer : goal.returns-clause-fewer
returns-clause-fewer c = fewer c.args.set c.args.k c.requires
