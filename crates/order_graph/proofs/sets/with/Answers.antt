use Rattle.std.specs.Int.{w16}
use Rattle.std.proofs.lemmas.Nat.Bits.{bit_at_set_same}
use Rattle.order_graph.proofs.SetLaws.{in_more, more}
use Rattle.order_graph.proofs.sets.with.Goals as goal

pub returns-clause-same : goal.returns-clause-same
returns-clause-same c = bit_at_set_same w16 c.args.set c.args.k c.requires

pub returns-clause-others : goal.returns-clause-others
returns-clause-others c a apart = in_more c.args.set c.args.k a c.requires apart

pub returns-clause-more : goal.returns-clause-more
returns-clause-more c = more c.args.set c.args.k c.requires
