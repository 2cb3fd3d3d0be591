use Rattle.cert_text.specs.Laws.Counting.{taken_one}
use Rattle.cert_text.proofs.nodes.next.Goals as goal

pub returns-else-opening-gt1-clause-next : goal.returns-else-opening-gt1-clause-next
returns-else-opening-gt1-clause-next c = taken_one _ _ _ c.in-Some.ensures.items c.requires c.if-opening-gt1.false
