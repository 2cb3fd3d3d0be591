use Rattle.std.proofs.Common.{◌+◌}
use Rattle.node_looks.proofs.PairLaws.{nearest_past, nearest_more}
use Rattle.plan_laws.specs.Laws.OnPath.{never}
use Rattle.node_looks.proofs.hits.with_contact.Goals as goal

pub returns-then-not-collides_at : goal.returns-then-not-collides_at
returns-then-not-collides_at c = λ i j k pair l is of near.
    nearest_past c.args.site.now i j k pair c.args.best c.args.kept.now l is
    (λ hits. never c.collides_at.result ((c.collides_at.ensures c.args.site.now.extent).1 hits) c.if-not-collides_at.true) near

pub returns : goal.returns
returns c = λ i j k pair l is of near.
    nearest_more c.args.site.now i j k (k + 1) pair c.args.best c.cheaper.result _
    (record { kept = c.requires.kept; earlier = of.earlier; later = of.later; collides = (c.collides_at.ensures c.args.site.now.extent).0 c.if-not-collides_at.false }) c.cheaper.ensures near
