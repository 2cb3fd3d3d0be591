use Rattle.std.proofs.Common.{sym, subst}
use Rattle.outline_laws.specs.Laws.Around.{IsGoodAfter, IsReduced, all_edges, first_good, next_of_edges}
use Rattle.difference_polygon.proofs.around.next_after.Goals as goal

pub reduced-requires-clause-good : goal.reduced-requires-clause-good
reduced-requires-clause-good c = subst IsGoodAfter (sym c.first_edge.ensures.value) (first_good c.args.after.now (all_edges c.args.a.now c.args.b.now c.args.f.now))

pub returns-clause-next : goal.returns-clause-next
returns-clause-next c =
    next_of_edges c.args.a.now c.args.b.now c.args.f.now c.args.after.now c.reduced.result c.requires.outlines c.requires.after
    (subst (λ l. IsReduced l c.reduced.result) c.first_edge.ensures.value c.reduced.ensures.value)
