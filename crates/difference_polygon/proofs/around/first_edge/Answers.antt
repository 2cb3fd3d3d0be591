use Rattle.std.proofs.Common.{ap, ◌∙◌, true}
use Rattle.outline_laws.specs.Laws.Ahead.{first_after}
use Rattle.outline_laws.specs.Laws.Loops.{edges_if}
use Rattle.outline_laws.specs.Laws.Around.{first_of_all}
use Rattle.difference_polygon.proofs.around.first_edge.Goals as goal

pub returns-clause-value : goal.returns-clause-value
returns-clause-value c =
    let after = c.args.after.now in
    c.first_edge_after.ensures.value
    ∙ ap (λ best. first_after after best (edges_if true c.args.f.now)) (c.first_edge_after-of_b.ensures.value ∙ ap (λ best. first_after after best (edges_if true c.args.b.now)) c.first_edge_after-of_a.ensures.value)
    ∙ first_of_all after c.args.a.now c.args.b.now c.args.f.now
