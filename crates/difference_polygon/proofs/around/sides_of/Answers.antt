use Rattle.outline_laws.specs.Laws.InOrder.{sides_of_difference}
use Rattle.difference_polygon.proofs.around.sides_of.Goals as goal

pub returns-clause-sides : goal.returns-clause-sides
returns-clause-sides c =
    sides_of_difference c.args.a.now c.args.b.now c.args.f.now c.in_ok-reduced_edges.field-0.items c.requires c.in_ok-reduced_edges.ensures.reduced
