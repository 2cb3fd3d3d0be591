use Rattle.outline_laws.specs.Laws.InOrder.{sides_of_corners}
use Rattle.convex_outline.proofs.outward.sides.Goals as goal

pub returns-clause-sides : goal.returns-clause-sides
returns-clause-sides c =
    sides_of_corners c.args.corners.now c.in_ok-reduced_edges.field-0.items c.requires.corners c.in_ok-reduced_edges.ensures.reduced
