use Rattle.std.proofs.Common.{◌∙◌, ◌≤◌, arith, length, sym}
use Rattle.pair_constraints.specs.Laws.Reaching.{outreaches_of_behind}
use Rattle.pair_constraints.proofs.nesting.lie_inside.Goals as goal

pub returns : goal.returns
returns c =
    let three : 3 ≤ length c.args.outline.now = omega arith in
    λ t.
    outreaches_of_behind c.args.outline.now c.args.spots.now c.requires.corners three c.requires.some (sym c.are_left_of_all.ensures ∙ t)
