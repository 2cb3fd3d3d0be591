use Rattle.std.proofs.Common.{◌<◌, ◌≤◌, arith, length}
use Rattle.std.proofs.lemmas.List.Elements.{All-more}
use Rattle.pair_constraints.specs.Laws.Parting.{all_taken}
use Rattle.pair_constraints.specs.SolvedPoints.{IsSmall}
use Rattle.pair_constraints.proofs.points.are_small.Goals as goal

pub loop-n-preserved : goal.loop-n-preserved
loop-n-preserved c =
    let l : c.loop-n.n-index < length c.args.nums.now = omega arith in
    All-more IsSmall c.args.nums.now c.loop-n.n-index _ l c.loop-n.invariant (c.is_small.ensures c.if-not-is_small.false)

pub returns : goal.returns
returns c =
    let l : length c.args.nums.now ≤ c.loop-n.n-index = omega arith in
    λ t. all_taken IsSmall c.args.nums.now c.loop-n.n-index l c.loop-n.invariant
