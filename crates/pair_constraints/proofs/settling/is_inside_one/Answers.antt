use Rattle.std.proofs.Common.{◌<◌, arith, length}
use Rattle.pair_constraints.specs.Laws.Settling.{covered_get}
use Rattle.pair_constraints.proofs.settling.is_inside_one.Goals as goal

pub returns-then-has_inside : goal.returns-then-has_inside
returns-then-has_inside c =
    let l : c.loop-other.other-index < length c.args.kept.now = omega arith in
    λ t. covered_get c.args.job.now c.args.kept.now c.args.contact.now c.loop-other.other-index _ l c.requires.kept (c.has_inside.ensures c.if-has_inside.true)
