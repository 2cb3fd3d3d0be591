use Rattle.std.proofs.Common.{ℕ, subst}
use Rattle.node_looks.specs.Trails.{IsFollowed, IsTrailOf}
use Rattle.node_looks.proofs.looking.look_along.Goals as goal

pub look_warm-requires-clause-at : goal.look_warm-requires-clause-at
look_warm-requires-clause-at c =
    let job = c.args.asked.now.job.now in
    let path = c.args.asked.now.path.now in
    subst (λ (e : ℕ). IsTrailOf job e path c.follow.new.self) c.requires.extent (subst (IsFollowed job c.args.trail.now.extent path c.follow.new.self) c.in-Held.is c.in_ok-follow.ensures.is)
