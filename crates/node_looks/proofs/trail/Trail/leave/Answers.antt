use Rattle.std.proofs.Common.{refl}
use Rattle.node_looks.proofs.TrailLaws.{held_some, last_within, trail_left}
use Rattle.node_looks.proofs.trail.Trail.leave.Goals as goal

pub undo_to-requires : goal.undo_to-requires
undo_to-requires c = last_within c.args.job.now c.args.self.now c.pop.new.self.items c.in-Some.level c.requires.trail c.in-Some.ensures.items

pub forget-requires-clause-some : goal.forget-requires-clause-some
forget-requires-clause-some c = held_some c.args.job.now c.args.self.now c.pop.new.self.items c.in-Some.level c.requires.trail c.in-Some.ensures.items

pub returns-in-Some-clause-trail : goal.returns-in-Some-clause-trail
returns-in-Some-clause-trail c =
    trail_left c.args.job.now c.args.self.now _ c.in-Some.level c.requires.trail c.in-Some.ensures.items refl c.undo_to.ensures.vars c.undo_to.ensures.steps c.forget.ensures.objects c.forget.ensures.held c.forget.ensures.count
