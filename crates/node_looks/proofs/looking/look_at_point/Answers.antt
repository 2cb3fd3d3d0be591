use Rattle.node_looks.proofs.TrailLaws.{trail_holds}
use Rattle.node_looks.proofs.looking.look_at_point.Goals as goal

pub look_in_order-requires-clause-held : goal.look_in_order-requires-clause-held
look_in_order-requires-clause-held c = trail_holds c.args.asked.now.job.now c.args.asked.now.extent c.args.asked.now.path.now c.args.trail.now c.requires.at
