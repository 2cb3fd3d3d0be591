use Rattle.pair_constraints.specs.Laws.KeptSides.{sides_put, sides_stay}
use Rattle.pair_constraints.proofs.sides.KeptSides.keep.Goals as goal

pub returns-clause-kept : goal.returns-clause-kept
returns-clause-kept c = sides_put c.args.job.now c.args.self.now (record { known = c.insert.new.self }) c.args.contact.now c.args.sides c.in_ok-insert.ensures.updates.0 c.requires.kept c.requires.sides

pub returns-clause-stay : goal.returns-clause-stay
returns-clause-stay c = sides_stay c.args.self.now (record { known = c.insert.new.self }) c.args.contact.now c.args.sides c.in_ok-insert.ensures.updates.0 c.requires.new
