use Rattle.row_dictionary.proofs.Backwards.{back_members, back_some, back_fits, back_is}
use Rattle.row_dictionary.proofs.dictionary.Dictionary.pivot_back.Goals as goal

pub pivot-requires-clause-leaving : goal.pivot-requires-clause-leaving
pivot-requires-clause-leaving c = (back_members c.requires.0 c.requires.1 c.args.self.now c.args.leaving c.args.entering c.requires.2).0

pub pivot-requires-clause-entering : goal.pivot-requires-clause-entering
pivot-requires-clause-entering c = (back_members c.requires.0 c.requires.1 c.args.self.now c.args.leaving c.args.entering c.requires.2).1

pub pivot-requires-clause-entry : goal.pivot-requires-clause-entry
pivot-requires-clause-entry c = back_some c.requires.0 c.requires.1 c.args.self.now c.args.leaving c.args.entering c.requires.2

pub unreachable-requires : goal.unreachable-requires
unreachable-requires c = back_fits c.requires.0 c.requires.1 c.args.self.now c.args.leaving c.args.entering c.requires.2 _ (c.in-Err.ensures.wide c.requires.0 c.requires.2.is)

pub returns : goal.returns
returns c = λ rows before came. back_is rows before c.args.self.now _ c.args.leaving c.args.entering came c.pivot.ensures.vars c.in-Ok.ensures.basic c.in-Ok.ensures.free (c.in-Ok.ensures.held rows came.is)
