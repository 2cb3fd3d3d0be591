use Rattle.examples_model.proofs.CauseLaws.{ordered, nowhere}
use Rattle.examples_model.proofs.splits.splits_without_a_cause.Goals as goal

pub returns-clause-ordered : goal.returns-clause-ordered
returns-clause-ordered c = ordered

pub returns-clause-nowhere : goal.returns-clause-nowhere
returns-clause-nowhere c = nowhere
