use Rattle.examples_model.proofs.CauseLaws.{unearned, not_open, alone}
use Rattle.examples_model.proofs.splits.nothing_to_split.Goals as goal

pub returns-clause-no_room : goal.returns-clause-no_room
returns-clause-no_room c = unearned

pub returns-clause-not_open : goal.returns-clause-not_open
returns-clause-not_open c = not_open

pub returns-clause-one_object : goal.returns-clause-one_object
returns-clause-one_object c = alone
