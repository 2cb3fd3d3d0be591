use Rattle.examples_model.proofs.OtherOrder.{other_order}
use Rattle.examples_model.proofs.PathLaws.{follows, alone, too_soon, no_side, no_contact}
use Rattle.examples_model.proofs.trees.a_side_follows_its_order.Goals as goal

pub returns-clause-follows : goal.returns-clause-follows
returns-clause-follows c = follows

pub returns-clause-alone : goal.returns-clause-alone
returns-clause-alone c = alone

pub returns-clause-too_soon : goal.returns-clause-too_soon
returns-clause-too_soon c = too_soon

pub returns-clause-no_side : goal.returns-clause-no_side
returns-clause-no_side c = no_side

pub returns-clause-no_contact : goal.returns-clause-no_contact
returns-clause-no_contact c = no_contact

pub returns-clause-other_order : goal.returns-clause-other_order
returns-clause-other_order c = other_order
