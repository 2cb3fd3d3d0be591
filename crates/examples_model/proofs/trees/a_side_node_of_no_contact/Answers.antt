use Rattle.examples_model.proofs.TreeLaws.{no_zone_of_earlier, no_zone_of_later, no_part, no_earlier, no_later}
use Rattle.examples_model.proofs.trees.a_side_node_of_no_contact.Goals as goal

pub returns-clause-zone_of_earlier : goal.returns-clause-zone_of_earlier
returns-clause-zone_of_earlier c = no_zone_of_earlier

pub returns-clause-zone_of_later : goal.returns-clause-zone_of_later
returns-clause-zone_of_later c = no_zone_of_later

pub returns-clause-part : goal.returns-clause-part
returns-clause-part c = no_part

pub returns-clause-earlier : goal.returns-clause-earlier
returns-clause-earlier c = no_earlier

pub returns-clause-later : goal.returns-clause-later
returns-clause-later c = no_later
