use Rattle.examples_model.proofs.WalkLaws.{first_form, last_form, walk_of_one}
use Rattle.examples_model.proofs.walks.half_meets_one_row.Goals as goal

pub returns-clause-first : goal.returns-clause-first
returns-clause-first c = first_form

pub returns-clause-last : goal.returns-clause-last
returns-clause-last c = last_form

pub returns-clause-walk : goal.returns-clause-walk
returns-clause-walk c = walk_of_one
