use Rattle.examples_model.proofs.WalkLaws.{wide_form_is, wide_at_3, walk_wide, from_nowhere}
use Rattle.examples_model.proofs.walks.a_walk_ends_before_a_wide_row.Goals as goal

pub returns-clause-form : goal.returns-clause-form
returns-clause-form c = wide_form_is

pub returns-clause-wide : goal.returns-clause-wide
returns-clause-wide c = wide_at_3

pub returns-clause-walk : goal.returns-clause-walk
returns-clause-walk c = walk_wide

pub returns-clause-from_the_slacks : goal.returns-clause-from_the_slacks
returns-clause-from_the_slacks c = walk_wide

pub returns-clause-from_no_basis : goal.returns-clause-from_no_basis
returns-clause-from_no_basis c = from_nowhere
