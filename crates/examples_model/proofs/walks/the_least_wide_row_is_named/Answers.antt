use Rattle.examples_model.proofs.WalkLaws.{wide_at_0, wide_at_2, least_named, other_not_named}
use Rattle.examples_model.proofs.walks.the_least_wide_row_is_named.Goals as goal

pub returns-clause-first : goal.returns-clause-first
returns-clause-first c = wide_at_0

pub returns-clause-second : goal.returns-clause-second
returns-clause-second c = wide_at_2

pub returns-clause-named : goal.returns-clause-named
returns-clause-named c = least_named

pub returns-clause-not_named : goal.returns-clause-not_named
returns-clause-not_named c = other_not_named
