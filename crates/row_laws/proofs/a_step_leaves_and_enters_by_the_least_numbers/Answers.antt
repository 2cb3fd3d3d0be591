use Rattle.std.proofs.Common.{Some, None}
use Rattle.row_laws.specs.Laws.Pivots.{next_is}
use Rattle.row_laws.proofs.a_step_leaves_and_enters_by_the_least_numbers.Goals as goal

pub returns-clause-goes_on : goal.returns-clause-goes_on
returns-clause-goes_on c = λ vars rows basis f next. next_is vars rows basis f (Some next)

pub returns-clause-stops : goal.returns-clause-stops
returns-clause-stops c = λ vars rows basis f. next_is vars rows basis f None
