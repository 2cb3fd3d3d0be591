use Rattle.outline_laws.specs.Laws.Clear.{greatest_sum}
use Rattle.outline_laws.proofs.greatest_values_of_a_difference_add_up.Goals as goal

pub returns : goal.returns
returns c = greatest_sum
