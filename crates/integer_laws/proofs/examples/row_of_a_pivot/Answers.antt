use Rattle.integer_laws.proofs.ExampleLaws.{row_of_a_pivot}
use Rattle.integer_laws.proofs.examples.row_of_a_pivot.Goals as goal

pub returns : goal.returns
returns c = row_of_a_pivot
