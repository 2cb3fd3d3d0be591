use Rattle.examples_model.proofs.WalkLaws.{even}
use Rattle.examples_model.proofs.walks.a_form_of_even_numbers.Goals as goal

pub returns : goal.returns
returns c = even
