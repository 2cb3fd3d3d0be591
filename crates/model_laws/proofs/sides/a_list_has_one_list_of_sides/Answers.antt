use Rattle.model_laws.specs.Laws.OneList.{one_list_of_sides}
use Rattle.model_laws.proofs.sides.a_list_has_one_list_of_sides.Goals as goal

pub returns : goal.returns
returns c = one_list_of_sides
