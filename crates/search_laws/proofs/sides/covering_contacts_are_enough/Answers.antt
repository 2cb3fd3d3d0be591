use Rattle.search_laws.specs.Laws.Covering.{enough_objects}
use Rattle.search_laws.proofs.sides.covering_contacts_are_enough.Goals as goal

pub returns : goal.returns
returns c = enough_objects
