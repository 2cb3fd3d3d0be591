use Rattle.outline_laws.specs.Laws.Differences.{area_of_lists}
use Rattle.outline_laws.proofs.a_difference_has_area_where_its_first_list_has.Goals as goal

pub returns : goal.returns
returns c = area_of_lists
