use Rattle.outline_laws.specs.Laws.Sides.{free_of_inner, inner_of_free}
use Rattle.outline_laws.proofs.a_point_is_inner_exactly_where_it_is_beyond_no_side.Goals as goal

pub returns : goal.returns
returns c = λ S q area is. (free_of_inner S q area, inner_of_free S q area is)
