use Rattle.outline_laws.specs.Laws.Left.{left_of_inner_corners, inner_corners_of_left}
use Rattle.outline_laws.proofs.a_point_is_inner_to_corners_exactly_where_it_is_left_of_each_edge.Goals as goal

pub returns : goal.returns
returns c = λ C q are long is. (left_of_inner_corners C q are long is, inner_corners_of_left C q are long is)
