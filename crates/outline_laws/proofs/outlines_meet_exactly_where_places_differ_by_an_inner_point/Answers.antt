use Rattle.outline_laws.specs.Laws.Overlaps.{inner_of_overlap, overlap_of_inner}
use Rattle.outline_laws.proofs.outlines_meet_exactly_where_places_differ_by_an_inner_point.Goals as goal

pub returns : goal.returns
returns c = λ A B F p r p_is r_is. (inner_of_overlap A B F p r p_is, overlap_of_inner A B F p r p_is r_is)
