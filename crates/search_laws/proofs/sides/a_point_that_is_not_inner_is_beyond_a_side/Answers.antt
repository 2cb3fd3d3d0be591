use Rattle.search_laws.specs.Laws.Gaps.{area_of_contact, listed_beyond}
use Rattle.search_laws.proofs.sides.a_point_that_is_not_inner_is_beyond_a_side.Goals as goal

pub returns : goal.returns
returns c = record { area = area_of_contact; side = listed_beyond }
