use Rattle.search_laws.specs.Laws.Gaps.{gap_is_inner}
use Rattle.search_laws.proofs.sides.a_contact_collides_where_its_gap_is_inner.Goals as goal

pub returns : goal.returns
returns c = gap_is_inner
