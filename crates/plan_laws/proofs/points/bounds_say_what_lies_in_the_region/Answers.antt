use Rattle.plan_laws.specs.Laws.Inside.{inside_where_bounded, bounded_where_inside}
use Rattle.plan_laws.proofs.points.bounds_say_what_lies_in_the_region.Goals as goal

pub returns : goal.returns
returns c = λ job e d u one many. (inside_where_bounded job e d u one many, bounded_where_inside job e d u many)
