use Rattle.plan_laws.specs.Laws.Ordered.{rank_in, point_keeps, point_is_clear}
use Rattle.plan_laws.proofs.points.an_ordered_point_is_clear_by_ranks.Goals as goal

pub returns : goal.returns
returns c = λ job e path point. (rank_in point.objects, point_keeps job e path point, point_is_clear job e path point)
