use Rattle.plan_laws.specs.Laws.Ordered.{plans_are_points, point_of_plan, plan_again}
use Rattle.plan_laws.proofs.points.valid_plans_are_clear_points.Goals as goal

pub returns : goal.returns
returns c = record { exist = plans_are_points; point = λ job e plan valid. (point_of_plan job e plan valid, plan_again job e plan valid) }
