use Rattle.plan_laws.specs.Laws.Ordered.{plan_is_valid}
use Rattle.plan_laws.proofs.points.a_clear_point_is_a_valid_plan.Goals as goal

pub returns : goal.returns
returns c = plan_is_valid
