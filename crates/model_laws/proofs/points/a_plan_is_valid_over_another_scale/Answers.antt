use Rattle.model_laws.specs.Laws.SamePoints.{valid_at_same_places}
use Rattle.model_laws.proofs.points.a_plan_is_valid_over_another_scale.Goals as goal

pub returns : goal.returns
returns c = valid_at_same_places
