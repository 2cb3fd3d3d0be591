use Rattle.model_laws.specs.Laws.SamePoints.{mean_of_same}
use Rattle.model_laws.proofs.points.a_mean_is_of_a_point.Goals as goal

pub returns : goal.returns
returns c = mean_of_same
