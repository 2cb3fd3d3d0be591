use Rattle.model_laws.specs.Laws.Farkas.{no_point}
use Rattle.model_laws.proofs.rows.no_point_meets_a_contradiction.Goals as goal

pub returns : goal.returns
returns c = no_point
