use Rattle.integer_laws.specs.Laws.Members.{In-from_contains}
use Rattle.model_laws.specs.Laws.Turning.{left_by_list}
use Rattle.outline_laws.specs.Laws.Within.{no_three_on_a_line}
use Rattle.outline_laws.proofs.no_three_corners_on_a_line.Goals as goal

pub returns : goal.returns
returns k = λ C are a b c i j l. no_three_on_a_line C (left_by_list C are) a b c (In-from_contains C a i) (In-from_contains C b j) (In-from_contains C c l)
