use Rattle.model_laws.specs.Laws.Turning.{before_cases, before_from_cases, by_the_list}
use Rattle.model_laws.proofs.corners.corners_are_so_by_the_list.Goals as goal

pub returns-clause-corners : goal.returns-clause-corners
returns-clause-corners c = by_the_list

pub returns-clause-before : goal.returns-clause-before
returns-clause-before c = λ a b. (before_cases a b, before_from_cases a b)
