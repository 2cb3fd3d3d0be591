use Rattle.outline_laws.specs.Laws.Differences.{side_cases, side_of_lists}
use Rattle.outline_laws.proofs.sides_of_a_difference_are_those_of_its_lists.Goals as goal

pub returns : goal.returns
returns c = λ A B F dir p q r. (side_cases A B F dir, side_of_lists A B F dir p q r)
