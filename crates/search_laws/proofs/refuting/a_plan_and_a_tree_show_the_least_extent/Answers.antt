use Rattle.search_laws.specs.Laws.Refuting.{least_by_a_tree, least_at_one}
use Rattle.search_laws.proofs.refuting.a_plan_and_a_tree_show_the_least_extent.Goals as goal

pub returns : goal.returns
returns c = record { next = least_by_a_tree; first = least_at_one }
