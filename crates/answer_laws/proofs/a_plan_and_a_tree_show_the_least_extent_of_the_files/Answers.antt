use Rattle.answer_laws.specs.Laws.OfFiles.{least_of_files, first_of_files}
use Rattle.answer_laws.proofs.a_plan_and_a_tree_show_the_least_extent_of_the_files.Goals as goal

pub returns : goal.returns
returns c = record { next = least_of_files; first = first_of_files }
