use Rattle.examples_model.proofs.CycleLaws.{two_cubes_refuted, one_way, other_way, three_cubes_refuted, backwards, one_object, no_object}
use Rattle.examples_model.proofs.trees.cycles_of_a_path.Goals as goal

pub returns-clause-two : goal.returns-clause-two
returns-clause-two c = two_cubes_refuted

pub returns-clause-one_way : goal.returns-clause-one_way
returns-clause-one_way c = one_way

pub returns-clause-other_way : goal.returns-clause-other_way
returns-clause-other_way c = other_way

pub returns-clause-three : goal.returns-clause-three
returns-clause-three c = three_cubes_refuted

pub returns-clause-backwards : goal.returns-clause-backwards
returns-clause-backwards c = backwards

pub returns-clause-one_object : goal.returns-clause-one_object
returns-clause-one_object c = one_object

pub returns-clause-no_object : goal.returns-clause-no_object
returns-clause-no_object c = no_object
