use Rattle.examples_model.proofs.CubeLaws.{tall_first, low_first}
use Rattle.examples_model.proofs.pairs.a_low_cube_before_a_tall_one.Goals as goal

pub returns-clause-tall_first : goal.returns-clause-tall_first
returns-clause-tall_first c = tall_first

pub returns-clause-low_first : goal.returns-clause-low_first
returns-clause-low_first c = low_first
