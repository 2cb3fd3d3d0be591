use Rattle.examples_model.proofs.CubeLaws.{middle, edge, edge_within}
use Rattle.examples_model.proofs.outlines.middle_and_edge_of_a_square.Goals as goal

pub returns-clause-middle : goal.returns-clause-middle
returns-clause-middle c = middle

pub returns-clause-edge : goal.returns-clause-edge
returns-clause-edge c = edge

pub returns-clause-edge_is_within : goal.returns-clause-edge_is_within
returns-clause-edge_is_within c = edge_within
