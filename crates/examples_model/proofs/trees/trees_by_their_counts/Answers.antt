use Rattle.std.proofs.Common.{◌≤◌, length, refl, ap, arith, lit≤}
use Rattle.examples_model.proofs.trees.trees_by_their_counts.Goals as goal

pub returns-clause-whole : goal.returns-clause-whole
returns-clause-whole c = (2, (lit≤ tt, (lit≤ tt, (lit≤ tt, (lit≤ tt, (lit≤ tt, (lit≤ tt, (lit≤ tt, (lit≤ tt, (lit≤ tt, (lit≤ tt, (lit≤ tt, refl))))))))))))

pub returns-clause-two_splits : goal.returns-clause-two_splits
returns-clause-two_splits c = (lit≤ tt, (lit≤ tt, (lit≤ tt, (lit≤ tt, (lit≤ tt, (lit≤ tt, (lit≤ tt, (lit≤ tt, (lit≤ tt, (lit≤ tt, (lit≤ tt, refl)))))))))))

pub returns-clause-not_one : goal.returns-clause-not_one
returns-clause-not_one c = λ w. (let deep : 2 ≤ 1 = w.1.1.0 in absurd (omega (arith, deep)))

pub returns-clause-fewer_than_sides : goal.returns-clause-fewer_than_sides
returns-clause-fewer_than_sides c = (lit≤ tt, (lit≤ tt, refl))

pub returns-clause-child_missing : goal.returns-clause-child_missing
returns-clause-child_missing c = λ w. absurd (omega (arith, ap length w.1.1.1))

pub returns-clause-node_behind : goal.returns-clause-node_behind
returns-clause-node_behind c = λ w. w.1.1

pub returns-clause-no_node : goal.returns-clause-no_node
returns-clause-no_node c = λ w. absurd (omega (arith, ap length w.1))
