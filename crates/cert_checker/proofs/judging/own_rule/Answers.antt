use Rattle.cert_checker.proofs.NodeRules.{rows_short, spelt_counted, rule_of_node}
use Rattle.cert_checker.proofs.judging.own_rule.Goals as goal

pub bound_rule-requires-clause-rows : goal.bound_rule-requires-clause-rows
bound_rule-requires-clause-rows c = rows_short c.args.job.now c.args.kept.now.extent c.args.trail.now.path.items _ _ _ _ c.as_slice.ensures.value c.requires.rooms.are c.as_slice-in-Bound.ensures.value c.requires.rows

pub bound_rule-requires-clause-counted : goal.bound_rule-requires-clause-counted
bound_rule-requires-clause-counted c = spelt_counted _ _ _ c.in-Bound.is c.as_slice-in-Bound-2.ensures c.requires.spelt

pub returns-in-Side-clause-rule : goal.returns-in-Side-clause-rule
returns-in-Side-clause-rule c = rule_of_node _ _ _ _ _ _ c.in-Side.is (c.side_rule.ensures c.args.kept.now.extent c.in-Side.children)
