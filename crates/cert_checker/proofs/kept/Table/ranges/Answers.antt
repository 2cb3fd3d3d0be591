use Rattle.std.proofs.Common.{subst, IfSome, IfNone}
use Rattle.cert_checker.specs.Kept.{HasRange, IsStuck}
use Rattle.cert_checker.proofs.Tables.{no_ranges, none_met, ranges_more, ranges_stop, ranges_all}
use Rattle.cert_checker.proofs.kept.Table.ranges.Goals as goal

pub loop-node-init : goal.loop-node-init
loop-node-init c = record { ranges = no_ranges _ _ _ _ c.in_ok-ranges.ensures.items; met = none_met _ _ _ c.new-met.ensures.empty; rows = λ h. h }

pub loop-node-preserved : goal.loop-node-preserved
loop-node-preserved c = record {
  ranges =
      ranges_more c.args.job.now _ _ c.in_ok-range.ensures.grown.0 c.args.nodes.now _ c.node-item.result c.in-Some.range _ _ c.loop-node-test.true c.node-item.is c.in_ok-range.ensures.grown.1 c.loop-node.invariant.ranges
      (subst (λ o. IfSome o (HasRange c.args.job.now c.range.new.self.choices.items c.node-item.result)) c.in-Some.is c.in_ok-range.ensures.range) c.in_ok-note.ensures;
  met = c.in_ok-range.ensures.met;
  rows = λ h. c.in_ok-range.ensures.rows (c.loop-node.invariant.rows h);
}

pub returns-in_default-clause-ranges : goal.returns-in_default-clause-ranges
returns-in_default-clause-ranges c =
    ranges_stop c.args.job.now _ _ c.in_ok-range.ensures.grown.0 c.args.nodes.now _ c.node-item.result _ c.loop-node-test.true c.node-item.is c.in_ok-range.ensures.grown.1 c.loop-node.invariant.ranges
    (subst (λ o. IfNone o (IsStuck c.args.job.now c.node-item.result)) c.in_default.is c.in_ok-range.ensures.stuck)

pub returns-in_default-clause-rows : goal.returns-in_default-clause-rows
returns-in_default-clause-rows c = λ h. c.in_ok-range.ensures.rows (c.loop-node.invariant.rows h)

pub returns-clause-ranges : goal.returns-clause-ranges
returns-clause-ranges c = ranges_all _ _ _ _ _ c.loop-node-test.false c.loop-node.auto.node-index-end c.loop-node.invariant.ranges

pub returns-clause-rows : goal.returns-clause-rows
returns-clause-rows c = c.loop-node.invariant.rows

pub range-requires : goal.range-requires
range-requires c = record { met = c.loop-node.invariant.met }
