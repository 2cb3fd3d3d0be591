use Rattle.std.proofs.Common.{sym, subst}
use Rattle.cert_checker.proofs.Tables.{met_grown}
use Rattle.cert_checker.specs.Kept.{HasRange}
use Rattle.cert_checker.proofs.kept.Table.range.Goals as goal

pub returns-in_ok-order_range-in-Order-clause-range : goal.returns-in_ok-order_range-in-Order-clause-range
returns-in_ok-order_range-in-Order-clause-range c =
    subst (λ n. HasRange c.args.job.now c.order_range.new.self.choices.items n c.in_ok-order_range-in-Order.field-0) (sym c.in-Order.is) (c.in_ok-order_range-in-Order.ensures.range c.args.job.now)

pub returns-in_ok-order_range-in-Order-clause-rows : goal.returns-in_ok-order_range-in-Order-clause-rows
returns-in_ok-order_range-in-Order-clause-rows c = c.in_ok-order_range-in-Order.ensures.rows c.args.job.now

pub returns-in_ok-order_range-in-Order-clause-met : goal.returns-in_ok-order_range-in-Order-clause-met
returns-in_ok-order_range-in-Order-clause-met c = met_grown c.args.job.now _ _ _ c.in_ok-order_range-in-Order.ensures.grown c.requires.met
