use Rattle.std.proofs.Common.{IfSome, subst}
use Rattle.cert_checker.specs.Kept.{HasSidesAt}
use Rattle.cert_checker.proofs.Tables.{other_children, side_range_by}
use Rattle.cert_checker.proofs.kept.Table.side_range.Goals as goal

pub returns-then-range-children-clause-stuck : goal.returns-then-range-children-clause-stuck
returns-then-range-children-clause-stuck c = λ is.
    other_children c.args.job.now c.sides.new.self.choices.items c.args.contact.now c.args.children c.in-Some.range
    (subst (λ o. IfSome o (HasSidesAt c.args.job.now c.sides.new.self.choices.items c.args.contact.now)) c.in-Some.is c.in_ok-range.ensures.range) c.if-range-children.true

pub returns-clause-range : goal.returns-clause-range
returns-clause-range c =
    side_range_by c.args.job.now c.sides.new.self.choices.items c.args.contact.now c.args.children c.in-Some.range
    (subst (λ o. IfSome o (HasSidesAt c.args.job.now c.sides.new.self.choices.items c.args.contact.now)) c.in-Some.is c.in_ok-range.ensures.range) c.if-range-children.false
