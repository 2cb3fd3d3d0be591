use Rattle.std.proofs.Common.{Some, ap, ◌∙◌}
use Rattle.cert_checker.proofs.NodeRules.{breach_says}
use Rattle.cert_checker.proofs.judging.bound_rule.Goals as goal

pub returns-in-None-clause-rule : goal.returns-in-None-clause-rule
returns-in-None-clause-rule c = breach_says _ _ _ _ _ c.first_breach.ensures.breach c.in-None.is

pub returns-in-Some-Row-clause-rule : goal.returns-in-Some-Row-clause-rule
returns-in-Some-Row-clause-rule c = breach_says _ _ _ _ _ c.first_breach.ensures.breach (c.in-Some-Row.is ∙ ap Some c.in-Some-Row.field-0-is)

pub returns-in-Some-Sum-clause-rule : goal.returns-in-Some-Sum-clause-rule
returns-in-Some-Sum-clause-rule c = breach_says _ _ _ _ _ c.first_breach.ensures.breach (c.in-Some-Sum.is ∙ ap Some c.in-Some-Sum.field-0-is)

pub returns-in-Some-Constant-clause-rule : goal.returns-in-Some-Constant-clause-rule
returns-in-Some-Constant-clause-rule c = breach_says _ _ _ _ _ c.first_breach.ensures.breach (c.in-Some-Constant.is ∙ ap Some c.in-Some-Constant.field-0-is)
