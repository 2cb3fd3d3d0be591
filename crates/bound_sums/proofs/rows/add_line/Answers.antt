use Rattle.std.proofs.Common.{refl, rules, FitsSigned}
use Rattle.bound_sums.proofs.Settled.{settled}
use Rattle.bound_sums.proofs.Sums.{bound_added}
use Rattle.bound_sums.proofs.rows.add_line.Goals as goal

pub returns-in-Bound-clause-added : goal.returns-in-Bound-clause-added
returns-in-Bound-clause-added c =
    let fits : FitsSigned mir.Syntax.w128 c.less_of.result = search rules in
    rw c.in-Bound.is (bound_added _ _ _ _ _ _ refl (rw c.in-Bound.is at c.requires.line).0 c.less_of.ensures.value (settled _ _ _ _ c.add_at.ensures.value fits))
