use Rattle.std.proofs.lemmas.Result.{IfOk-weaker}
use Rattle.plate_shrink.proofs.Halving.{never_spent, decides}
use Rattle.plate_shrink.specs.Outcomes.{IsBudgetOutcome, IsDecided, IsOutcome}
use Rattle.plate_shrink.proofs.shrinking.least_by.Goals as goal

pub returns-clause-unspent : goal.returns-clause-unspent
returns-clause-unspent g c = λ full is enough.
    IfOk-weaker c.shrunk.result (IsOutcome c.args.job.now c.args.budget) (λ outcome. IsBudgetOutcome outcome → ⊥)
    (λ outcome shows. never_spent c.args.job.now c.args.budget full outcome is enough shows) c.shrunk.ensures.is

pub returns-clause-complete : goal.returns-clause-complete
returns-clause-complete g c = λ full is enough narrow.
    IfOk-weaker c.shrunk.result (IsOutcome c.args.job.now c.args.budget) IsDecided
    (λ outcome shows. decides c.args.job.now c.args.budget full outcome is enough narrow shows) c.shrunk.ensures.is
