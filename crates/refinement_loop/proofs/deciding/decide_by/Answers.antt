use Rattle.std.proofs.lemmas.Result.{IfOk-weaker}
use Rattle.refinement_loop.proofs.Answering.{never_spent, settles}
use Rattle.refinement_loop.specs.Decisions.{IsDecision, IsSettled, IsSpentDecision}
use Rattle.refinement_loop.proofs.deciding.decide_by.Goals as goal

pub returns-clause-unspent : goal.returns-clause-unspent
returns-clause-unspent g c = λ full is enough.
    IfOk-weaker c.search.result (IsDecision c.args.job.now c.args.extent c.args.budget) (λ d. IsSpentDecision d → ⊥)
    (λ d decides. never_spent c.args.job.now c.args.extent c.args.budget full d is enough decides) c.search.ensures.is

pub returns-clause-complete : goal.returns-clause-complete
returns-clause-complete g c = λ full is enough narrow.
    IfOk-weaker c.search.result (IsDecision c.args.job.now c.args.extent c.args.budget) IsSettled
    (λ d decides. settles c.args.job.now c.args.extent c.args.budget full d is enough narrow decides) c.search.ensures.is
