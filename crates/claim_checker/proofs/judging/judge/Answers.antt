use Rattle.std.proofs.lemmas.Result.{IfOk-weaker}
use Rattle.claim_checker.specs.Claims.{IsBlockJudgement, IsJudgement}
use Rattle.claim_checker.proofs.Showing.{judgement_by, shown}
use Rattle.claim_checker.proofs.judging.judge.Goals as goal

pub returns-clause-is : goal.returns-clause-is
returns-clause-is c = IfOk-weaker c.judge_block.result (IsBlockJudgement c.args.job.now c.excluded_by.result c.args.block.now) _
    (λ judgement is. judgement_by c.args.job.now c.args.file.now c.args.block.now c.excluded_by.result judgement (c.can_be_checked.ensures.0 c.if-not-can_be_checked.false)
    c.if-file-job.false (c.has_plan_as_said.ensures.0 c.if-not-has_plan_as_said.false) c.excluded_by.ensures is) c.judge_block.ensures.is

pub returns-clause-sound : goal.returns-clause-sound
returns-clause-sound c = IfOk-weaker c.judge_block.result (IsJudgement c.args.job.now c.args.file.now c.args.block.now) _
    (λ judgement is x same. shown c.args.job.now c.args.file.now c.args.block.now judgement x c.requires.file is same) (returns-clause-is c)
