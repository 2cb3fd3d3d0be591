use Rattle.std.proofs.Common.{◌≤◌, ◌+◌, length, arith}
use Rattle.node_looks.proofs.SurveyLaws.{survey_past, no_lower, next_object}
use Rattle.node_looks.proofs.survey.Survey.look_at_object.Goals as goal

pub loop-j-init : goal.loop-j-init
loop-j-init c =
    let i = c.args.i in
    survey_past c.args.site.now i 0 i (i + 1) c.args.self.now.best c.args.self.now.forced.items c.requires.before (λ a b l m before. no_lower i a b l before)

pub returns : goal.returns
returns c =
    let i = c.args.i in
    let n = length c.args.site.now.job.now.objects in
    let all : n ≤ c.loop-j.j = omega arith in
    survey_past c.args.site.now i c.loop-j.j (i + 1) 0 c.loop-j.self.best c.loop-j.self.forced.items c.loop-j.invariant (λ a b l m before. next_object i c.loop-j.j n a b all m before)
