use Rattle.std.proofs.Common.{length}
use Rattle.node_looks.proofs.SurveyLaws.{survey_candidate}
use Rattle.node_looks.proofs.ZeroLaws.{zero_candidate}
use Rattle.node_looks.proofs.looking.look_in_order.Goals as goal

pub returns-in-Some-clause-zero : goal.returns-in-Some-clause-zero
returns-in-Some-clause-zero c = λ z.
    let site = c.args.site.now in
    absurd (zero_candidate site _ z
    (survey_candidate site (length site.job.now.objects) 0 c.in_ok-survey.survey.best _ c.in_ok-survey.survey.forced.items c.in_ok-survey.ensures c.in-Some.is))
