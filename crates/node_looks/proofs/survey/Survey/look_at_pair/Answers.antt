use Rattle.std.proofs.Common.{ℕ, ◌+◌, List, sym, subst}
use Rattle.std.proofs.lemmas.Result.{on_ok_weaker}
use Rattle.node_looks.specs.Candidates.{IsCandidate, IsPairLook, IsSurveyed}
use Rattle.node_looks.proofs.SurveyLaws.{survey_settled, survey_forced_as, survey_split}
use Rattle.node_looks.proofs.survey.Survey.look_at_pair.Goals as goal

pub returns-in-Settled : goal.returns-in-Settled
returns-in-Settled c =
    let site = c.args.site.now in
    survey_settled site c.args.i c.args.j c.args.self.now.best c.args.self.now.forced.items c.requires.before (subst (IsPairLook site c.args.i c.args.j) c.in-Settled.is c.pair_look.ensures)

pub returns-in-Forced : goal.returns-in-Forced
returns-in-Forced c =
    let site = c.args.site.now in
    on_ok_weaker c.force.result
    (λ s. survey_forced_as site c.args.i c.args.j c.in-Forced.first c.in-Forced.second c.args.self.now.best c.force.new.self.best c.args.self.now.forced.items c.force.new.self.forced.items s.0 s.1 c.requires.before
    (subst (IsPairLook site c.args.i c.args.j) c.in-Forced.is c.pair_look.ensures))
    c.force.ensures

pub returns-in-Split : goal.returns-in-Split
returns-in-Split c =
    let site = c.args.site.now in
    let found : IsCandidate site c.in-Split.candidate = subst (IsPairLook site c.args.i c.args.j) c.in-Split.is c.pair_look.ensures in
    subst (λ (f : List (ℕ × ℕ)). IsSurveyed site c.args.i (c.args.j + 1) c.keep.new.self.best f) (sym c.keep.ensures.forced)
    (survey_split site c.args.i c.args.j c.args.i (c.args.j + 1) c.args.self.now.best c.keep.new.self.best c.in-Split.candidate c.args.self.now.forced.items c.keep.ensures.best c.requires.before found)
