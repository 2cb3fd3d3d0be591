use Rattle.std.proofs.Common.{sym, ◌∙◌}
use Rattle.node_looks.proofs.HitLaws.{hit_candidate}
use Rattle.node_looks.proofs.OrderLaws.{not_on, on_path}
use Rattle.node_looks.proofs.survey.hit_on_path.Goals as goal

pub returns-then-not-is_before : goal.returns-then-not-is_before
returns-then-not-is_before c = λ on hits. not_on c.args.site.now.path.now c.args.i c.args.j (sym c.is_before.ensures ∙ c.if-not-is_before.true) on

pub returns : goal.returns
returns c =
    hit_candidate c.args.site.now c.args.i c.args.j c.hit_of.result
    (on_path c.args.site.now.path.now c.args.i c.args.j (sym c.is_before.ensures ∙ c.if-not-is_before.false)) c.hit_of.ensures
