use Rattle.std.proofs.Common.{◌≡◌, ◌∙◌, ◌++◌, ap, subst, false}
use Rattle.std.proofs.lemmas.Result.{IfOk-weaker}
use Rattle.outline_laws.specs.Directions.{AllReduced}
use Rattle.outline_laws.specs.Edges.{edges_if, edges_of}
use Rattle.outline_laws.specs.Laws.Loops.{edges_plain}
use Rattle.convex_outline.proofs.outward.reduced_edges.Goals as goal

pub returns-clause-reduced : goal.returns-clause-reduced
returns-clause-reduced c =
    let corners = c.args.corners.now in
    let pushed : c.push_edges.new.edges.items ≡ edges_of corners =
    c.in_ok-push_edges.ensures.pushed ∙ ap (λ ds. ds ++ edges_if false corners) c.in_ok-edges.ensures.items ∙ edges_plain corners in
    IfOk-weaker c.reduced_by_angle.result _ _ (λ dirs all. subst (λ ds. AllReduced ds dirs.items) pushed all) c.reduced_by_angle.ensures.reduced
