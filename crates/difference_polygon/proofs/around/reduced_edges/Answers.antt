use Rattle.std.proofs.Common.{◌≡◌, ◌∙◌, ◌++◌, List, [], ap, ap₂, subst, true, false}
use Rattle.std.proofs.lemmas.List.{append_assoc}
use Rattle.std.proofs.lemmas.Result.{IfOk-weaker}
use Rattle.outline_laws.specs.Directions.{AllReduced}
use Rattle.outline_laws.specs.Edges.{all_edges, edges_if}
use Rattle.outline_laws.specs.Laws.Loops.{edges_plain, edges_turned}
use Rattle.seq_model.specs.declared.printer.Spot.{Spot}
use Rattle.difference_polygon.proofs.around.reduced_edges.Goals as goal

all_pushed : (A B F : List Spot) → (([] ++ edges_if false A) ++ edges_if true B) ++ edges_if true F ≡ all_edges A B F
all_pushed A B F = append_assoc (edges_if false A) (edges_if true B) (edges_if true F) ∙ ap₂ (λ ds es. ds ++ es) (edges_plain A) (ap₂ (λ ds es. ds ++ es) (edges_turned B) (edges_turned F))

pub returns-clause-reduced : goal.returns-clause-reduced
returns-clause-reduced c =
    let A = c.args.a.now in
    let B = c.args.b.now in
    let F = c.args.f.now in
    let pushed : c.push_edges-3.new.edges.items ≡ all_edges A B F =
    c.in_ok-push_edges-3.ensures.pushed
    ∙ ap (λ ds. ds ++ edges_if true F) (c.in_ok-push_edges-2.ensures.pushed ∙ ap (λ ds. ds ++ edges_if true B) (c.in_ok-push_edges.ensures.pushed ∙ ap (λ ds. ds ++ edges_if false A) c.in_ok-edges.ensures.items))
    ∙ all_pushed A B F in
    IfOk-weaker c.reduced_by_angle.result _ _ (λ dirs all. subst (λ ds. AllReduced ds dirs.items) pushed all) c.reduced_by_angle.ensures.reduced
