use Rattle.std.proofs.Common.{[], ◌∷◌, ◌++◌, sym, ap, ◌∙◌}
use Rattle.seq_model.specs.Systems.{side_rows}
use Rattle.seq_model.specs.declared.row.Row.{Row}
use Rattle.seq_model.specs.declared.tree.Choice.{Choice}
use Rattle.node_looks.proofs.system.push_side.Goals as goal

pub returns-in_ok-push-in-Side : goal.returns-in_ok-push-in-Side
returns-in_ok-push-in-Side c = λ e.
    let rows = c.args.rows.now.items in
    c.in_ok-push-in-Side.ensures.items ∙ ap (λ (r : Row). rows ++ (r ∷ [])) (c.in_ok-row_of_side-in-Side.ensures e)
    ∙ sym (ap (λ (x : Choice). rows ++ side_rows c.args.job.now e (x ∷ [])) c.in-Side.is)
