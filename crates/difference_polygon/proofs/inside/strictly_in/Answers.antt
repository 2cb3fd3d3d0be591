use Rattle.std.proofs.Common.{◌∙◌, ap, sym, ◌&&◌}
use Rattle.seq_model.specs.Contacts.{difference}
use Rattle.outline_laws.specs.Laws.Clear.{clear_of, in_box, all_clear, inner_is_all, free_is_all}
use Rattle.difference_polygon.proofs.inside.strictly_in.Goals as goal

pub returns-clause-inner : goal.returns-clause-inner
returns-clause-inner c =
    let A = c.args.a.now in
    let B = c.args.b.now in
    let F = c.args.f.now in
    let q = c.args.at.now in
    let e = c.is_inside.ensures ∙ ap (λ t. in_box (difference A B F) q && t) (all_clear (clear_of (difference A B F) q) A B F) in
    let law = inner_is_all A B F q c.requires.outlines (record { positive = c.requires.at.positive }) in
    (λ t. law.0 (sym e ∙ t), λ m. e ∙ law.1 m)

pub returns-clause-beyond_none : goal.returns-clause-beyond_none
returns-clause-beyond_none c =
    let A = c.args.a.now in
    let B = c.args.b.now in
    let F = c.args.f.now in
    let q = c.args.at.now in
    let e = c.is_inside.ensures ∙ ap (λ t. in_box (difference A B F) q && t) (all_clear (clear_of (difference A B F) q) A B F) in
    let law = free_is_all A B F q c.requires.outlines (record { positive = c.requires.at.positive }) in
    (λ t. law.0 (sym e ∙ t), λ m. e ∙ law.1 m)
