use Rattle.std.proofs.Common.{◌∙◌, sym}
use Rattle.outline_laws.specs.Laws.Left.{inner_where}
use Rattle.convex_outline.proofs.inner.is_inner.Goals as goal

pub returns : goal.returns
returns c =
    let law = inner_where c.args.corners.now c.args.at.now c.requires.corners (record { positive = c.requires.at.positive }) in
    (λ t. law.0 (sym c.is_inner_to_corners.ensures ∙ t), λ m. c.is_inner_to_corners.ensures ∙ law.1 m)
