use Rattle.std.proofs.Common.{◌∙◌, sym}
use Rattle.pair_constraints.specs.Laws.Covering.{under_is_inner}
use Rattle.pair_constraints.proofs.limits.is_inside.Goals as goal

pub returns : goal.returns
returns c =
    λ spots area are.
    let law = under_is_inner spots c.args.limits.now c.args.at.now area (record { positive = c.requires.at.positive }) are in
    (λ t. law.0 (sym c.all_below.ensures ∙ t), λ m. c.all_below.ensures ∙ law.1 m)
