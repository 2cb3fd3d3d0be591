use Rattle.std.proofs.Common.{◌∙◌, sym}
use Rattle.seq_model.specs.Contacts.{difference}
use Rattle.pair_constraints.specs.Laws.Covering.{short_is_covered}
use Rattle.pair_constraints.proofs.limits.cover.Goals as goal

pub returns : goal.returns
returns c =
    λ covering are.
    let law = short_is_covered (difference c.args.a.now c.args.b.now c.args.f.now) covering c.args.limits.now are in
    (λ t. law.0 (sym c.all_reach_no_farther.ensures ∙ t), λ m. c.all_reach_no_farther.ensures ∙ law.1 m)
