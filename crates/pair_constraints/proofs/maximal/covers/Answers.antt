use Rattle.std.proofs.Common.{◌∙◌, sym}
use Rattle.seq_model.specs.Contacts.{points_of}
use Rattle.pair_constraints.specs.Laws.Covering.{short_is_covered}
use Rattle.pair_constraints.proofs.maximal.covers.Goals as goal

pub returns : goal.returns
returns c =
    let law = short_is_covered (points_of c.args.job.now c.args.contact.now) (points_of c.args.job.now c.args.kept.now.contact) c.args.kept.now.limits c.requires.kept.limits in
    (λ t. law.0 (sym c.limits_cover.ensures ∙ t), λ m. c.limits_cover.ensures ∙ law.1 m)
