use Rattle.std.proofs.Common.{◌∙◌, sym}
use Rattle.pair_constraints.specs.Laws.Testing.{met_where_collides}
use Rattle.pair_constraints.specs.SolvedPoints.{values_of}
use Rattle.pair_constraints.proofs.kept.Kept.collides_at.Goals as goal

pub returns : goal.returns
returns c =
    λ e.
    let law = met_where_collides c.args.job.now e c.args.self.now (values_of c.args.at.now) c.requires.kept c.requires.at.one in
    (λ t. law.0 (sym c.meets.ensures ∙ t), λ m. c.meets.ensures ∙ law.1 m)
