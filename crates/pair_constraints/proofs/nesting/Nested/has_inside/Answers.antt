use Rattle.std.proofs.Common.{◌∙◌, sym}
use Rattle.pair_constraints.specs.Laws.Nesting.{covers_inside}
use Rattle.pair_constraints.proofs.nesting.Nested.has_inside.Goals as goal

pub returns : goal.returns
returns c =
    λ t.
    covers_inside c.args.job.now c.args.self.now c.args.inner.now c.args.outer.now c.requires.nested c.requires.inner c.requires.outer c.requires.earlier c.requires.later
    (sym c.are_marked.ensures ∙ t)
