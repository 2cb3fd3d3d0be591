use Rattle.std.proofs.Common.{◌∙◌, map, ap, sym, subst}
use Rattle.seq_model.specs.Contacts.{difference}
use Rattle.pair_constraints.specs.Limits.{AreLimits}
use Rattle.pair_constraints.specs.Laws.Covering.{limit_of, limits_are}
use Rattle.pair_constraints.proofs.limits.limits_of.Goals as goal

pub returns-clause-limits : goal.returns-clause-limits
returns-clause-limits c =
    let S = difference c.args.a.now c.args.b.now c.args.f.now in
    subst (AreLimits S) (sym (c.in_ok-limits_along.ensures.value ∙ ap (map (limit_of S)) c.as_slice.ensures.value)) (limits_are S c.in_ok-dirs.dirs.items c.in_ok-dirs.ensures.sides)
