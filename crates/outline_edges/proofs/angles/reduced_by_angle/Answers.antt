use Rattle.std.proofs.Common.{◌∙◌, sym, ap, subst, All, None}
use Rattle.std.proofs.lemmas.Result.{IfOk-weaker}
use Rattle.std.proofs.lemmas.List.Sorted.{All-permutation}
use Rattle.outline_laws.specs.Directions.{AllReduced, IsShort}
use Rattle.outline_laws.specs.Laws.InOrder.{walk, walk_is}
use Rattle.outline_edges.proofs.angles.reduced_by_angle.Goals as goal

pub each_once-requires : goal.each_once-requires
each_once-requires c =
    subst (All IsShort) (sym c.as_slice.ensures.value) (All-permutation IsShort c.args.dirs.items c.by_angle-sorted.result.items c.by_angle-sorted.ensures.permutation c.requires)

pub returns-clause-reduced : goal.returns-clause-reduced
returns-clause-reduced c =
    IfOk-weaker c.each_once.result _ _
    (λ v e. subst (AllReduced c.args.dirs.items) (sym (e ∙ ap (walk None) c.as_slice.ensures.value)) (walk_is c.args.dirs.items c.by_angle-sorted.result.items c.by_angle-sorted.ensures.permutation c.by_angle-sorted.ensures.sorted))
    c.each_once.ensures.walk
