use Rattle.std.proofs.Common.{◌≤◌, List, arith, length, refl, subst, sym}
use Rattle.seq_model.specs.declared.job.Zone.{Zone}
use Rattle.pair_constraints.specs.Laws.Pairs.{few_of, zones_are}
use Rattle.pair_constraints.proofs.settling.zone_count.Goals as goal

pub overflow_cast-result : goal.overflow_cast-result
overflow_cast-result c =
    let same = zones_are c.args.job.now c.args.i c.as_slice.result.now c.index-as_slice-i.result _ c.requires c.as_slice.ensures refl in
    let few = subst (λ (zs : List Zone). length zs ≤ 200) (sym same) (few_of c.args.job.now c.args.i c.requires) in
    omega (arith, few)
