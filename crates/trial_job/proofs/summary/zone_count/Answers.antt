use Rattle.std.proofs.Common.{length, ap, sym, subst, arith}
use Rattle.std.proofs.lemmas.List.Sums.{sum_by_more}
use Rattle.seq_model.specs.Soundness.{IsSoundObject}
use Rattle.seq_model.specs.declared.job.Object.{Object}
use Rattle.trial_job.proofs.ZoneCounts.{few_zones}
use Rattle.trial_job.proofs.summary.zone_count.Goals as goal

pub overflow_add-count : goal.overflow_add-count
overflow_add-count c =
    let sound : IsSoundObject c.object-item.result = subst IsSoundObject (sym c.object-item.is) (c.requires.each c.loop-object.object-index c.object-item.result c.loop-object-test.true) in
    omega (arith, c.loop-object.invariant.few, c.loop-object-test.true, c.requires.few, c.len.ensures, few_zones c.object-item.result sound)

pub loop-object-preserved : goal.loop-object-preserved
loop-object-preserved c =
    let sound : IsSoundObject c.object-item.result = subst IsSoundObject (sym c.object-item.is) (c.requires.each c.loop-object.object-index c.object-item.result c.loop-object-test.true) in
    let zones = λ (o : Object). length o.zones in
    let same = ap zones c.object-item.is in
    let more = sum_by_more zones c.args.objects.now c.loop-object.object-index c.object-item.result c.loop-object-test.true in
    record {
      counted = omega (arith, c.loop-object.invariant.counted, c.len.ensures, same, more);
      few = omega (arith, c.loop-object.invariant.few, c.len.ensures, few_zones c.object-item.result sound);
    }
