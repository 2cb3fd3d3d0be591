use Rattle.std.proofs.Common.{◌≡◌, ◌*◌, ◌≤◌, take}
use Rattle.trial_job.specs.Trials.{zone_count}
use Rattle.trial_job.proofs.summary.zone_count.Given as goal

abbrev pub invariant-loop-object : goal.invariant-loop-object
invariant-loop-object l = record {
  counted : l.count ≡ zone_count (take l.object-index l.objects);
  few : l.count ≤ 200 * l.object-index;
}
