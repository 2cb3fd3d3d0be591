use Rattle.std.proofs.Common.{◌*◌, ◌≤◌, take}
use Rattle.trial_job.specs.Making.{AreMadeObjects}
use Rattle.trial_job.proofs.making.made_objects.Given as goal

abbrev pub invariant-loop-file : goal.invariant-loop-file
invariant-loop-file l = record {
  made : AreMadeObjects l.printer (take l.file-index l.files) l.objects l.facets;
  few : l.facets ≤ 200_000 * l.file-index;
}
