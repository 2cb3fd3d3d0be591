use Rattle.std.proofs.Common.{◌+◌, take, sym, subst, arith}
use Rattle.seq_io.specs.declared.mem_file.MemFile.{MemFile}
use Rattle.trial_job.proofs.Makings.{made_more, usable_at}
use Rattle.trial_job.specs.Making.{AreMadeObjects, IsMadeObject, IsUsableFile}
use Rattle.trial_job.proofs.making.made_objects.Goals as goal

pub made_object-requires-clause-file : goal.made_object-requires-clause-file
made_object-requires-clause-file c = subst IsUsableFile (sym c.file-item.is) (usable_at c.args.files.now c.loop-file.file-index c.file-item.result c.requires.files c.loop-file-test.true)

pub loop-file-preserved : goal.loop-file-preserved
loop-file-preserved c =
    let printer = c.args.printer.now in
    let files = c.args.files.now in
    let k = c.loop-file.file-index in
    let made = c.in_ok-made.made in
    let one = subst (λ (f : MemFile). IsMadeObject printer f made.object made.facets) c.file-item.is c.in_ok-made.ensures.is in
    let more = made_more printer files k c.file-item.result c.loop-file.objects made.object c.loop-file.facets made.facets c.loop-file-test.true c.loop-file.invariant.made one in
    record {
      made = subst (λ objects. AreMadeObjects printer (take (k + 1) files) objects (c.loop-file.facets + made.facets)) (sym c.in_ok-push.ensures.ok) more;
      few = omega (arith, c.loop-file.invariant.few, c.in_ok-made.ensures.few);
    }
