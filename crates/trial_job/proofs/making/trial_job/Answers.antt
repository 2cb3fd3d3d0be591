use Rattle.std.proofs.Common.{◌≡◌, ◌∙◌, List, length, ap, sym, subst, arith}
use Rattle.seq_io.specs.declared.mem_file.MemFile.{MemFile}
use Rattle.seq_trial.specs.Towers.{meshes_from}
use Rattle.seq_trial.specs.declared.files.TrialFiles.{TrialFiles}
use Rattle.trial_job.proofs.Makings.{all_sound, length_from, usable_from}
use Rattle.trial_job.specs.Making.{AreUsableFiles}
use Rattle.trial_job.proofs.making.trial_job.Goals as goal

pub made_objects-requires-clause-files : goal.made_objects-requires-clause-files
made_objects-requires-clause-files c =
    let files : c.as_slice-2.result.now ≡ meshes_from c.args.objects 0 c.args.seed = c.as_slice-2.ensures ∙ ap (λ (t : TrialFiles). t.meshes) c.in_ok-files.ensures in
    subst AreUsableFiles (sym files) (usable_from c.args.objects 0 c.args.seed (omega (arith, c.requires.few)))

pub made_objects-requires-clause-few : goal.made_objects-requires-clause-few
made_objects-requires-clause-few c =
    let files : c.as_slice-2.result.now ≡ meshes_from c.args.objects 0 c.args.seed = c.as_slice-2.ensures ∙ ap (λ (t : TrialFiles). t.meshes) c.in_ok-files.ensures in
    let count : length c.as_slice-2.result.now ≡ c.args.objects = ap (λ (l : List MemFile). length l) files ∙ length_from c.args.objects 0 c.args.seed in
    omega (arith, count, c.requires.few)

pub invariant_of-result : goal.invariant_of-result
invariant_of-result c =
    let files : c.as_slice-2.result.now ≡ meshes_from c.args.objects 0 c.args.seed = c.as_slice-2.ensures ∙ ap (λ (t : TrialFiles). t.meshes) c.in_ok-files.ensures in
    let count : length c.as_slice-2.result.now ≡ c.args.objects = ap (λ (l : List MemFile). length l) files ∙ length_from c.args.objects 0 c.args.seed in
    record {
      sound = all_sound c.in_ok-printer.printer c.as_slice-2.result.now c.in_ok-all.all.objects c.in_ok-all.all.facets (omega (arith, count, c.requires.some)) (omega (arith, count, c.requires.few)) c.in_ok-all.ensures;
    }
