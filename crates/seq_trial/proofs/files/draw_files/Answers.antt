use Rattle.std.proofs.Common.{◌≡◌, suc, ◌+◌, ◌-◌, arith, refl}
use Rattle.seq_trial.proofs.Steps.{one_file}
use Rattle.seq_trial.proofs.files.draw_files.Goals as goal

pub loop-object-preserved : goal.loop-object-preserved
loop-object-preserved c =
    let i = c.loop-object.invariant in
    let left : c.args.objects - c.loop-object.object ≡ suc (c.args.objects - (c.loop-object.object + 1)) = omega (arith, c.loop-object-test.true) in (
      c.draw_file.ensures.small,
      one_file _ _ _ _ _ _ _ _ _ _ left refl c.in_ok-draw_file.ensures.file c.in_ok-draw_file.ensures.state c.in_ok-push.ensures.ok i.1,
    )
