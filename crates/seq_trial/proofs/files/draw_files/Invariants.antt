use Rattle.std.proofs.Common.{◌≡◌, ◌-◌, ◌<◌, ◌^◌, ◌++◌}
use Rattle.seq_trial.specs.Towers.{meshes_from}
use Rattle.seq_trial.proofs.files.draw_files.Given as goal

abbrev pub invariant-loop-object : goal.invariant-loop-object
invariant-loop-object l =
    (l.draws.state < 2 ^ 32)
    × (l.files ++ meshes_from (l.objects - l.object) l.object l.draws.state ≡ meshes_from l.objects 0 l.seed)
