use Rattle.std.proofs.Common.{rules, ◌≡◌, ◌∷◌, [], subst, sym}
use Rattle.examples_model.specs.Cubes.{cube, object_of}
use Rattle.examples_model.specs.Jobs.{sound_cube, two_sound}
use Rattle.seq_model.specs.Soundness.{AreSoundObjects}
use Rattle.examples_model.proofs.jobs.two_cubes.Goals as goal

pub invariant_of-result : goal.invariant_of-result
invariant_of-result c =
    let e : c.push-2.new.self ≡ (object_of cube ∷ object_of cube ∷ []) = search rules in
    record { sound = subst AreSoundObjects (sym e) (two_sound (object_of cube) sound_cube) }
