use Rattle.examples_model.proofs.SoundnessLaws.{flat}
use Rattle.examples_model.proofs.soundness.a_zone_without_area.Goals as goal

pub returns : goal.returns
returns c = flat
