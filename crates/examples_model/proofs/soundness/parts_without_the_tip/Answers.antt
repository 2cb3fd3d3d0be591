use Rattle.examples_model.proofs.SoundnessLaws.{no_tip}
use Rattle.examples_model.proofs.soundness.parts_without_the_tip.Goals as goal

pub returns : goal.returns
returns c = no_tip
