use Rattle.examples_model.proofs.SoundnessLaws.{itself}
use Rattle.examples_model.proofs.soundness.a_contact_of_one_object.Goals as goal

pub returns : goal.returns
returns c = itself
