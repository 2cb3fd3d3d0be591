use Rattle.trial_laws.specs.Laws.Descriptions.{described}
use Rattle.trial_laws.proofs.the_made_printer_is_described.Goals as goal

pub returns : goal.returns
returns c = described
