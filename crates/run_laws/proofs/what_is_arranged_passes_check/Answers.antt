use Rattle.run_laws.proofs.Checked.{checked}
use Rattle.run_laws.proofs.what_is_arranged_passes_check.Goals as goal

pub returns : goal.returns
returns c = checked
