use Rattle.warm_rows.proofs.Steps.{one_given}
use Rattle.warm_rows.proofs.the_steps_determine_the_table.Goals as goal

pub returns : goal.returns
returns c = one_given
