use Rattle.mesh_slices.specs.Laws.Folding.{stands_itself}
use Rattle.mesh_slices.proofs.outline.fold_if_full.Goals as goal

pub returns-then-len-max-clause-stand : goal.returns-then-len-max-clause-stand
returns-then-len-max-clause-stand c = stands_itself c.args.found.now.items
