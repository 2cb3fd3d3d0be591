use Rattle.mesh_slices.specs.Laws.Unique.{one_outline}
use Rattle.mesh_slices.proofs.laws.one_outline.Goals as goal

pub returns : goal.returns
returns c = one_outline
