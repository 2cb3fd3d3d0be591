use Rattle.mesh_slices.specs.Laws.CoveringMeshes.{outline_covers}
use Rattle.mesh_slices.proofs.laws.what_holds_the_spots_covers_the_band.Goals as goal

pub returns : goal.returns
returns c = outline_covers
