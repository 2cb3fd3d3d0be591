use Rattle.mesh_slices.specs.Laws.CoveringMeshes.{spots_cover}
use Rattle.mesh_slices.proofs.laws.the_spots_of_a_band_cover_it.Goals as goal

pub returns : goal.returns
returns c = spots_cover
