use Rattle.mesh_slices.specs.Laws.CoveringMeshes.{zones_cover}
use Rattle.mesh_slices.proofs.laws.zones_cover_their_bands.Goals as goal

pub returns : goal.returns
returns c = zones_cover
