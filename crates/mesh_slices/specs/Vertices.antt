-- Coordinates of a mesh's vertices.
--
--   xs, ys facets     the x and the y coordinates of all vertices
use Rattle.std.specs.Prelude.{ℤ, List, map}
use Rattle.seq_model.specs.declared.mesh.Facet.{Facet}
use Rattle.seq_model.specs.declared.mesh.Point3.{Point3}
use Rattle.seq_model.specs.Bands.{vertices}

abbrev pub xs : List Facet → List ℤ
xs facets = map (λ (p : Point3). p.x) (vertices facets)

abbrev pub ys : List Facet → List ℤ
ys facets = map (λ (p : Point3). p.y) (vertices facets)
