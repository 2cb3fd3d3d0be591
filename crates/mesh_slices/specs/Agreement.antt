-- Scenes that agree, and jobs whose scene agrees with that of the files.
--
--   SameOutline A B              the two lists have the same inner points, and each has the members of the other within it
--   SamePart p q                 the parts reach the same bands with the same outline
--   Agree s t                    the scenes have the same outlines in all bands, the same parts and the same plate
--   HasZonesOf p facets o        object o has the bands of the mesh and their zones, for the printer p
--   IsMadeFrom listed meshes job the job has the listed parts, by outlines of theirs, and the zones of the meshes
use Rattle.std.specs.Prelude.{ℕ, ◌≡◌, ◌<◌, ◌↔◌, List, All}
use Rattle.std.specs.List.{AllZip}
use Rattle.seq_model.specs.declared.job.Job.{Job}
use Rattle.seq_model.specs.declared.job.Object.{Object}
use Rattle.seq_model.specs.declared.mesh.Facet.{Facet}
use Rattle.seq_model.specs.declared.printer.Part.{Part}
use Rattle.seq_model.specs.declared.printer.Printer.{Printer}
use Rattle.seq_model.specs.declared.printer.Spot.{Spot}
use Rattle.seq_model.specs.Bands.{band_count}
use Rattle.seq_model.specs.Outlines.{Inner, Within}
use Rattle.seq_model.specs.Points.{Point, at_spot}
use Rattle.seq_model.specs.Scenes.{Scene}
use Rattle.mesh_slices.specs.Objects.{AreZonesOf, spots_in}

-- the same inner points, and each member of one list within the other
pub record SameOutline (A B : List Spot) : Type 0 where
  pub inner : (q : Point) → Inner A q ↔ Inner B q
  pub within_second : All (λ s. Within B (at_spot s)) A
  pub within_first : All (λ s. Within A (at_spot s)) B

-- parts that reach the same bands with the same outline
pub record SamePart (p q : Part) : Type 0 where
  pub lo : p.lo ≡ q.lo
  pub hi : p.hi ≡ q.hi
  pub outline : SameOutline p.corners q.corners

-- as many objects and bands, the same outline in each band, the same parts in the same order, and the same plate
pub record Agree (s t : Scene) : Type 0 where
  pub objects : s.objects ≡ t.objects
  pub bands : (o : ℕ) → o < s.objects → s.bands o ≡ t.bands o
  pub outlines : (o b : ℕ) → o < s.objects → b < s.bands o → SameOutline (s.spots o b) (t.spots o b)
  pub parts : AllZip SamePart s.parts t.parts
  pub width : s.width ≡ t.width
  pub depth : s.depth ≡ t.depth
  pub grid : s.grid ≡ t.grid

-- the object has as many bands as the mesh, and their zones
pub record HasZonesOf (printer : Printer) (facets : List Facet) (o : Object) : Type 0 where
  pub bands : o.bands ≡ band_count facets printer.step
  pub zones : AreZonesOf (spots_in printer facets) o.bands o.zones

-- the job is made from these meshes, and its parts from the parts as they are listed, each in order
pub record IsMadeFrom (listed : List Part) (meshes : List (List Facet)) (job : Job) : Type 0 where
  pub objects : AllZip (HasZonesOf job.printer) meshes job.objects
  pub parts : AllZip SamePart listed job.printer.parts
