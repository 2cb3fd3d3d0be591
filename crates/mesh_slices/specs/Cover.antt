-- Points of a mesh, and outlines that cover a band of it.
--
--   SpacePoint                    the point x / d, y / d, z / d
--   vertices_of f                 the corners of a facet
--   LiesOn f q                    q is a point of the facet: a mean of its corners, with weights of at least 0, not all 0
--   LiesInBand facets step b q    the height of q is that of band b, where the least z of the mesh is 0
--   HasBand facets step q         the mesh has a band with the height of q
--   in_grains g q                 the point of the plane below q, in grains of g µm
--   Covers facets g step b S      each point of a facet that lies in band b is, in grains, within S
--   LiesInZone zones b q          band b lies in one of the zones, and q within its corners
--   ZonesCover printer facets o   each point of a facet in a band of o lies, in grains, within the zone that holds the band
use Rattle.std.specs.Prelude.{ℕ, ◌<◌, ℤ, pos, ◌+ℤ◌, ◌*ℤ◌, ◌≤ℤ◌, ◌≡◌, List, [], ◌∷◌, Contains}
use Rattle.integer_laws.specs.Weights.{AreWeights, weigh, total}
use Rattle.seq_model.specs.declared.job.Object.{Object}
use Rattle.seq_model.specs.declared.job.Zone.{Zone}
use Rattle.seq_model.specs.declared.mesh.Facet.{Facet}
use Rattle.seq_model.specs.declared.mesh.Point3.{Point3}
use Rattle.seq_model.specs.declared.printer.Printer.{Printer}
use Rattle.seq_model.specs.declared.printer.Spot.{Spot}
use Rattle.seq_model.specs.Bands.{least_z, band_count}
use Rattle.seq_model.specs.Outlines.{Within}
use Rattle.seq_model.specs.Points.{Point}
use Rattle.mesh_slices.specs.Objects.{HoldsBand}

-- the point x / d, y / d, z / d of space
pub record SpacePoint : Type 0 where
  pub x : ℤ
  pub y : ℤ
  pub z : ℤ
  pub d : ℤ

abbrev pub vertices_of : Facet → List Point3
vertices_of f = f.a ∷ f.b ∷ f.c ∷ []

-- a mean of the facet's corners, by weights of at least 0, not all 0
pub record LiesOn (f : Facet) (q : SpacePoint) : Type 0 where
  pub positive : pos 1 ≤ℤ q.d
  pub w : List ℤ
  pub weights : AreWeights (pos 0) (vertices_of f) w
  pub some : pos 1 ≤ℤ total (vertices_of f) w
  pub x : q.d *ℤ weigh (λ p. p.x) (vertices_of f) w ≡ q.x *ℤ total (vertices_of f) w
  pub y : q.d *ℤ weigh (λ p. p.y) (vertices_of f) w ≡ q.y *ℤ total (vertices_of f) w
  pub z : q.d *ℤ weigh (λ p. p.z) (vertices_of f) w ≡ q.z *ℤ total (vertices_of f) w

-- heights count from the least z of the mesh, and band b goes from b*step to (b+1)*step
pub record LiesInBand (facets : List Facet) (step : ℤ) (b : ℕ) (q : SpacePoint) : Type 0 where
  pub from : ((least_z facets +ℤ step *ℤ pos b) *ℤ q.d) ≤ℤ q.z
  pub to : q.z ≤ℤ ((least_z facets +ℤ step *ℤ pos b +ℤ step) *ℤ q.d)

-- one of the bands of the mesh has the height of q
pub record HasBand (facets : List Facet) (step : ℤ) (q : SpacePoint) : Type 0 where
  pub band : ℕ
  pub below_count : band < band_count facets step
  pub lies : LiesInBand facets step band q

abbrev pub in_grains : ℤ → SpacePoint → Point
in_grains grain q = record { x = q.x; y = q.y; d = q.d *ℤ grain }

-- no point of the mesh in band b lies outside S
pub record Covers (facets : List Facet) (grain step : ℤ) (b : ℕ) (S : List Spot) : Type 0 where
  pub each : (f : Facet) (q : SpacePoint) → Contains facets f → LiesOn f q → LiesInBand facets step b q → Within S (in_grains grain q)

-- a zone holds the band, and the point lies within its corners
pub record LiesInZone (zones : List Zone) (b : ℕ) (q : Point) : Type 0 where
  pub zone : Zone
  pub member : Contains zones zone
  pub holds : HoldsBand b zone
  pub within : Within zone.corners q

-- no point of the mesh in a band of the object lies outside the zone that holds the band
pub record ZonesCover (printer : Printer) (facets : List Facet) (o : Object) : Type 0 where
  pub each : (b : ℕ) → b < o.bands → (f : Facet) (q : SpacePoint) → Contains facets f → LiesOn f q → LiesInBand facets printer.step b q → LiesInZone o.zones b (in_grains printer.grain q)
