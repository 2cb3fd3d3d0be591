-- Objects: the bands of a mesh, joined into zones.
--
--   spots_in printer facets b      the spots of a mesh in band b
--   IsOutlineOf S C                C are the corners of the convex outline of the spots S
--   HoldsBand b z                  band b is one of the bands of zone z
--   LiesInOneZone S zones b        band b, of the spots S, lies in exactly one zone, and S has that zone's outline
--   AreZonesOf S bands zones       the zones are the longest runs of bands with equal outlines that aren't empty; that they rise
--                                  and end below the number of bands is in the object's soundness
--   IsObjectOf name facets p o     o is the object of a mesh of this name, for the printer p
--   CanBeSliced facets step        the mesh has a facet, and at most 200 bands
--   IsTooTall facets step bands    it has a facet, and this many bands, more than 200
--   IsRefusedAs facets step e      e says why it isn't sliced
use Rattle.std.specs.Prelude.{ℕ, ℤ, ◌≡◌, ◌≢◌, ◌<◌, ◌≤◌, ◌+◌, ◌↔◌, List, [], All, AllPairs, Contains}
use Rattle.seq_model.specs.declared.job.Object.{Object}
use Rattle.seq_model.specs.declared.job.Zone.{Zone}
use Rattle.seq_model.specs.declared.mesh.Facet.{Facet}
use Rattle.seq_model.specs.declared.printer.Printer.{Printer}
use Rattle.seq_model.specs.declared.printer.Spot.{Spot}
use Rattle.seq_model.specs.Bands.{corner_points, height_of, band_count}
use Rattle.seq_model.specs.Outlines.{spots, Inner, Within}
use Rattle.seq_model.specs.Points.{Point, at_spot}
use Rattle.seq_model.specs.Scenes.{Spans}
use Rattle.seq_model.specs.Soundness.{IsSoundObject}
use Rattle.outline_laws.specs.Corners.{AreCorners}
use Rattle.mesh_slices.specs.declared.slice.Slice.{Slice}
use Rattle.mesh_slices.specs.declared.slice.Slice.TheVariants.{Flat, TooTall, NoMemory}
use Rattle.seq_limits.specs.declared.TheConstants.{MOST_BANDS}

-- the spots of a mesh in band b
abbrev pub spots_in : Printer → List Facet → ℕ → List Spot
spots_in printer facets b = spots printer.grain printer.margin (corner_points facets printer.step b)

-- the corners of a convex outline, counterclockwise from the least: members of S, with every spot within them and the same
-- inner points
pub record IsOutlineOf (S C : List Spot) : Type 0 where
  pub corners : AreCorners C
  pub members : All (Contains S) C
  pub within : All (λ s. Within C (at_spot s)) S
  pub inner : (q : Point) → Inner C q ↔ Inner S q

pub record HoldsBand (b : ℕ) (z : Zone) : Type 0 where
  pub from : z.first ≤ b
  pub to : b ≤ z.last

-- band b, whose spots are S, lies in exactly one of the zones, and its corners are the outline of S
pub record LiesInOneZone (S : List Spot) (zones : List Zone) (b : ℕ) : Type 0 where
  pub zone : Zone
  pub member : Contains zones zone
  pub holds : HoldsBand b zone
  pub outline : IsOutlineOf S zone.corners
  pub only : All (λ z. HoldsBand b z → z ≡ zone) zones

-- S gives the spots of each band. A band with spots lies in exactly one zone, a band without lies in none, and of zones that
-- follow one another without a gap no two have the same outline. It doesn't say that zones rise, nor that they end below the number
-- of bands: with these words this is `zones` of the object's soundness
pub record AreZonesOf (S : ℕ → List Spot) (bands : ℕ) (zones : List Zone) : Type 0 where
  pub with_spots : (b : ℕ) → b < bands → S b ≢ [] → LiesInOneZone (S b) zones b
  pub without_spots : (b : ℕ) → b < bands → S b ≡ [] → All (λ z. HoldsBand b z → ⊥) zones
  pub longest : AllPairs (λ y z. z.first ≡ y.last + 1 → z.corners ≢ y.corners) zones

-- the object of a mesh: its name, its height in µm, its bands and their zones, and the extremes of its spots over all bands.
-- It is sound: its outlines have area, its coordinates their bounds, and its zones rise and end below the number of bands
pub record IsObjectOf (name : List ℕ) (facets : List Facet) (printer : Printer) (o : Object) : Type 0 where
  pub named : o.name ≡ name
  pub height : o.height ≡ height_of facets
  pub bands : o.bands ≡ band_count facets printer.step
  pub zones : AreZonesOf (spots_in printer facets) o.bands o.zones
  pub spans : Spans o.bands (spots_in printer facets) o.low o.high
  pub sound : IsSoundObject o

-- the mesh has a facet, and at most 200 bands
pub record CanBeSliced (facets : List Facet) (step : ℤ) : Type 0 where
  pub some : facets ≢ []
  pub few : band_count facets step ≤ MOST_BANDS

pub record IsTooTall (facets : List Facet) (step : ℤ) (bands : ℕ) : Type 0 where
  pub some : facets ≢ []
  pub count : bands ≡ band_count facets step
  pub many : MOST_BANDS < bands

-- why a mesh isn't sliced: it has no facet; or more than 200 bands, and then their number; or it could be, but for want of memory
abbrev pub IsRefusedAs : List Facet → ℤ → Slice → Type 0
IsRefusedAs facets step Flat = facets ≡ []
IsRefusedAs facets step (TooTall bands) = IsTooTall facets step bands
IsRefusedAs facets step NoMemory = CanBeSliced facets step
