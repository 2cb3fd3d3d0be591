-- What the code keeps besides what it reads, so that its loop ends and a mesh keeps its bounds.
--
--   ComesOn bytes at to             to is a place of the bytes behind at
--   FacetFits bytes at to count     so is the end of a facet, and there is room for it behind `count` others
--   PartFits bytes at count part    so is the end of the part, and a facet's corners are near
use Rattle.std.specs.Prelude.{ℕ, ◌<◌, ◌≤◌, List, length, Some, None}
use Rattle.seq_model.specs.Bounds.{IsNearFacet}
use Rattle.stl_text.specs.declared.parts.Part.{Part}
use Rattle.stl_text.specs.declared.parts.Part.TheVariants.{Facet, Ending}
use Rattle.seq_limits.specs.declared.TheConstants.{MOST_FACETS}

pub record ComesOn (bytes : List ℕ) (at to : ℕ) : Type 0 where
  pub forward : at < to
  pub within : to ≤ length bytes

pub record FacetFits (bytes : List ℕ) (at to count : ℕ) : Type 0 where
  pub comes_on : ComesOn bytes at to
  pub room : count < MOST_FACETS

abbrev pub PartFits : List ℕ → ℕ → ℕ → Part → Type 0
PartFits bytes at count (Facet f to) = FacetFits bytes at to count × IsNearFacet f
PartFits bytes at count (Ending (Some to)) = ComesOn bytes at to
PartFits bytes at count (Ending None) = Unit {0}
