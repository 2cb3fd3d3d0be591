-- What is known of sizes and of listed parts that were read: their ranges.
--
--   IsGrain g            a grain of 10 to 10,000 µm
--   IsFewGrains n        at most 100,000 grains, either way
--   AreSizes s           the sizes are those of a printer
--   IsOutline corners    1 to 32 corners, at most 100,000 grains in size
--   IsListedPart p       a name, an outline, and bands that rise
use Rattle.std.specs.Prelude.{◌≡◌, ◌≤◌, ℕ, ℤ, pos, neg_ℤ, ◌≤ℤ◌, List, length, All, Some}
use Rattle.seq_model.specs.Bounds.{IsPrinter, IsNearSpot}
use Rattle.seq_model.specs.Parts.{IsPartName}
use Rattle.seq_model.specs.declared.printer.Part.{Part}
use Rattle.seq_model.specs.declared.printer.Spot.{Spot}
use Rattle.printer_text.specs.declared.top.Sizes.{Sizes}
use Rattle.seq_limits.specs.declared.TheConstants.{GREATEST_GRAIN, GREATEST_REACH, LEAST_GRAIN, MOST_CORNERS}

pub record IsGrain (grain : ℤ) : Type 0 where
  pub low : LEAST_GRAIN ≤ℤ grain
  pub high : grain ≤ℤ GREATEST_GRAIN

pub record IsFewGrains (n : ℤ) : Type 0 where
  pub low : neg_ℤ (pos GREATEST_REACH) ≤ℤ n
  pub high : n ≤ℤ pos GREATEST_REACH

abbrev pub AreSizes : Sizes → Type 0
AreSizes s = IsPrinter s.grain s.width s.depth s.step s.margin s.grid

pub record IsOutline (corners : List Spot) : Type 0 where
  pub some : 1 ≤ length corners
  pub few : length corners ≤ MOST_CORNERS
  pub near : All (IsNearSpot GREATEST_REACH) corners

pub record IsListedPart (part : Part) : Type 0 where
  pub name : IsPartName part.name
  pub outline : IsOutline part.corners
  pub low : part.lo ≤ 1_000_000
  pub high : (hi : ℕ) → part.hi ≡ Some hi → (part.lo ≤ hi) × (hi ≤ 1_000_000)
