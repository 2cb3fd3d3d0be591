-- Zones while they grow, band by band.
--
--   IsRunOf S n z          zone z has one band or more, all below n and all with its outline, which isn't empty
--   Holds zones b          some zone holds band b
--   AreRunsOf S n zones    the zones rise, hold each band below n with spots, and no two that follow one another without a gap
--                          have the same outline
use Rattle.std.specs.Prelude.{ℕ, ◌≡◌, ◌≢◌, ◌<◌, ◌≤◌, ◌+◌, List, [], All, AllPairs}
use Rattle.integer_laws.specs.Members.{In}
use Rattle.seq_model.specs.declared.job.Zone.{Zone}
use Rattle.seq_model.specs.declared.printer.Spot.{Spot}
use Rattle.mesh_slices.specs.Objects.{IsOutlineOf, HoldsBand}

pub record IsRunOf (S : ℕ → List Spot) (n : ℕ) (z : Zone) : Type 0 where
  pub rises : z.first ≤ z.last
  pub below_count : z.last < n
  pub some : z.corners ≢ []
  pub outline : (b : ℕ) → HoldsBand b z → IsOutlineOf (S b) z.corners

pub record Holds (zones : List Zone) (b : ℕ) : Type 0 where
  pub zone : Zone
  pub member : In zone zones
  pub holds : HoldsBand b zone

pub record AreRunsOf (S : ℕ → List Spot) (n : ℕ) (zones : List Zone) : Type 0 where
  pub rise : AllPairs (λ y z. y.last < z.first) zones
  pub each : All (IsRunOf S n) zones
  pub held : (b : ℕ) → b < n → S b ≢ [] → Holds zones b
  pub longest : AllPairs (λ y z. z.first ≡ y.last + 1 → z.corners ≢ y.corners) zones
