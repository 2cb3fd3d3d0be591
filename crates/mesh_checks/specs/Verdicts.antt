-- What the numbers of a mesh say of it.
--
--   IsClosedOutward open_edges six_volume     no edges are open, and the volume is positive
--   IsDue open_edges six_volume dropped       edges are open, or the volume isn't positive, or facets were dropped
--
-- The volume is the signed one of the whole mesh, so this isn't said of each of its shells: a large cube whose facets look outward,
-- beside a small one that is turned inside out, is closed and outward by these numbers.
use Rattle.std.specs.Prelude.{◌≡◌, ◌<◌, ℕ, ℤ, pos, ◌≤ℤ◌, ◌<ℤ◌, ◌⊎◌}

-- each edge stands as often as its reverse, and the signed volume of the whole is positive
pub record IsClosedOutward (open_edges : ℕ) (six_volume : ℤ) : Type 0 where
  pub closed : open_edges ≡ 0
  pub outward : pos 0 <ℤ six_volume

-- there is something to note
abbrev pub IsDue : ℕ → ℤ → ℕ → Type 0
IsDue open_edges six_volume dropped = (0 < open_edges) ⊎ ((six_volume ≤ℤ pos 0) ⊎ (0 < dropped))
