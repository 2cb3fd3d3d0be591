-- Convex outlines: what their corners are. `turn`, `IsBefore` and `AreCorners` are those of `seq_model`, and `StartsLeast`, `LeftAbout`
-- and `TurnsLeft`, by recursion on the list, those of `model_laws`.
--
--   turn_at a b q       the turn from a to b at a point q, times its denominator
--   NoThreeOnALine C    of three different members none lies on the line of the other two
--   IsBetween a b s     s is not before a and not after b
--   AreEnds S C         C are the first and the last member of S in that order, one if they are the same, none of no member
--   HasArea S           three members turn left: they don't all lie on one line
--   IsNarrow s            the coordinates of s are below 2^21 in size
use Rattle.std.specs.Prelude.{◌≡◌, ◌<◌, ◌^◌, List, [], ◌∷◌, ℤ, pos, ◌-ℤ◌, ◌*ℤ◌, ◌<ℤ◌, ◌⊎◌, unsigned_abs, All, Contains}
pub use Rattle.seq_model.specs.Corners.{turn, IsBefore, AreCorners}
pub use Rattle.model_laws.specs.Turning.{StartsLeast, LeftAbout, TurnsLeft}
use Rattle.seq_model.specs.declared.printer.Spot.{Spot}
use Rattle.seq_model.specs.Points.{Point}

-- the turn at a point, times its denominator
abbrev pub turn_at : Spot → Spot → Point → ℤ
turn_at a b q = (b.x -ℤ a.x) *ℤ (q.y -ℤ q.d *ℤ a.y) -ℤ (b.y -ℤ a.y) *ℤ (q.x -ℤ q.d *ℤ a.x)

-- of three different members none lies on the line of the other two
abbrev pub NoThreeOnALine : List Spot → Type 0
NoThreeOnALine C =
    (a b c : Spot) → Contains C a → Contains C b → Contains C c → (a ≡ b → ⊥) → (b ≡ c → ⊥) → (a ≡ c → ⊥) → turn a b c ≡ pos 0 → ⊥

-- neither before a nor after b
pub record IsBetween (a b s : Spot) : Type 0 where
  pub from : (s ≡ a) ⊎ IsBefore a s
  pub to : (s ≡ b) ⊎ IsBefore s b

-- the ends of a list: none of no member, one of one member, however often, and else the first and the last in order
abbrev pub AreEnds : List Spot → List Spot → Type 0
AreEnds S [] = S ≡ []
AreEnds S (a ∷ []) = Contains S a × All (λ s. s ≡ a) S
AreEnds S (a ∷ b ∷ []) = IsBefore a b × Contains S a × Contains S b × All (IsBetween a b) S
AreEnds S (a ∷ b ∷ c ∷ C) = ⊥

-- not all on one line
pub record HasArea (S : List Spot) : Type 0 where
  pub i : Spot
  pub j : Spot
  pub k : Spot
  pub i_in : Contains S i
  pub j_in : Contains S j
  pub k_in : Contains S k
  pub turns : pos 0 <ℤ turn i j k

abbrev pub IsNarrow : Spot → Type 0
IsNarrow s = (unsigned_abs s.x < 2 ^ 21) × (unsigned_abs s.y < 2 ^ 21)
