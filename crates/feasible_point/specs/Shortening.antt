-- Multipliers divided by what divides them all.
--
--   IsFactor mults g             g has just the divisors that all multipliers have
--   shorter g m                  a multiplier, divided
--   Shortened mults list         all of them, divided by the greatest number that divides them
--   IsTaking m                   a multiplier is at least 1 and below 2^62
--   IsShortest solved            where it is a contradiction, no number above 1 divides all of its multipliers, and each is below 2^62
use Rattle.std.specs.Prelude.{◌≡◌, ◌↔◌, ℕ, ◌^◌, List, ℤ, pos, ◌≤ℤ◌, ◌<ℤ◌, unsigned_abs, int_div, All, map}
use Rattle.std.specs.Int.{◌∣◌}
use Rattle.row_pivots.specs.Ends.{Small}
use Rattle.feasible_point.specs.declared.Solved.{Solved}
use Rattle.feasible_point.specs.declared.Solved.TheVariants as Solveds
use Rattle.seq_model.specs.declared.tree.Mult.{Mult}

abbrev pub Divides : ℕ → List Mult → Type 0
Divides k mults = All (λ (m : Mult). k ∣ unsigned_abs m.times) mults

abbrev pub IsFactor : List Mult → ℤ → Type 0
IsFactor mults g = (k : ℕ) → (k ∣ unsigned_abs g) ↔ Divides k mults

abbrev pub shorter : ℤ → Mult → Mult
shorter g m = record { row = m.row; times = int_div m.times g }

pub record Shortened (mults list : List Mult) : Type 0 where
  pub factor : ℤ
  pub is : IsFactor mults factor
  pub positive : pos 1 ≤ℤ factor
  pub list_is : list ≡ map (shorter factor) mults

abbrev pub IsTaking : Mult → Type 0
IsTaking m = (pos 1 ≤ℤ m.times) × Small m.times

abbrev pub AreShortest : List Mult → Type 0
AreShortest mults = ((k : ℕ) → Divides k mults → k ≡ 1) × All (λ (m : Mult). m.times <ℤ pos (2 ^ 62)) mults

abbrev pub IsShortest : Solved → Type 0
IsShortest (Solveds.Point den list) = Unit {0}
IsShortest (Solveds.Contradiction list) = AreShortest list.items
IsShortest (Solveds.Wide basis row) = Unit {0}
