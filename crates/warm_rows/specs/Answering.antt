-- What is read off the table where a walk has ended.
--
--   Finds t turn warmed          a point, the multipliers of a contradiction, or that the next basis is wide
--   IsReadOff rows t warmed      a walk has ended at the table, and this is what is found there
--   HasSmallDen warmed           where it is a point, its denominator is at least 1 and below 2^62
use Rattle.std.specs.Prelude.{◌≡◌, ◌^◌, List, pos, ◌≤ℤ◌, ◌<ℤ◌, All}
use Rattle.feasible_point.specs.Answering.{mults_of}
use Rattle.feasible_point.specs.Shortening.{Shortened, IsTaking}
use Rattle.feasible_point.specs.Walked.{Ended, nums_upto}
use Rattle.row_dictionary.specs.Seen.{Seen}
use Rattle.row_dictionary.specs.declared.turn.Turn.{Turn}
use Rattle.row_dictionary.specs.declared.turn.Turn.TheVariants as Turns
use Rattle.seq_model.specs.declared.row.Row.{Row}
use Rattle.warm_rows.specs.declared.step.Warmed.{Warmed}
use Rattle.warm_rows.specs.declared.step.Warmed.TheVariants as Warmeds

abbrev pub Finds : Seen → Turn → Warmed → Type 0
Finds t Turns.Point (Warmeds.Point den list) = (den ≡ t.d) × (list.items ≡ nums_upto t.vars t.basic t.lines)
Finds t Turns.Point (Warmeds.Contradiction list) = ⊥
Finds t Turns.Point Warmeds.Cold = ⊥
Finds t (Turns.Contradiction out) (Warmeds.Point den list) = ⊥
Finds t (Turns.Contradiction out) (Warmeds.Contradiction list) = All IsTaking (mults_of t out) × Shortened (mults_of t out) list.items
Finds t (Turns.Contradiction out) Warmeds.Cold = ⊥
Finds t (Turns.Wide out into row) (Warmeds.Point den list) = ⊥
Finds t (Turns.Wide out into row) (Warmeds.Contradiction list) = ⊥
Finds t (Turns.Wide out into row) Warmeds.Cold = Unit {0}
Finds t (Turns.Next out into) warmed = ⊥

pub record IsReadOff (rows : List Row) (t : Seen) (warmed : Warmed) : Type 0 where
  pub turn : Turn
  pub ended : Ended rows t turn
  pub finds : Finds t turn warmed

abbrev pub HasSmallDen : Warmed → Type 0
HasSmallDen (Warmeds.Point den list) = (pos 1 ≤ℤ den) × (den <ℤ pos (2 ^ 62))
HasSmallDen (Warmeds.Contradiction list) = Unit {0}
HasSmallDen Warmeds.Cold = Unit {0}
