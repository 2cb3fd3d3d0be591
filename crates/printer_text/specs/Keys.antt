-- The keys of a printer description: each with whether it may be absent, its kind, its range and its lattice, in the order
-- in which they are tested.
--
--   integer low high               a whole number of this range
--   length low high lattice        a length of this range, anywhere or on the grain
--   two_lengths low high           an array of two lengths of this range, both on the grain
--   corners a b low high           an array of a to b such arrays
--   name a b                       a string of a to b ASCII letters, digits, `_` or `-`
--   x_or_y                         the string `x` or `y`
--   tables b                       an array of at most b tables
--
--   um n, grains n                 a bound of so many µm, of so many grains
--   value_of_from, value_of_low    a bound that an earlier key of the same table gives
--
--   top_keys                       the keys of the top table
--   part_keys                      the first keys of a listed part
--   outline_keys bar               its other keys: where `bar` is absent, and where it is there
use Rattle.std.specs.Prelude.{ℕ, ℤ, pos, neg_ℤ, Bool, List, [], ◌∷◌, Option, Some, None}
use Rattle.printer_text.specs.declared.Key.{Key}
use Rattle.printer_text.specs.declared.Key.TheVariants as key
use Rattle.seq_limits.specs.declared.TheConstants.{FARTHEST, LEAST_GRAIN, LEAST_STEP, LONGEST_NAME, MOST_CORNERS, GREATEST_GRAIN, MOST_GRID, MOST_LISTED_PARTS, GREATEST_MARGIN, GREATEST_PLATE, GREATEST_REACH, GREATEST_STEP}

pub data Bound : Type 0 where
  um : ℤ → Bound
  grains : ℤ → Bound
  value_of_from : Bound
  value_of_low : Bound

pub data Lattice : Type 0 where
  anywhere : Lattice
  on_grain : Lattice

pub data Rule : Type 0 where
  integer : ℤ → ℤ → Rule
  length : Bound → Bound → Lattice → Rule
  two_lengths : Bound → Bound → Rule
  corners : ℕ → ℕ → Bound → Bound → Rule
  name : ℕ → ℕ → Rule
  x_or_y : Rule
  tables : ℕ → Rule

pub data Row : Type 0 where
  required : Key → Rule → Row
  optional : Key → Rule → Row

abbrev pub top_keys : List Row
top_keys =
    required key.Format (integer (pos 1) (pos 1))
    ∷ required key.Grain (length (um LEAST_GRAIN) (um GREATEST_GRAIN) anywhere)
    ∷ required key.Plate (two_lengths (grains (pos 1)) (grains GREATEST_PLATE))
    ∷ required key.Step (length (um LEAST_STEP) (um GREATEST_STEP) anywhere)
    ∷ required key.Margin (length (grains (pos 1)) (grains GREATEST_MARGIN) on_grain)
    ∷ required key.Grid (integer (pos 1) (pos MOST_GRID))
    ∷ optional key.Part (tables MOST_LISTED_PARTS)
    ∷ []

abbrev pub part_keys : List Row
part_keys =
    required key.Name (name 1 LONGEST_NAME)
    ∷ required key.From (length (um (pos 0)) (um (pos FARTHEST)) anywhere)
    ∷ optional key.To (length value_of_from (um (pos FARTHEST)) anywhere)
    ∷ optional key.Bar x_or_y
    ∷ []

abbrev pub outline_keys : Option Bool → List Row
outline_keys None =
    required key.Corners (corners 1 MOST_CORNERS (grains (neg_ℤ (pos GREATEST_REACH))) (grains (pos GREATEST_REACH)))
    ∷ []
outline_keys (Some along_x) =
    required key.Low (length (grains (neg_ℤ (pos GREATEST_REACH))) (grains (pos GREATEST_REACH)) on_grain)
    ∷ required key.High (length value_of_low (grains (pos GREATEST_REACH)) on_grain)
    ∷ []
