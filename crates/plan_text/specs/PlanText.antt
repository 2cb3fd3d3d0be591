-- The text of a plan file, as a definition on values.
--
--     seqplan 1
--     state least
--     grid 100
--     extent 46
--     scale 1
--     place 0 28 28
--     place 1 52 28
--
--   state_line s         the line that names the state s
--   has_places s         whether extent, scale and places stand in a file of this state
--   is_block_due s e     whether a tree block is due behind the plan's own lines, at extent e
--   plan_text f          the lines of the file f: its one spelling
--   IsPlace p            the place p is one that a line may state
--   HasNoDivisor plan    no number but 1 divides the scale and all numerators
--   IsPlanFile f         the grammar spells f
--   begins_place bytes   whether the bytes begin with `place `
--   IsPlanOf bytes f k   the bytes before the place k are the text of f, and there its lines end
use Rattle.std.specs.Prelude.{◌≡◌, ℕ, pos, ◌<◌, ◌≤◌, ◌^◌, ◌≤ℤ◌, ◌<ℤ◌, unsigned_abs, List, [], ◌∷◌, ◌++◌, length, take, drop, All, Bool, true, false, nat_lt, if◌then◌else◌, is_some, codes}
use Rattle.std.specs.Int.{◌∣◌}
use Rattle.seq_num.specs.Spelling.{spelling}
use Rattle.text_lines.specs.Reading.{literal_at}
pub use Rattle.text_lines.specs.Lines.{number_line}
use Rattle.seq_model.specs.declared.plan.Place.{Place}
use Rattle.seq_model.specs.declared.plan.Plan.{Plan}
use Rattle.plan_text.specs.declared.file.State.{State}
use Rattle.plan_text.specs.declared.file.State.TheVariants.{Found, Least, OpenBudget, OpenWide, NoPlan, UndecidedBudget, UndecidedWide}
use Rattle.plan_text.specs.declared.file.PlanFile.{PlanFile}
use Rattle.seq_limits.specs.declared.TheConstants.{MOST_GRID, MOST_OBJECTS}

abbrev pub state_line : State → List ℕ
state_line Found = codes "state found\n"
state_line Least = codes "state least\n"
state_line OpenBudget = codes "state open budget\n"
state_line OpenWide = codes "state open wide\n"
state_line NoPlan = codes "state none\n"
state_line UndecidedBudget = codes "state undecided budget\n"
state_line UndecidedWide = codes "state undecided wide\n"

abbrev pub has_places : State → Bool
has_places Found = true
has_places Least = true
has_places OpenBudget = true
has_places OpenWide = true
has_places NoPlan = false
has_places UndecidedBudget = false
has_places UndecidedWide = false

-- none is due for a plan that was only found, nor where the least extent is 1, below which there is none to refute
abbrev pub is_block_due : State → ℕ → Bool
is_block_due Found extent = false
is_block_due Least extent = nat_lt 1 extent
is_block_due OpenBudget extent = true
is_block_due OpenWide extent = true
is_block_due NoPlan extent = true
is_block_due UndecidedBudget extent = true
is_block_due UndecidedWide extent = true

abbrev pub place_text : Place → List ℕ
place_text p = codes "place " ++ (spelling (pos p.object) ++ (codes " " ++ (spelling p.x ++ (codes " " ++ (spelling p.y ++ codes "\n")))))

abbrev pub places_text : List Place → List ℕ
places_text [] = []
places_text (p ∷ ps) = place_text p ++ places_text ps

abbrev pub head_text : State → ℕ → List ℕ
head_text state grid = codes "seqplan 1\n" ++ (state_line state ++ number_line (codes "grid ") (pos grid))

abbrev pub body_text : ℕ → Plan → List ℕ
body_text extent plan = number_line (codes "extent ") (pos extent) ++ (number_line (codes "scale ") plan.scale ++ places_text plan.places)

abbrev pub plan_text : PlanFile → List ℕ
plan_text f = head_text f.state f.grid ++ (if has_places f.state then body_text f.extent f.plan else [])

-- the object number is below 2^32, and the numerators are below 2^90 in size
pub record IsPlace (p : Place) : Type 0 where
  pub object : p.object < 2 ^ 32
  pub x : unsigned_abs p.x < 2 ^ 90
  pub y : unsigned_abs p.y < 2 ^ 90

pub record DividesPlace (d : ℕ) (p : Place) : Type 0 where
  pub x : d ∣ unsigned_abs p.x
  pub y : d ∣ unsigned_abs p.y

pub record HasNoDivisor (plan : Plan) : Type 0 where
  pub one : (d : ℕ) → d ∣ unsigned_abs plan.scale → All (DividesPlace d) plan.places → d ≡ 1

-- what stands behind the grid in a file with places
pub record IsPlaced (f : PlanFile) : Type 0 where
  pub extent_low : 1 ≤ f.extent
  pub extent_high : f.extent ≤ f.grid
  pub scale_low : pos 1 ≤ℤ f.plan.scale
  pub scale_high : f.plan.scale <ℤ pos (2 ^ 62)
  pub few : length f.plan.places ≤ MOST_OBJECTS
  pub places : All IsPlace f.plan.places
  pub reduced : HasNoDivisor f.plan

-- what a file without places holds in their stead
pub record IsBare (f : PlanFile) : Type 0 where
  pub extent : f.extent ≡ 0
  pub scale : f.plan.scale ≡ pos 1
  pub places : f.plan.places ≡ []

pub record IsPlanFile (f : PlanFile) : Type 0 where
  pub grid_low : 1 ≤ f.grid
  pub grid_high : f.grid ≤ MOST_GRID
  pub placed : has_places f.state ≡ true → IsPlaced f
  pub bare : has_places f.state ≡ false → IsBare f

abbrev pub begins_place : List ℕ → Bool
begins_place bytes = is_some (literal_at (codes "place ") bytes)

pub record IsPlanOf (bytes : List ℕ) (f : PlanFile) (k : ℕ) : Type 0 where
  pub spelled : IsPlanFile f
  pub within : k ≤ length bytes
  pub text : take k bytes ≡ plan_text f
  pub ended : has_places f.state ≡ true → begins_place (drop k bytes) ≡ false
  pub alone : is_block_due f.state f.extent ≡ false → k ≡ length bytes
