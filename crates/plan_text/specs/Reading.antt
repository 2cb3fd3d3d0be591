-- What the reading of a plan answers, line by line: the first refusal in reading order, or the file and where its lines end.
--
--   refusal number what bytes     == why the due line at the front isn't read: no line ends any more, or this one has another form
--   head_at bytes                 == the state and the grid of the first three lines
--   divisor_of d places           == the greatest common divisor of d and all numerators
--   places_from room found bytes  == the places found so far and those at the front, of which there is room for so many
--   body_at state grid bytes      == the file, from the extent on to the last place line
--   file_at bytes                 == the file, up to the end of the plan's own lines
--   ended file rest               == nothing to refuse, where the rest may stand behind the file's lines
--   plan_answer bytes             == the answer: the file and the place where its lines end, or the refusal
use Rattle.std.specs.Prelude.{ℕ, pos, ◌+◌, ◌-◌, zero, suc, unsigned_abs, ◌==◌, List, [], ◌∷◌, ◌++◌, length, ◌||◌, if◌then◌else◌, Result, Ok, Err, codes}
use Rattle.std.specs.Option.{ok_or}
use Rattle.integer_laws.specs.Divisors.{gcd_of}
use Rattle.text_lines.specs.Results.{◌>>=◌}
use Rattle.text_lines.specs.Reading.{literal_at, has_line_end}
use Rattle.text_lines.specs.Lines.{number_line_at}
use Rattle.seq_model.specs.declared.plan.Place.{Place}
use Rattle.seq_model.specs.declared.what.What.{What}
use Rattle.seq_model.specs.declared.what.What.TheVariants as what
use Rattle.plan_text.specs.declared.file.State.{State}
use Rattle.plan_text.specs.declared.file.PlanFile.{PlanFile}
use Rattle.plan_text.specs.declared.reading.PlanRead.{PlanRead}
use Rattle.plan_text.specs.declared.reading.PlanRead.TheVariants as refused
use Rattle.plan_text.specs.PlanText.{has_places, is_block_due, begins_place}
use Rattle.plan_text.specs.Lines.{state_line_at, place_at}
use Rattle.seq_limits.specs.declared.TheConstants.{MOST_GRID, MOST_OBJECTS}

abbrev pub refusal : ℕ → What → List ℕ → PlanRead
refusal number what bytes = if has_line_end bytes then refused.Line number what else refused.Missing

unfoldable pub head_at : List ℕ → Result (State × ℕ × List ℕ) PlanRead
head_at bytes = do
  a ← ok_or (literal_at (codes "seqplan 1\n") bytes) (refusal 1 what.Header bytes)
  state ← ok_or (state_line_at a) (refusal 2 what.State a)
  grid ← ok_or (number_line_at (codes "grid ") MOST_GRID state.1) (refusal 3 what.Grid state.1)
  Ok (state.0, grid.0, grid.1)

abbrev pub divisor_with : ℕ → Place → ℕ
divisor_with d p = gcd_of (gcd_of d (unsigned_abs p.x)) (unsigned_abs p.y)

abbrev pub divisor_of : ℕ → List Place → ℕ
divisor_of d [] = d
divisor_of d (p ∷ ps) = divisor_of (divisor_with d p) ps

-- the sixth line is the first place line
unfoldable pub places_from : ℕ → List Place → List ℕ → Result (List Place × List ℕ) PlanRead
places_from zero found bytes =
    if begins_place bytes then Err (refusal (length found + 6) what.Place bytes) else Ok (found, bytes)
places_from (suc room) found bytes =
    if begins_place bytes
    then (ok_or (place_at bytes) (refusal (length found + 6) what.Place bytes) >>= λ p. places_from room (found ++ p.0 ∷ []) p.1)
    else Ok (found, bytes)

unfoldable pub body_at : State → ℕ → List ℕ → Result (PlanFile × List ℕ) PlanRead
body_at state grid bytes = do
  extent ← ok_or (number_line_at (codes "extent ") grid bytes) (refusal 4 what.Extent bytes)
  scale ← ok_or (number_line_at (codes "scale ") 4_611_686_018_427_387_903 extent.1) (refusal 5 what.Scale extent.1)
  places ← places_from MOST_OBJECTS [] scale.1
  if divisor_of scale.0 places.0 == 1
      then Ok (record { state = state; grid = grid; extent = extent.0; plan = record { scale = pos scale.0; places = places.0 } }, places.1)
      else Err (refused.Line 5 what.Scale)

-- a file without places
abbrev pub bare : State → ℕ → PlanFile
bare state grid = record { state = state; grid = grid; extent = 0; plan = record { scale = pos 1; places = [] } }

unfoldable pub file_at : List ℕ → Result (PlanFile × List ℕ) PlanRead
file_at bytes = do
  head ← head_at bytes
  if has_places head.0 then body_at head.0 head.1 head.2 else Ok (bare head.0 head.1, head.2)

unfoldable pub ended : PlanFile → List ℕ → Result (Unit {0}) PlanRead
ended file rest =
    if is_block_due file.state file.extent || (length rest == 0) then Ok tt
    else (if has_line_end rest then Err refused.Trailing else Err refused.Missing)

unfoldable pub plan_answer : List ℕ → Result (PlanFile × ℕ) PlanRead
plan_answer bytes = do
  file ← file_at bytes
  end ← ended file.0 file.1
  Ok (file.0, length bytes - length file.1)
