-- What stands on the line at the front of some bytes, and the bytes after that line; None where it is no line of the form.
--
--   first_named states bytes            == the first of some states whose line it is
--   state_line_at bytes                 == the state whose line it is
--   object_at, numerator_at bytes       == a number of a place line, in its range
--   place_at bytes                      == the place of a place line
use Rattle.std.specs.Prelude.{ℕ, ℤ, pos, int_lt, unsigned_abs, nat_lt, ◌^◌, List, [], ◌∷◌, ◌||◌, if◌then◌else◌, Option, Some, None, codes}
use Rattle.text_lines.specs.Reading.{◌>>=◌, literal_at, whole_at}
use Rattle.seq_model.specs.declared.plan.Place.{Place}
use Rattle.plan_text.specs.declared.file.State.{State}
use Rattle.plan_text.specs.declared.file.State.TheVariants.{Found, Least, OpenBudget, OpenWide, NoPlan, UndecidedBudget, UndecidedWide}
use Rattle.plan_text.specs.PlanText.{state_line}

-- the state, where the rest behind its line is there
abbrev pub or_later : State → Option (List ℕ) → Option (State × List ℕ) → Option (State × List ℕ)
or_later s (Some rest) later = Some (s, rest)
or_later s None later = later

abbrev pub first_named : List State → List ℕ → Option (State × List ℕ)
first_named [] bytes = None
first_named (s ∷ ss) bytes = or_later s (literal_at (state_line s) bytes) (first_named ss bytes)

unfoldable pub state_line_at : List ℕ → Option (State × List ℕ)
state_line_at bytes = first_named (Found ∷ Least ∷ OpenBudget ∷ OpenWide ∷ NoPlan ∷ UndecidedBudget ∷ UndecidedWide ∷ []) bytes

-- 0 to 2^32 - 1
unfoldable pub object_at : List ℕ → Option (ℕ × List ℕ)
object_at bytes = do
  n ← whole_at bytes
  if int_lt n.0 (pos 0) || int_lt (pos 4_294_967_295) n.0 then None else Some (unsigned_abs n.0, n.1)

-- below 2^90 in size
unfoldable pub numerator_at : List ℕ → Option (ℤ × List ℕ)
numerator_at bytes = do
  n ← whole_at bytes
  if nat_lt (unsigned_abs n.0) (2 ^ 90) then Some n else None

unfoldable pub place_at : List ℕ → Option (Place × List ℕ)
place_at bytes = do
  a ← literal_at (codes "place ") bytes
  object ← object_at a
  b ← literal_at (codes " ") object.1
  x ← numerator_at b
  c ← literal_at (codes " ") x.1
  y ← numerator_at c
  rest ← literal_at (codes "\n") y.1
  Some (record { object = object.0; x = x.0; y = y.0 }, rest)
