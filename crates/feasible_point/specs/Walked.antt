-- Walks by the least-index rule from any basis, and what is read where one ends.
--
--   Reached vars rows start basis   bases of which each follows from the one before by a pivot that isn't wide lead from the start to the basis
--   ReachedAt rows start t          they lead to the basis of the table
--   Walks vars rows start last      the walk from the start ends at the last basis
--   WalksFrom rows old new          the walk from the basis of one table ends at that of the other
--   NothingToLeave t                no constant of a basic variable is negative
--   GoesOn turn                     the turn went on to the next basis
--   Ended rows t turn               the turn didn't, and tells what stands in its way
--   nums_upto n basic lines         the constants of the variables below n, 0 where one is free
use Rattle.std.specs.Prelude.{◌≡◌, ℕ, zero, suc, List, [], ◌∷◌, ◌++◌, ℤ, slice_get, Some, None}
use Rattle.row_pivots.specs.Tables.{line_or}
use Rattle.row_dictionary.specs.Scans.{least_leaving}
use Rattle.row_dictionary.specs.Seen.{Seen, basis_of}
use Rattle.row_dictionary.specs.Turning.{Turned}
use Rattle.row_dictionary.specs.declared.turn.Turn.{Turn}
use Rattle.row_dictionary.specs.declared.turn.Turn.TheVariants as Turns
use Rattle.seq_model.specs.Walks.{constant, Follow, Walk}
use Rattle.seq_model.specs.declared.row.Row.{Row}

abbrev pub Reached : ℕ → List Row → List ℕ → List ℕ → Type 0
Reached vars rows start basis = (before : List (List ℕ)) × (slice_get (before ++ basis ∷ []) 0 ≡ Some start) × Follow vars rows (before ++ basis ∷ [])

abbrev pub ReachedAt : List Row → List ℕ → Seen → Type 0
ReachedAt rows start t = Reached t.vars rows start (basis_of rows t)

pub record Walks (vars : ℕ) (rows : List Row) (start last : List ℕ) : Type 0 where
  pub before : List (List ℕ)
  pub walk : Walk vars rows start (before ++ last ∷ [])

abbrev pub WalksFrom : List Row → Seen → Seen → Type 0
WalksFrom rows old new = Walks new.vars rows (basis_of rows old) (basis_of rows new)

abbrev pub NothingToLeave : Seen → Type 0
NothingToLeave t = least_leaving t.basic t.lines ≡ None

abbrev pub GoesOn : Turn → Type 0
GoesOn Turns.Point = ⊥
GoesOn (Turns.Contradiction out) = ⊥
GoesOn (Turns.Wide out into row) = ⊥
GoesOn (Turns.Next out into) = Unit {0}

abbrev pub Ended : List Row → Seen → Turn → Type 0
Ended rows t turn = (GoesOn turn → ⊥) × Turned rows t t turn

abbrev pub nums_upto : ℕ → List ℕ → List (List ℤ) → List ℤ
nums_upto zero basic lines = []
nums_upto (suc n) basic lines = nums_upto n basic lines ++ constant (line_or n basic lines) ∷ []
