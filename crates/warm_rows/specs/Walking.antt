-- A walk whose pivots are noted.
--
--   noted steps turn                the steps, and the pivot that the turn made
--   OnWalk first table steps new    a walk from the first table is at the new one, and its pivots are noted behind the steps
--   AtEnd first table steps new turn    it has ended there, and the turn says why
use Rattle.std.specs.Prelude.{◌≡◌, List, [], ◌∷◌, ◌++◌}
use Rattle.feasible_point.specs.Walked.{Ended, NothingToLeave, WalksFrom, ReachedAt}
use Rattle.row_dictionary.specs.Seen.{Seen, basis_of}
use Rattle.row_dictionary.specs.declared.turn.Turn.{Turn}
use Rattle.row_dictionary.specs.declared.turn.Turn.TheVariants as Turns
use Rattle.warm_rows.specs.Keeping.{Kept}
use Rattle.warm_rows.specs.Warming.{ArePivots, rows_of}
use Rattle.warm_rows.specs.declared.step.Step.{Step}
use Rattle.warm_rows.specs.declared.step.Step.TheVariants as Steps

abbrev pub noted : List Step → Turn → List Step
noted steps Turns.Point = steps
noted steps (Turns.Contradiction out) = steps
noted steps (Turns.Wide out into row) = steps
noted steps (Turns.Next out into) = steps ++ Steps.Pivot out into ∷ []

pub record OnWalk (steps : List Step) (table : Seen) (more : List Step) (new : Seen) : Type 0 where
  pub vars : new.vars ≡ table.vars
  pub pivots : List Step
  pub are : ArePivots pivots
  pub steps_are : more ≡ steps ++ pivots
  pub kept : Kept new.vars more new
  pub reached : ReachedAt (rows_of steps) (basis_of (rows_of steps) table) new
  pub stays : NothingToLeave table → new ≡ table

pub record AtEnd (steps : List Step) (table : Seen) (new : Seen) (turn : Turn) : Type 0 where
  pub walks : WalksFrom (rows_of steps) table new
  pub ended : Ended (rows_of steps) new turn
