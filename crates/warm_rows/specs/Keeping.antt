-- What a Warm value keeps, so that its steps can be undone.
--
--   Goes table step                 a step may go from the table: what leaves is basic, and what enters is free
--   WasHeld vars front step         the steps in front gave a table of small numbers, from which the step went
--   Kept vars steps table           the table is the one that the steps give, and each of them was held
use Rattle.std.specs.Prelude.{◌≡◌, ℕ, ◌+◌, ◌<◌, ◌^◌, List, ◌∷◌, ◌++◌, Contains, length}
use Rattle.row_dictionary.specs.Seen.{Seen}
use Rattle.row_dictionary.specs.Shrinking.{Fits}
use Rattle.warm_rows.specs.Warming.{Gives, rows_of}
use Rattle.warm_rows.specs.declared.step.Step.{Step}
use Rattle.warm_rows.specs.declared.step.Step.TheVariants as Steps

abbrev pub Goes : Seen → Step → Type 0
Goes table (Steps.Row row) = Unit {0}
Goes table (Steps.Pivot leaving entering) = Contains table.basic leaving × Contains table.free entering

pub record WasHeld (vars : ℕ) (front : List Step) (step : Step) : Type 0 where
  pub table : Seen
  pub gives : Gives vars front table
  pub fits : Fits table
  pub goes : Goes table step

pub record Kept (vars : ℕ) (steps : List Step) (table : Seen) : Type 0 where
  pub gives : Gives vars steps table
  pub held : (front : List Step) (step : Step) (back : List Step) → steps ≡ front ++ step ∷ back → WasHeld vars front step
  pub count : vars + length (rows_of steps) < 2 ^ 32
