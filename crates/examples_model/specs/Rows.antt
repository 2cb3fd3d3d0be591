-- Rows and multipliers of the worked examples.
--
--   row c a            the row of this constant and these coefficients
--   rows_at_45         the bounds of two cubes at extent 45, and the row that says that object 1 stands to the east of object 0
--   path_to_the_east   object 0 before object 1, which stands beyond the side (1, 0) of their contact by the nozzle
--   times r m s n      row r is taken m times and row s n times
use Rattle.std.specs.Prelude.{ℕ, List, [], ◌∷◌, ℤ, pos, negsuc}
use Rattle.seq_model.specs.declared.row.Row.{Row}
use Rattle.seq_model.specs.declared.tree.Choice.{Choice}
use Rattle.seq_model.specs.declared.tree.Choice.TheVariants as Choices
use Rattle.seq_model.specs.declared.tree.Mult.{Mult}
use Rattle.examples_model.specs.Cubes.{dir, first_contact}

abbrev pub row : ℤ → List ℤ → Row
row c a = record { c = c; a = a }

abbrev pub rows_at_45 : List Row
rows_at_45 =
    row (pos 23) (negsuc 0 ∷ pos 0 ∷ pos 0 ∷ pos 0 ∷ [])
    ∷ row (pos 23) (pos 0 ∷ negsuc 0 ∷ pos 0 ∷ pos 0 ∷ [])
    ∷ row (pos 23) (pos 0 ∷ pos 0 ∷ negsuc 0 ∷ pos 0 ∷ [])
    ∷ row (pos 23) (pos 0 ∷ pos 0 ∷ pos 0 ∷ negsuc 0 ∷ [])
    ∷ row (negsuc 23) (negsuc 0 ∷ pos 0 ∷ pos 1 ∷ pos 0 ∷ [])
    ∷ []

abbrev pub path_to_the_east : List Choice
path_to_the_east = Choices.Before 0 1 ∷ Choices.Side first_contact (dir (pos 1) (pos 0)) ∷ []

abbrev pub times : ℕ → ℕ → ℕ → ℕ → List Mult
times r m s n = record { row = r; times = pos m } ∷ record { row = s; times = pos n } ∷ []
