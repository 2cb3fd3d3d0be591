-- When each answer comes: just where what it says is so; and that it is read off where the walk ends.
--
--   IsPointAnswer, IsContradictionAnswer, IsWideAnswer solved     which of the three it is
--   SomePoint rows               some point meets all rows
--   NoPoint rows                 no point meets all rows
--   SomeWide vars rows           the walk from all slacks ends before a wide basis
--   Exactly vars rows solved     each answer comes just where its case is so
--   IsWalked vars rows solved    the walk from all slacks ends at a table that answers so: the point is that of its basis, the contradiction
--                                the line of the row in which nothing can enter
use Rattle.std.proofs.Common.{◌≡◌, ◌↔◌, ℕ, List, ℤ}
use Rattle.feasible_point.specs.Answering.{Answers, NeverWide}
use Rattle.feasible_point.specs.Walked.{Walks, Ended}
use Rattle.row_dictionary.specs.Seen.{Seen, IsOf, basis_of}
use Rattle.row_dictionary.specs.declared.turn.Turn.{Turn}
use Rattle.feasible_point.specs.declared.Solved.{Solved}
use Rattle.feasible_point.specs.declared.Solved.TheVariants as Solveds
use Rattle.seq_model.specs.Systems.{MeetsRows}
use Rattle.seq_model.specs.Walks.{WalkWide, slacks}
use Rattle.seq_model.specs.declared.row.Row.{Row}

abbrev pub IsPointAnswer : Solved → Type 0
IsPointAnswer (Solveds.Point den list) = Unit {0}
IsPointAnswer (Solveds.Contradiction list) = ⊥
IsPointAnswer (Solveds.Wide basis row) = ⊥

abbrev pub IsContradictionAnswer : Solved → Type 0
IsContradictionAnswer (Solveds.Point den list) = ⊥
IsContradictionAnswer (Solveds.Contradiction list) = Unit {0}
IsContradictionAnswer (Solveds.Wide basis row) = ⊥

abbrev pub IsWideAnswer : Solved → Type 0
IsWideAnswer (Solveds.Point den list) = ⊥
IsWideAnswer (Solveds.Contradiction list) = ⊥
IsWideAnswer (Solveds.Wide basis row) = Unit {0}

abbrev pub NoPoint : List Row → Type 0
NoPoint rows = (d : ℤ) (u : List ℤ) → MeetsRows rows d u → ⊥

abbrev pub SomePoint : List Row → Type 0
SomePoint rows = (d : ℤ) × (u : List ℤ) × MeetsRows rows d u

abbrev pub SomeWide : ℕ → List Row → Type 0
SomeWide vars rows = (basis : List ℕ) × (row : ℕ) × WalkWide vars rows basis row

pub record Exactly (vars : ℕ) (rows : List Row) (solved : Solved) : Type 0 where
  pub point : IsPointAnswer solved ↔ (SomePoint rows × NeverWide vars rows)
  pub contradiction : IsContradictionAnswer solved ↔ (NoPoint rows × NeverWide vars rows)
  pub wide : IsWideAnswer solved ↔ SomeWide vars rows

pub record IsWalked (vars : ℕ) (rows : List Row) (solved : Solved) : Type 0 where
  pub table : Seen
  pub turn : Turn
  pub vars_are : table.vars ≡ vars
  pub held : IsOf rows table
  pub walks : Walks vars rows (slacks vars rows) (basis_of rows table)
  pub ended : Ended rows table turn
  pub answers : Answers table turn solved
