-- The text that `arrange` prints for the answer of a search: a plan file, and the tree block behind it.
--
--     seqplan 1
--     state none
--     grid 100
--     certificate 1
--     excludes 100
--     bound 0:1
--
--   placed state grid e plan      the file of a plan at extent e
--   excludes e, tried e           the head of a certificate, and of an open tree whose search the budget ended
--   tried_wide e note             the head of an open tree that numbers grown too wide ended
--   statement_of grid d           the file and the block of a decision of the whole plate
--   block_of_cause e cause        the block of an extent that was left undecided
--   statement_for grid outcome    the file and the block of a search for the least extent
--   statement_text s              the text of both
--   decision_text grid d, outcome_text grid outcome   that of a decision, and of a search for the least extent
--   IsTextOf bytes s              the bytes are a plan file and the block that is due, as their readers take them, and nothing more
use Rattle.std.specs.Prelude.{◌≡◌, ℕ, ◌-◌, List, [], ◌++◌, drop, Option, Some, None}
use Rattle.cert_text.specs.TreeText.{IsTreeText, tree_text}
use Rattle.cert_text.specs.declared.block.Head.{Head}
use Rattle.cert_text.specs.declared.block.Kind.TheVariants as Kinds
use Rattle.decision_text.specs.declared.statement.Statement.{Statement}
use Rattle.plan_text.specs.PlanText.{IsPlanOf, plan_text}
use Rattle.plan_text.specs.Reading.{bare}
use Rattle.plan_text.specs.declared.file.PlanFile.{PlanFile}
use Rattle.plan_text.specs.declared.file.State.{State}
use Rattle.plan_text.specs.declared.file.State.TheVariants as States
use Rattle.plate_shrink.specs.declared.outcome.Cause.{Cause}
use Rattle.plate_shrink.specs.declared.outcome.Cause.TheVariants as Causes
use Rattle.plate_shrink.specs.declared.outcome.Outcome.{Outcome}
use Rattle.plate_shrink.specs.declared.outcome.Outcome.TheVariants as Outcomes
use Rattle.refinement_loop.specs.declared.deciding.Decision.{Decision}
use Rattle.refinement_loop.specs.declared.deciding.Decision.TheVariants as Decisions
use Rattle.seq_model.specs.declared.plan.Plan.{Plan}
use Rattle.seq_model.specs.declared.tree.Tree.{Tree}
use Rattle.seq_model.specs.declared.tree.WideNote.{WideNote}

-- ---- files and heads
abbrev pub placed : State → ℕ → ℕ → Plan → PlanFile
placed state grid e plan = record { state = state; grid = grid; extent = e; plan = plan }

abbrev pub excludes : ℕ → Head
excludes e = record { kind = Kinds.Certificate; extent = e; wide = None }

abbrev pub tried : ℕ → Head
tried e = record { kind = Kinds.OpenBudget; extent = e; wide = None }

abbrev pub tried_wide : ℕ → WideNote → Head
tried_wide e note = record { kind = Kinds.OpenWide; extent = e; wide = Some note }

abbrev no_block : Option (Head × Tree)
no_block = None

-- ---- a decision
abbrev pub file_of : ℕ → Decision → PlanFile
file_of grid (Decisions.Found plan) = placed States.Found grid grid plan
file_of grid (Decisions.Refuted tree) = bare States.NoPlan grid
file_of grid (Decisions.Spent tree) = bare States.UndecidedBudget grid
file_of grid (Decisions.Wide note tree) = bare States.UndecidedWide grid

abbrev pub block_of : ℕ → Decision → Option (Head × Tree)
block_of grid (Decisions.Found plan) = no_block
block_of grid (Decisions.Refuted tree) = Some (excludes grid, tree)
block_of grid (Decisions.Spent tree) = Some (tried grid, tree)
block_of grid (Decisions.Wide note tree) = Some (tried_wide grid note, tree)

abbrev pub statement_of : ℕ → Decision → Statement
statement_of grid d = record { file = file_of grid d; block = block_of grid d }

-- ---- a search for the least extent
abbrev pub open_state : Cause → State
open_state (Causes.Budget tree) = States.OpenBudget
open_state (Causes.Wide note tree) = States.OpenWide

abbrev pub undecided_state : Cause → State
undecided_state (Causes.Budget tree) = States.UndecidedBudget
undecided_state (Causes.Wide note tree) = States.UndecidedWide

abbrev pub block_of_cause : ℕ → Cause → Option (Head × Tree)
block_of_cause e (Causes.Budget tree) = Some (tried e, tree)
block_of_cause e (Causes.Wide note tree) = Some (tried_wide e note, tree)

-- the extent below the least one is excluded
abbrev pub block_below : ℕ → Option Tree → Option (Head × Tree)
block_below e None = no_block
block_below e (Some tree) = Some (excludes (e - 1), tree)

abbrev pub file_for : ℕ → Outcome → PlanFile
file_for grid (Outcomes.Least plan e tree) = placed States.Least grid e plan
file_for grid (Outcomes.NoPlan tree) = bare States.NoPlan grid
file_for grid (Outcomes.Unproved plan e cause) = placed (open_state cause) grid e plan
file_for grid (Outcomes.Undecided cause) = bare (undecided_state cause) grid

abbrev pub block_for : ℕ → Outcome → Option (Head × Tree)
block_for grid (Outcomes.Least plan e tree) = block_below e tree
block_for grid (Outcomes.NoPlan tree) = Some (excludes grid, tree)
block_for grid (Outcomes.Unproved plan e cause) = block_of_cause (e - 1) cause
block_for grid (Outcomes.Undecided cause) = block_of_cause grid cause

abbrev pub statement_for : ℕ → Outcome → Statement
statement_for grid outcome = record { file = file_for grid outcome; block = block_for grid outcome }

-- ---- the text
abbrev pub block_text : Option (Head × Tree) → List ℕ
block_text None = []
block_text (Some b) = tree_text b.0 b.1

abbrev pub statement_text : Statement → List ℕ
statement_text s = plan_text s.file ++ block_text s.block

abbrev pub decision_text : ℕ → Decision → List ℕ
decision_text grid d = statement_text (statement_of grid d)

abbrev pub outcome_text : ℕ → Outcome → List ℕ
outcome_text grid outcome = statement_text (statement_for grid outcome)

-- ---- what the readers take from it
abbrev pub StatesBlock : List ℕ → Option (Head × Tree) → Type 0
StatesBlock rest None = rest ≡ []
StatesBlock rest (Some b) = IsTreeText rest b.0.kind b.0 b.1

pub record IsTextOf (bytes : List ℕ) (s : Statement) : Type 0 where
  pub place : ℕ
  pub plan : IsPlanOf bytes s.file place
  pub block : StatesBlock (drop place bytes) s.block
