-- What the bytes of a plan's file state, and what a task reads of them.
--
--   can_be_checked s          the state claims what a check can show: that an extent is the least, or that there is no plan
--   reads_block task file     the task reads the tree block behind the plan's lines: a check does, where a claim has one
--   IsBlockOf due rest block  where it is due, the rest of the bytes is the text of this certificate; else no block is taken
--   IsStatedBy task bytes plan   the bytes begin with the lines of the plan's file, with the block behind them where the task reads it;
--                             a block that it doesn't read may be whatever it is
--   IsOnlyBy task bytes plan  they state no other plan
use Rattle.std.specs.Prelude.{◌≡◌, ◌&&◌, ℕ, Bool, true, false, List, drop, Option, Some, None}
use Rattle.cert_text.specs.TreeText.{IsTreeText}
use Rattle.cert_text.specs.declared.block.Head.{Head}
use Rattle.cert_text.specs.declared.block.Kind.TheVariants.{Certificate}
use Rattle.plan_text.specs.PlanText.{IsPlanOf, is_block_due}
use Rattle.plan_text.specs.declared.file.PlanFile.{PlanFile}
use Rattle.plan_text.specs.declared.file.State.{State}
use Rattle.plan_text.specs.declared.file.State.TheVariants as States
use Rattle.seq_model.specs.declared.tree.Tree.{Tree}
use Rattle.run_files.specs.declared.plans.GivenPlan.{GivenPlan}
use Rattle.run_files.specs.declared.words.Task.{Task}
use Rattle.run_files.specs.declared.words.Task.TheVariants as Tasks

abbrev pub can_be_checked : State → Bool
can_be_checked States.Found = false
can_be_checked States.Least = true
can_be_checked States.OpenBudget = false
can_be_checked States.OpenWide = false
can_be_checked States.NoPlan = true
can_be_checked States.UndecidedBudget = false
can_be_checked States.UndecidedWide = false

abbrev pub reads_block : Task → PlanFile → Bool
reads_block (Tasks.Arrange strict budget) file = false
reads_block (Tasks.Least strict budget) file = false
reads_block Tasks.Audit file = false
reads_block Tasks.Check file = can_be_checked file.state && is_block_due file.state file.extent
reads_block Tasks.Slices file = false

abbrev pub IsBlockOf : Bool → List ℕ → Option (Head × Tree) → Type 0
IsBlockOf false rest None = Unit {0}
IsBlockOf false rest (Some block) = ⊥
IsBlockOf true rest None = ⊥
IsBlockOf true rest (Some block) = IsTreeText rest Certificate block.0 block.1

pub record IsStatedBy (task : Task) (bytes : List ℕ) (plan : GivenPlan) : Type 0 where
  pub place : ℕ
  pub is : IsPlanOf bytes plan.file place
  pub behind : IsBlockOf (reads_block task plan.file) (drop place bytes) plan.block

abbrev pub IsOnlyBy : Task → List ℕ → GivenPlan → Type 0
IsOnlyBy task bytes plan = (other : GivenPlan) → IsStatedBy task bytes other → other ≡ plan
