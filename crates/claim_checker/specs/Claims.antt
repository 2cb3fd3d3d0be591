-- What a plan file claims of a job, with the tree block behind it, and how it is judged.
--
--   CanBeChecked state         the state claims something that a check can show: the least extent, or that there is no plan
--   excluded_by file           the extent that the file excludes: the one below its own, or the whole plate; 0 where there is none
--   HasPlanAsSaid job file     the plan of a least extent is valid there
--   HasBlock e block           where an extent is excluded there is a block, and its nodes are spelt and one whole tree
--   unless P fault j later     the fault is the judgement j and P doesn't hold, or P holds and the rest of the list says which it is
--   IsTreeJudgement job e tree j     the tree refutes the extent, or the judgement is its first node that breaks a rule
--   IsBlockJudgement job e block j   where an extent is excluded: the block's own number is it, and then what is said of its tree
--   IsJudgement job file block j     the judgement: the first of these that doesn't hold, in this order; or that the claim passes
--   Shows scene file x         what a claim that passes with the number x shows of the scene of its job: no plan is valid at x nor below;
--                              for a least extent its plan is valid there, and it is the least; where no plan is claimed there is none
--                              at any extent
use Rattle.std.specs.Prelude.{◌≡◌, ◌⊎◌, ℕ, zero, suc, ◌-◌, ◌≤◌, All, Option, Some, None}
use Rattle.cert_checker.specs.Rules.{IsFirstBroken}
use Rattle.cert_text.specs.TreeText.{IsSpelt}
use Rattle.cert_text.specs.declared.block.Head.{Head}
use Rattle.claim_checker.specs.declared.verdict.Judgement.{Judgement}
use Rattle.claim_checker.specs.declared.verdict.Judgement.TheVariants as Judgements
use Rattle.claim_checker.specs.declared.verdict.Fault.{Fault}
use Rattle.claim_checker.specs.declared.verdict.Fault.TheVariants as Faults
use Rattle.plan_text.specs.declared.file.PlanFile.{PlanFile}
use Rattle.plan_text.specs.declared.file.State.{State}
use Rattle.plan_text.specs.declared.file.State.TheVariants as States
use Rattle.seq_model.specs.Jobs.{scene_of_job}
use Rattle.seq_model.specs.Scenes.{Least, Scene, Valid}
use Rattle.seq_model.specs.Trees.{IsWhole, TreeRefutes}
use Rattle.seq_model.specs.declared.job.Job.{Job}
use Rattle.seq_model.specs.declared.plan.Plan.{Plan}
use Rattle.seq_model.specs.declared.tree.Tree.{Tree}

abbrev pub CanBeChecked : State → Type 0
CanBeChecked States.Found = ⊥
CanBeChecked States.Least = Unit {0}
CanBeChecked States.OpenBudget = ⊥
CanBeChecked States.OpenWide = ⊥
CanBeChecked States.NoPlan = Unit {0}
CanBeChecked States.UndecidedBudget = ⊥
CanBeChecked States.UndecidedWide = ⊥

abbrev pub excluded_in : State → ℕ → ℕ → ℕ
excluded_in States.Found grid extent = 0
excluded_in States.Least grid extent = extent - 1
excluded_in States.OpenBudget grid extent = 0
excluded_in States.OpenWide grid extent = 0
excluded_in States.NoPlan grid extent = grid
excluded_in States.UndecidedBudget grid extent = 0
excluded_in States.UndecidedWide grid extent = 0

abbrev pub excluded_by : PlanFile → ℕ
excluded_by file = excluded_in file.state file.grid file.extent

abbrev pub HasPlanAsSaid : Job → PlanFile → Type 0
HasPlanAsSaid job file = file.state ≡ States.Least → Valid (scene_of_job job) file.extent file.plan

-- as the reader of tree blocks gives them
abbrev pub IsReadTree : Tree → Type 0
IsReadTree tree = IsWhole tree × All IsSpelt tree.nodes

abbrev pub HasBlock : ℕ → Option (Head × Tree) → Type 0
HasBlock zero block = Unit {0}
HasBlock (suc e) None = ⊥
HasBlock (suc e) (Some b) = IsReadTree b.1

abbrev pub unless : Type 0 → Fault → Judgement → Type 0 → Type 0
unless P fault judgement later = ((judgement ≡ Judgements.Fails fault) × (P → ⊥)) ⊎ (P × later)

abbrev pub IsTreeJudgement : Job → ℕ → Tree → Judgement → Type 0
IsTreeJudgement job e tree (Judgements.Passes x) = (x ≡ e) × TreeRefutes job e tree
IsTreeJudgement job e tree (Judgements.Fails Faults.State) = ⊥
IsTreeJudgement job e tree (Judgements.Fails Faults.Grid) = ⊥
IsTreeJudgement job e tree (Judgements.Fails Faults.Plan) = ⊥
IsTreeJudgement job e tree (Judgements.Fails Faults.Excludes) = ⊥
IsTreeJudgement job e tree (Judgements.Fails (Faults.Node k rule)) = IsFirstBroken job e tree.nodes k rule

abbrev pub IsBlockJudgement : Job → ℕ → Option (Head × Tree) → Judgement → Type 0
IsBlockJudgement job zero block judgement = judgement ≡ Judgements.Passes 0
IsBlockJudgement job (suc e) None judgement = ⊥
IsBlockJudgement job (suc e) (Some b) judgement = unless (b.0.extent ≡ suc e) Faults.Excludes judgement (IsTreeJudgement job (suc e) b.1 judgement)

abbrev pub IsJudgement : Job → PlanFile → Option (Head × Tree) → Judgement → Type 0
IsJudgement job file block judgement =
    unless (CanBeChecked file.state) Faults.State judgement
    (unless (file.grid ≡ job.printer.grid) Faults.Grid judgement
    (unless (HasPlanAsSaid job file) Faults.Plan judgement
    (IsBlockJudgement job (excluded_by file) block judgement)))

pub record Shows (scene : Scene) (file : PlanFile) (x : ℕ) : Type 0 where
  pub number : x ≡ excluded_by file
  pub none_below : (e : ℕ) (plan : Plan) → e ≤ x → Valid scene e plan → ⊥
  pub plan : file.state ≡ States.Least → Valid scene file.extent file.plan
  pub least : file.state ≡ States.Least → Least scene file.extent
  pub none : file.state ≡ States.NoPlan → (e : ℕ) (plan : Plan) → Valid scene e plan → ⊥
