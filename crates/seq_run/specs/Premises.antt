-- What may hold of the files that the words name, from which the status of a run follows.
--
--   IsUsable files a          all files can be used
--   IsUnusable files a        they can't all be used
--   AsksTrial words           the words ask for a trial
--   Arranges task             a plan is sought
--   HasNoPlan files a         the files can be used, a plan is sought, and none is valid for them
--   IsEnough job b IsSought   the budget b is enough for each extent that is sought
--   IsEnoughFor task job      so is that of the task
--   HasEnough files a         the files can be used, and the budget is enough for their job
--   IsFaulty task inputs      the plan of an audit isn't valid, the claim of a check doesn't pass
--   IsFaultless task inputs   it is, and it does
--   HasFaultyPlan, HasFaultlessPlan   the files can be used, and so it is of the plan that is given
use Rattle.std.specs.Prelude.{◌≡◌, ◌≤◌, ℕ, List, Option, Some}
use Rattle.claim_checker.specs.declared.verdict.Judgement.TheVariants.{Fails, Passes}
use Rattle.claim_checker.specs.declared.verdict.Fault.{Fault}
use Rattle.refinement_loop.specs.Decisions.{HasNoWideWalk}
use Rattle.run_files.specs.Files.{AreUsable, Inputs}
use Rattle.run_files.specs.Jobs.{IsJobOf}
use Rattle.run_files.specs.Words.{Tries}
use Rattle.run_files.specs.declared.plans.GivenPlan.{GivenPlan}
use Rattle.run_files.specs.declared.words.Asked.{Asked}
use Rattle.run_files.specs.declared.words.Task.{Task}
use Rattle.run_files.specs.declared.words.Task.TheVariants as Tasks
use Rattle.seq_io.specs.declared.mem_file.MemFile.{MemFile}
use Rattle.seq_model.specs.Budgets.{Full}
use Rattle.seq_model.specs.Scenes.{Valid}
use Rattle.seq_model.specs.declared.job.Job.{Job}
use Rattle.seq_model.specs.declared.plan.Plan.{Plan}
use Rattle.seq_run.specs.Judged.{IsGoodPlan, IsJudgedAs, scene_of}

pub record IsUsable (files : Option (List MemFile)) (a : Asked) : Type 0 where
  pub inputs : Inputs
  pub usable : AreUsable files a inputs

abbrev pub IsUnusable : Option (List MemFile) → Asked → Type 0
IsUnusable files a = IsUsable files a → ⊥

abbrev pub AsksTrial : List (List ℕ) → Type 0
AsksTrial words = Tries words (λ objects seed. Unit {0})

-- ---- plans that are sought
abbrev pub Arranges : Task → Type 0
Arranges (Tasks.Arrange strict budget) = Unit {0}
Arranges (Tasks.Least strict budget) = Unit {0}
Arranges Tasks.Audit = ⊥
Arranges Tasks.Check = ⊥
Arranges Tasks.Slices = ⊥

-- on the whole plate or at a smaller extent
pub record HasNoPlan (files : Option (List MemFile)) (a : Asked) : Type 0 where
  pub arranges : Arranges a.task
  pub inputs : Inputs
  pub usable : AreUsable files a inputs
  pub none : (e : ℕ) (plan : Plan) → Valid (scene_of inputs) e plan → ⊥

-- it is at least that which is always enough, and no walk of a path of the job ends wide there
pub record IsEnough (job : Job) (budget : ℕ) (IsSought : ℕ → Type 0) : Type 0 where
  pub full : ℕ
  pub is_full : Full job full
  pub within : full ≤ budget
  pub narrow : (e : ℕ) → IsSought e → HasNoWideWalk job e

abbrev pub IsEnoughFor : Task → Job → Type 0
IsEnoughFor (Tasks.Arrange strict budget) job = IsEnough job budget (λ e. e ≡ job.printer.grid)
IsEnoughFor (Tasks.Least strict budget) job = IsEnough job budget (λ e. (1 ≤ e) × (e ≤ job.printer.grid))
IsEnoughFor Tasks.Audit job = ⊥
IsEnoughFor Tasks.Check job = ⊥
IsEnoughFor Tasks.Slices job = ⊥

pub record HasEnough (files : Option (List MemFile)) (a : Asked) : Type 0 where
  pub arranges : Arranges a.task
  pub inputs : Inputs
  pub usable : AreUsable files a inputs
  pub enough : (job : Job) → IsJobOf inputs.description inputs.meshes job → IsEnoughFor a.task job

-- ---- plans that are given
pub record HasBadPlan (inputs : Inputs) : Type 0 where
  pub plan : GivenPlan
  pub named : inputs.plan ≡ Some plan
  pub bad : IsGoodPlan inputs plan → ⊥

pub record HasGoodPlan (inputs : Inputs) : Type 0 where
  pub plan : GivenPlan
  pub named : inputs.plan ≡ Some plan
  pub good : IsGoodPlan inputs plan

abbrev pub IsFaulty : Task → Inputs → Type 0
IsFaulty (Tasks.Arrange strict budget) inputs = ⊥
IsFaulty (Tasks.Least strict budget) inputs = ⊥
IsFaulty Tasks.Audit inputs = HasBadPlan inputs
IsFaulty Tasks.Check inputs = (fault : Fault) × IsJudgedAs inputs (Fails fault)
IsFaulty Tasks.Slices inputs = ⊥

abbrev pub IsFaultless : Task → Inputs → Type 0
IsFaultless (Tasks.Arrange strict budget) inputs = ⊥
IsFaultless (Tasks.Least strict budget) inputs = ⊥
IsFaultless Tasks.Audit inputs = HasGoodPlan inputs
IsFaultless Tasks.Check inputs = (x : ℕ) × IsJudgedAs inputs (Passes x)
IsFaultless Tasks.Slices inputs = ⊥

pub record HasFaultyPlan (files : Option (List MemFile)) (a : Asked) : Type 0 where
  pub inputs : Inputs
  pub usable : AreUsable files a inputs
  pub faulty : IsFaulty a.task inputs

pub record HasFaultlessPlan (files : Option (List MemFile)) (a : Asked) : Type 0 where
  pub inputs : Inputs
  pub usable : AreUsable files a inputs
  pub faultless : IsFaultless a.task inputs
