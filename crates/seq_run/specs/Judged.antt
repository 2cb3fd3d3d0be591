-- What `audit` and `check` print of a plan that is given.
--
--   scene_of inputs              the scene that the files describe
--   IsGoodPlan inputs plan       the plan is valid on the whole plate, for that scene
--   PrintsGood inputs text       the plan that is named is good, and the text says so
--   PrintsPlanFault inputs text  it isn't, and the text tells its first fault
--   IsJudgedAs inputs j          the claim of the plan that is named is judged so, by the job of the files
--   PrintsPass inputs text       its claim passes, with what this shows of the scene of the files, and the text says so
--   PrintsClaimFault inputs text it doesn't, and the text tells what is wrong with it first
use Rattle.std.specs.Prelude.{◌≡◌, ℕ, List, Some, codes}
use Rattle.audit_text.specs.AuditText.{audit_text}
use Rattle.check_text.specs.CheckText.{check_text}
use Rattle.claim_checker.specs.Claims.{IsJudgement, Shows}
use Rattle.claim_checker.specs.declared.verdict.Judgement.{Judgement}
use Rattle.claim_checker.specs.declared.verdict.Judgement.TheVariants.{Fails, Passes}
use Rattle.claim_checker.specs.declared.verdict.Fault.{Fault}
use Rattle.plan_audit.specs.Faults.{IsVerdict}
use Rattle.plan_audit.specs.declared.verdict.Verdict.{Verdict as Audit}
use Rattle.run_files.specs.Files.{Inputs, facets_of}
use Rattle.run_files.specs.Jobs.{IsJobOf}
use Rattle.run_files.specs.declared.plans.GivenPlan.{GivenPlan}
use Rattle.seq_model.specs.Scenes.{Scene, Valid, scene_of_files}
use Rattle.seq_model.specs.declared.job.Job.{Job}

abbrev pub scene_of : Inputs → Scene
scene_of inputs = scene_of_files inputs.description (facets_of inputs.meshes)

-- ---- audit
abbrev pub IsGoodPlan : Inputs → GivenPlan → Type 0
IsGoodPlan inputs plan = Valid (scene_of inputs) inputs.description.grid plan.file.plan

pub record PrintsGood (inputs : Inputs) (text : List ℕ) : Type 0 where
  pub plan : GivenPlan
  pub named : inputs.plan ≡ Some plan
  pub good : IsGoodPlan inputs plan
  pub is : text ≡ codes "audit good\n"

-- what is wrong with the plan first, of the scene of the files
pub record PrintsPlanFault (inputs : Inputs) (text : List ℕ) : Type 0 where
  pub plan : GivenPlan
  pub named : inputs.plan ≡ Some plan
  pub not_good : IsGoodPlan inputs plan → ⊥
  pub fault : Audit
  pub first : IsVerdict (scene_of inputs) inputs.description.grid plan.file.plan fault
  pub is : text ≡ audit_text inputs.description.parts plan.file.plan.places fault

-- ---- check
pub record IsJudgedAs (inputs : Inputs) (judgement : Judgement) : Type 0 where
  pub plan : GivenPlan
  pub named : inputs.plan ≡ Some plan
  pub job : Job
  pub is_job : IsJobOf inputs.description inputs.meshes job
  pub is : IsJudgement job plan.file plan.block judgement

-- no plan is valid at the extent that is told nor below; a least extent is the least one, and has its plan
pub record PrintsPass (inputs : Inputs) (text : List ℕ) : Type 0 where
  pub excluded : ℕ
  pub judged : IsJudgedAs inputs (Passes excluded)
  pub only : (other : Judgement) → IsJudgedAs inputs other → other ≡ Passes excluded
  pub shows : Shows (scene_of inputs) judged.plan.file excluded
  pub is : text ≡ check_text (Passes excluded)

pub record PrintsClaimFault (inputs : Inputs) (text : List ℕ) : Type 0 where
  pub fault : Fault
  pub judged : IsJudgedAs inputs (Fails fault)
  pub only : (other : Judgement) → IsJudgedAs inputs other → other ≡ Fails fault
  pub is : text ≡ check_text (Fails fault)
