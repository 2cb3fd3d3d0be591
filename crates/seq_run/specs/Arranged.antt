-- What `arrange` prints for a description d and meshes ms, with the budget b.
--
--   PassesCheck job s x        what is stated passes the judgement of `check`, which tells x as the excluded extent
--   PrintsPlan d ms text       the text is that of a plan that is valid on the whole plate
--   PrintsLeast d ms b text    the text is that of a plan at the least extent, with a certificate for the one below
--   PrintsNone d ms b text     the text says that there is no plan, and its certificate refutes the whole plate
--   PrintsOpen d ms b text     the text is that of a plan, and says why the extent below was left undecided
--   PrintsSpent d ms b text    the text says that the budget was spent, with a tree that shows it
--   PrintsWide d ms text       the text says that numbers grown too wide left it undecided, with a tree and a note that show it
use Rattle.std.specs.Prelude.{◌≡◌, ◌<◌, ◌-◌, ℕ, List, Option}
use Rattle.claim_checker.specs.Claims.{IsJudgement}
use Rattle.claim_checker.specs.declared.verdict.Judgement.TheVariants.{Passes}
use Rattle.decision_text.specs.DecisionText.{decision_text, file_of, outcome_text, statement_for, statement_of}
use Rattle.decision_text.specs.declared.statement.Statement.{Statement}
use Rattle.node_looks.specs.Looks.{HasZeroPlan}
use Rattle.plan_text.specs.PlanText.{IsPlanFile}
use Rattle.plate_shrink.specs.Outcomes.{IsBudgetCause, IsLeastOutcome, IsOpenOutcome}
use Rattle.plate_shrink.specs.declared.outcome.Cause.{Cause}
use Rattle.plate_shrink.specs.declared.outcome.Outcome.TheVariants as Outcomes
use Rattle.refinement_loop.specs.Decisions.{IsRefutation, IsSpent, IsWideEnd, IsZeroDecision}
use Rattle.refinement_loop.specs.declared.deciding.Decision.TheVariants.{Found, Refuted, Spent, Wide}
use Rattle.run_files.specs.Files.{NamedMesh, facets_of}
use Rattle.run_files.specs.Jobs.{IsJobOf}
use Rattle.seq_model.specs.Budgets.{Full}
use Rattle.seq_model.specs.Scenes.{Description, Least, Valid, scene_of_files}
use Rattle.seq_model.specs.declared.job.Job.{Job}
use Rattle.seq_model.specs.declared.plan.Plan.{Plan}
use Rattle.seq_model.specs.declared.tree.Tree.{Tree}
use Rattle.seq_model.specs.declared.tree.WideNote.{WideNote}

abbrev pub PassesCheck : Job → Statement → ℕ → Type 0
PassesCheck job s x = IsJudgement job s.file s.block (Passes x)

-- the plan has all objects at the zero point wherever such a plan is valid
pub record PrintsPlan (d : Description) (meshes : List NamedMesh) (text : List ℕ) : Type 0 where
  pub plan : Plan
  pub valid : Valid (scene_of_files d (facets_of meshes)) d.grid plan
  pub is : text ≡ decision_text d.grid (Found plan)
  pub file : IsPlanFile (file_of d.grid (Found plan))
  pub job : Job
  pub is_job : IsJobOf d meshes job
  pub zero_point : HasZeroPlan job d.grid → IsZeroDecision job d.grid (Found plan)

-- the plan is valid at its extent, and none is at a smaller one; the certificate that is printed refutes the extent below, and passes
pub record PrintsLeast (d : Description) (meshes : List NamedMesh) (budget : ℕ) (text : List ℕ) : Type 0 where
  pub plan : Plan
  pub extent : ℕ
  pub valid : Valid (scene_of_files d (facets_of meshes)) extent plan
  pub least : Least (scene_of_files d (facets_of meshes)) extent
  pub tree : Option Tree
  pub is : text ≡ outcome_text d.grid (Outcomes.Least plan extent tree)
  pub job : Job
  pub is_job : IsJobOf d meshes job
  pub outcome : IsLeastOutcome job budget plan extent tree
  pub passes : PassesCheck job (statement_for d.grid (Outcomes.Least plan extent tree)) (extent - 1)

-- no plan is valid at any extent; the certificate refutes the whole plate and passes, all its splits are grounded, and it has less than
-- a split's nodes above the budget
pub record PrintsNone (d : Description) (meshes : List NamedMesh) (budget : ℕ) (text : List ℕ) : Type 0 where
  pub none : (e : ℕ) (plan : Plan) → Valid (scene_of_files d (facets_of meshes)) e plan → ⊥
  pub tree : Tree
  pub is : text ≡ decision_text d.grid (Refuted tree)
  pub job : Job
  pub is_job : IsJobOf d meshes job
  pub refuted : IsRefutation job d.grid budget tree
  pub passes : PassesCheck job (statement_of d.grid (Refuted tree)) d.grid

-- the plan is valid at its extent, and the search of the one below ended for this cause; a budget that was spent there is below that
-- which is always enough
pub record PrintsOpen (d : Description) (meshes : List NamedMesh) (budget : ℕ) (text : List ℕ) : Type 0 where
  pub plan : Plan
  pub extent : ℕ
  pub valid : Valid (scene_of_files d (facets_of meshes)) extent plan
  pub cause : Cause
  pub is : text ≡ outcome_text d.grid (Outcomes.Unproved plan extent cause)
  pub job : Job
  pub is_job : IsJobOf d meshes job
  pub outcome : IsOpenOutcome job budget plan extent cause
  pub below_full : IsBudgetCause cause → (full : ℕ) → Full job full → budget < full

-- the tree has used the budget up and could go on, and the budget is below that which is always enough
pub record PrintsSpent (d : Description) (meshes : List NamedMesh) (budget : ℕ) (text : List ℕ) : Type 0 where
  pub tree : Tree
  pub is : text ≡ decision_text d.grid (Spent tree)
  pub job : Job
  pub is_job : IsJobOf d meshes job
  pub spent : IsSpent job d.grid budget tree
  pub below_full : (full : ℕ) → Full job full → budget < full

-- nothing is left but nodes whose walk ends wide, of which the note names one
pub record PrintsWide (d : Description) (meshes : List NamedMesh) (text : List ℕ) : Type 0 where
  pub note : WideNote
  pub tree : Tree
  pub is : text ≡ decision_text d.grid (Wide note tree)
  pub job : Job
  pub is_job : IsJobOf d meshes job
  pub end : IsWideEnd job d.grid note tree
