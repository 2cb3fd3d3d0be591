-- What the search of a job answers is what `arrange` prints of its files, and the bands of its one object what `slices` does.
use Rattle.std.proofs.Common.{◌≡◌, ℕ, ◌-◌, ◌<◌, ◌≤◌, Bool, List, [], ◌∷◌, length, get_or, Option, ◌⊎◌, inl, inr, refl, sym, ap, subst, arith}
use Rattle.std.proofs.lemmas.Bool.{cases_lt}
use Rattle.std.specs.List.{AllZip}
use Rattle.answer_checks.specs.Laws.Passing.{least_passes, refuted_passes}
use Rattle.answer_laws.specs.Laws.OfFiles.{none_of_files}
use Rattle.decision_text.specs.DecisionText.{decision_text, file_for, file_of, outcome_text, statement_for, statement_of}
use Rattle.decision_text.specs.Laws.Spelled.{decision_stated, outcome_stated}
use Rattle.model_laws.specs.Laws.Reading.{reads_weaker}
use Rattle.node_looks.specs.Looks.{HasZeroPlan}
use Rattle.plan_text.specs.PlanText.{IsPlanFile}
use Rattle.plate_shrink.specs.Outcomes.{IsBudgetCause, IsBudgetOutcome, IsOutcome}
use Rattle.plate_shrink.specs.declared.outcome.Cause.{Cause}
use Rattle.plate_shrink.specs.declared.outcome.Cause.TheVariants as Causes
use Rattle.plate_shrink.specs.declared.outcome.Outcome.{Outcome}
use Rattle.plate_shrink.specs.declared.outcome.Outcome.TheVariants as Outcomes
use Rattle.refinement_loop.specs.Decisions.{IsDecision, IsRefutation, IsSpent, IsSpentDecision, IsWideEnd, IsZeroDecision}
use Rattle.refinement_loop.specs.declared.deciding.Decision.{Decision}
use Rattle.refinement_loop.specs.declared.deciding.Decision.TheVariants as Decisions
use Rattle.run_files.specs.Files.{Inputs, NamedMesh, facets_of}
use Rattle.run_files.specs.Jobs.{IsJobOf, IsObjectFor}
use Rattle.run_files.specs.Laws.Made.{least_of_files, made_from, same_plans}
use Rattle.run_files.specs.declared.plans.GivenPlan.{GivenPlan}
use Rattle.run_files.specs.declared.words.Task.TheVariants as Tasks
use Rattle.seq_model.specs.Budgets.{Full}
use Rattle.seq_model.specs.Scenes.{Description, Valid, scene_of_files}
use Rattle.seq_model.specs.Splits.{Grounded, IsCertificate}
use Rattle.seq_model.specs.Trees.{IsClosed, IsSoundNode, TreeRefutes}
use Rattle.seq_model.specs.declared.job.Job.{Job}
use Rattle.seq_model.specs.declared.job.Object.{Object}
use Rattle.seq_model.specs.declared.plan.Plan.{Plan}
use Rattle.seq_model.specs.declared.tree.Tree.{Tree}
use Rattle.seq_model.specs.declared.tree.WideNote.{WideNote}
use Rattle.seq_run.specs.Arranged.{PassesCheck, PrintsLeast, PrintsNone, PrintsOpen, PrintsPlan, PrintsSpent, PrintsWide}
use Rattle.seq_run.specs.Planning.{PrintsFor, verdict_of_decision, verdict_of_outcome}
use Rattle.seq_run.specs.Printed.{PrintsSlices, PrintsUndecided, PrintsUnfound}
use Rattle.seq_run.specs.declared.status.Verdict.TheVariants as Verdicts
use Rattle.slice_text.specs.SlicesText.{slices_text}

-- ---- decisions
refutes : (job : Job) (e : ℕ) (tree : Tree) → IsCertificate job e tree → TreeRefutes job e tree
refutes job e tree c =
    reads_weaker job (λ path node. (IsSoundNode job e path node × IsClosed node) × Grounded job e path node) (λ path node. IsSoundNode job e path node × IsClosed node) (λ path node g. g.0) tree.nodes ([] ∷ []) [] c

above : (budget full : ℕ) → (full ≤ budget → ⊥) → budget < full
above budget full h = of (cases_lt budget full)
  where
    of : (budget < full) ⊎ (full ≤ budget) → budget < full
    of (inl l) = l
    of (inr far) = absurd (h far)

module _ (budget : ℕ) (job : Job) (text : List ℕ) (d : Description) (meshes : List NamedMesh) (j : IsJobOf d meshes job) where
  grid : job.printer.grid ≡ d.grid
  grid = ap (λ (x : Description). x.grid) j.printer.numbers

  found : (plan : Plan) → IsDecision job job.printer.grid budget (Decisions.Found plan) → (HasZeroPlan job job.printer.grid → IsZeroDecision job job.printer.grid (Decisions.Found plan)) → text ≡ decision_text job.printer.grid (Decisions.Found plan) → PrintsPlan d meshes text
  found plan f zero is = record {
    plan = plan;
    valid = subst (λ n. Valid (scene_of_files d (facets_of meshes)) n plan) grid ((same_plans d meshes job j job.printer.grid plan).1 f.valid);
    is = subst (λ n. text ≡ decision_text n (Decisions.Found plan)) grid is;
    file = subst (λ n. IsPlanFile (file_of n (Decisions.Found plan))) grid (decision_stated job budget (Decisions.Found plan) f).plan.spelled;
    job = job;
    is_job = j;
    zero_point = subst (λ n. HasZeroPlan job n → IsZeroDecision job n (Decisions.Found plan)) grid zero;
  }

  none : (tree : Tree) → IsDecision job job.printer.grid budget (Decisions.Refuted tree) → text ≡ decision_text job.printer.grid (Decisions.Refuted tree) → PrintsNone d meshes budget text
  none tree r is = record {
    none = subst (λ (x : Description). (e : ℕ) (q : Plan) → Valid (scene_of_files x (facets_of meshes)) e q → ⊥) j.printer.numbers
        (λ e q valid. none_of_files d.parts (facets_of meshes) job (made_from d meshes job j) e tree q (refutes job job.printer.grid tree r.certificate) valid);
    tree = tree;
    is = subst (λ n. text ≡ decision_text n (Decisions.Refuted tree)) grid is;
    job = job;
    is_job = j;
    refuted = subst (λ n. IsRefutation job n budget tree) grid r;
    passes = subst (λ n. PassesCheck job (statement_of n (Decisions.Refuted tree)) n) grid (refuted_passes job budget tree r);
  }

  spent : (tree : Tree) → IsDecision job job.printer.grid budget (Decisions.Spent tree) → ((full : ℕ) → Full job full → full ≤ budget → ⊥) → text ≡ decision_text job.printer.grid (Decisions.Spent tree) → PrintsSpent d meshes budget text
  spent tree s never is = record {
    tree = tree;
    is = subst (λ n. text ≡ decision_text n (Decisions.Spent tree)) grid is;
    job = job;
    is_job = j;
    spent = subst (λ n. IsSpent job n budget tree) grid s;
    below_full = λ full f. above budget full (never full f);
  }

  wide : (note : WideNote) (tree : Tree) → IsDecision job job.printer.grid budget (Decisions.Wide note tree) → text ≡ decision_text job.printer.grid (Decisions.Wide note tree) → PrintsWide d meshes text
  wide note tree w is = record {
    note = note;
    tree = tree;
    is = subst (λ n. text ≡ decision_text n (Decisions.Wide note tree)) grid is;
    job = job;
    is_job = j;
    end = subst (λ n. IsWideEnd job n note tree) grid w;
  }

  least : (plan : Plan) (e : ℕ) (tree : Option Tree) → IsOutcome job budget (Outcomes.Least plan e tree) → text ≡ outcome_text job.printer.grid (Outcomes.Least plan e tree) → PrintsLeast d meshes budget text
  least plan e tree o is = record {
    plan = plan;
    extent = e;
    valid = (same_plans d meshes job j e plan).1 o.found.valid;
    least = least_of_files d meshes job j e o.least;
    tree = tree;
    is = subst (λ n. text ≡ outcome_text n (Outcomes.Least plan e tree)) grid is;
    job = job;
    is_job = j;
    outcome = o;
    passes = subst (λ n. PassesCheck job (statement_for n (Outcomes.Least plan e tree)) (e - 1)) grid (least_passes job budget plan e tree o);
  }

  still_open : (plan : Plan) (e : ℕ) (cause : Cause) → IsOutcome job budget (Outcomes.Unproved plan e cause) → (IsBudgetCause cause → (full : ℕ) → Full job full → full ≤ budget → ⊥)
      → text ≡ outcome_text job.printer.grid (Outcomes.Unproved plan e cause) → PrintsOpen d meshes budget text
  still_open plan e cause o never is = record {
    plan = plan;
    extent = e;
    valid = (same_plans d meshes job j e plan).1 o.found.valid;
    cause = cause;
    is = subst (λ n. text ≡ outcome_text n (Outcomes.Unproved plan e cause)) grid is;
    job = job;
    is_job = j;
    outcome = o;
    below_full = λ spent full f. above budget full (never spent full f);
  }

unfound : (budget : ℕ) (job : Job) (text : List ℕ) (inputs : Inputs) → IsJobOf inputs.description inputs.meshes job → (HasZeroPlan job job.printer.grid → ⊥) → PrintsUndecided inputs budget text → PrintsUnfound inputs budget text
unfound budget job text inputs j zero undecided = record {
  undecided = undecided;
  job = job;
  is_job = j;
  no_zero_plan = subst (λ n. HasZeroPlan job n → ⊥) (ap (λ (x : Description). x.grid) j.printer.numbers) zero;
}

pub decision_for : (strict : Bool) (budget : ℕ) (plan : Option GivenPlan) (job : Job) (text : List ℕ) (decision : Decision) → IsDecision job job.printer.grid budget decision → (HasZeroPlan job job.printer.grid → IsZeroDecision job job.printer.grid decision)
    → ((full : ℕ) → Full job full → full ≤ budget → IsSpentDecision decision → ⊥) → text ≡ decision_text job.printer.grid decision → PrintsFor (Tasks.Arrange strict budget) job plan (verdict_of_decision decision) text
decision_for strict budget plan job text (Decisions.Found p) is zero unspent written = record { each = λ inputs j same. found budget job text inputs.description inputs.meshes j p is zero written }
decision_for strict budget plan job text (Decisions.Refuted tree) is zero unspent written = record { each = λ inputs j same. none budget job text inputs.description inputs.meshes j tree is written }
decision_for strict budget plan job text (Decisions.Spent tree) is zero unspent written = record { each = λ inputs j same. unfound budget job text inputs j zero (inl (spent budget job text inputs.description inputs.meshes j tree is (λ full f within. unspent full f within tt) written)) }
decision_for strict budget plan job text (Decisions.Wide note tree) is zero unspent written = record { each = λ inputs j same. unfound budget job text inputs j zero (inr (wide budget job text inputs.description inputs.meshes j note tree is written)) }

pub decision_file : (job : Job) (budget : ℕ) (decision : Decision) → IsDecision job job.printer.grid budget decision → IsPlanFile (file_of job.printer.grid decision)
decision_file job budget decision is = (decision_stated job budget decision is).plan.spelled

-- ---- outcomes
pub outcome_for : (strict : Bool) (budget : ℕ) (plan : Option GivenPlan) (job : Job) (text : List ℕ) (outcome : Outcome) → IsOutcome job budget outcome
    → ((full : ℕ) → Full job full → full ≤ budget → IsBudgetOutcome outcome → ⊥) → text ≡ outcome_text job.printer.grid outcome → PrintsFor (Tasks.Least strict budget) job plan (verdict_of_outcome outcome) text
outcome_for strict budget plan job text (Outcomes.Least p e tree) is unspent written = record { each = λ inputs j same. least budget job text inputs.description inputs.meshes j p e tree is written }
outcome_for strict budget plan job text (Outcomes.NoPlan tree) is unspent written = record { each = λ inputs j same. none budget job text inputs.description inputs.meshes j tree is written }
outcome_for strict budget plan job text (Outcomes.Unproved p e cause) is unspent written =
    record { each = λ inputs j same. still_open budget job text inputs.description inputs.meshes j p e cause is (λ spent full f within. unspent full f within spent) written }
outcome_for strict budget plan job text (Outcomes.Undecided (Causes.Budget tree)) is unspent written =
    record { each = λ inputs j same. inl (spent budget job text inputs.description inputs.meshes j tree is (λ full f within. unspent full f within tt) written) }
outcome_for strict budget plan job text (Outcomes.Undecided (Causes.Wide note tree)) is unspent written = record { each = λ inputs j same. inr (wide budget job text inputs.description inputs.meshes j note tree is written) }

pub outcome_file : (job : Job) (budget : ℕ) (outcome : Outcome) → IsOutcome job budget outcome → IsPlanFile (file_for job.printer.grid outcome)
outcome_file job budget outcome is = (outcome_stated job budget outcome is).plan.spelled

-- ---- one object
-- the meshes of a job of one object
record LoneMesh (R : NamedMesh → Object → Type 0) (meshes : List NamedMesh) (object : Object) : Type 0 where
  mesh : NamedMesh
  one : meshes ≡ mesh ∷ []
  is : R mesh object

lone_mesh : (R : NamedMesh → Object → Type 0) (meshes : List NamedMesh) (object : Object) → AllZip R meshes (object ∷ []) → LoneMesh R meshes object
lone_mesh R [] object z = absurd z
lone_mesh R (m ∷ []) object z = record { mesh = m; one = refl; is = z.0 }
lone_mesh R (m ∷ n ∷ ms) object z = absurd z.1

job_mesh : (d : Description) (meshes : List NamedMesh) (job : Job) (object : Object) → job.objects ≡ object ∷ [] → IsJobOf d meshes job → LoneMesh (IsObjectFor job.printer) meshes object
job_mesh d meshes job object one j = lone_mesh (IsObjectFor job.printer) meshes object (subst (AllZip (IsObjectFor job.printer) meshes) one j.objects)

-- the bands of the one object
pub slices_for : (plan : Option GivenPlan) (job : Job) (object : Object) (text : List ℕ) → job.objects ≡ object ∷ [] → text ≡ slices_text object → PrintsFor Tasks.Slices job plan Verdicts.Done text
slices_for plan job object text one is = record { each = λ inputs j same. by inputs.description inputs.meshes j }
  where
    by : (d : Description) (meshes : List NamedMesh) → IsJobOf d meshes job → PrintsSlices d meshes text
    by d meshes j =
        let lone = job_mesh d meshes job object one j in
        record { printer = job.printer; printer_is = j.printer; mesh = lone.mesh; one = lone.one; object = object; object_is = lone.is; is = is }

-- the only one of a list
pub one_object : (objects slice : List Object) (object : Object) → slice ≡ objects → length objects ≡ 1 → object ≡ get_or slice 0 object → objects ≡ object ∷ []
one_object objects slice object same n e = by objects n (subst (λ xs. object ≡ get_or xs 0 object) same e)
  where
    by : (xs : List Object) → length xs ≡ 1 → object ≡ get_or xs 0 object → xs ≡ object ∷ []
    by [] n e = absurd (omega (arith, n))
    by (o ∷ []) n e = ap (λ x. x ∷ []) (sym e)
    by (o ∷ p ∷ os) n e = absurd (omega (arith, n))
