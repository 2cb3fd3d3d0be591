-- What is answered of files that are told is so whatever else is said of them.
--
--   done_none, open_none                   where no plan is valid, none is answered
--   fault_sought                           a plan that is sought has no fault
--   undecided_enough, open_enough          with enough budget nothing is left open
--   searched_faulty, done_faulty           what is faulty isn't answered otherwise
--   searched_faultless, fault_faultless    nor is what is faultless
use Rattle.std.proofs.Common.{◌≡◌, ◌≤◌, ◌<◌, ◌-◌, ℕ, List, Some, inl, inr, sym, ap, ◌∙◌, subst, arith}
use Rattle.claim_checker.specs.declared.verdict.Judgement.{Judgement}
use Rattle.claim_checker.specs.declared.verdict.Judgement.TheVariants as Judgements
use Rattle.model_laws.specs.Laws.OnePath.{stands_at_path}
use Rattle.plate_shrink.specs.Outcomes.{IsBudgetCause, IsCause}
use Rattle.plate_shrink.specs.declared.outcome.Cause.{Cause}
use Rattle.plate_shrink.specs.declared.outcome.Cause.TheVariants as Causes
use Rattle.refinement_loop.specs.Decisions.{HasNoWideWalk, IsWideEnd}
use Rattle.run_files.specs.Files.{Inputs, IsPrinterFor, facets_of}
use Rattle.run_files.specs.Jobs.{IsJobOf}
use Rattle.run_files.specs.Laws.Exact.{SameInputs, same_inputs, turned}
use Rattle.run_files.specs.declared.plans.GivenPlan.{GivenPlan}
use Rattle.run_files.specs.declared.words.Asked.{Asked}
use Rattle.run_files.specs.declared.words.Task.{Task}
use Rattle.run_files.specs.declared.words.Task.TheVariants as Tasks
use Rattle.seq_io.specs.declared.mem_file.MemFile.{MemFile}
use Rattle.seq_model.specs.Budgets.{Full}
use Rattle.seq_model.specs.Scenes.{Description, Valid, scene_of_files}
use Rattle.seq_model.specs.declared.job.Job.{Job}
use Rattle.seq_model.specs.declared.plan.Plan.{Plan}
use Rattle.seq_model.specs.declared.tree.Tree.{Tree}
use Rattle.seq_model.specs.declared.tree.WideNote.{WideNote}
use Rattle.seq_run.specs.Judged.{IsGoodPlan, IsJudgedAs, scene_of}
use Rattle.seq_run.specs.Premises.{Arranges, HasEnough, HasFaultyPlan, HasFaultlessPlan, HasNoPlan, IsEnough, IsEnoughFor, IsFaultless, IsFaulty}
use Rattle.seq_run.specs.Printed.{Answers, Prints, PrintsUndecided}
use Rattle.seq_run.specs.declared.status.Verdict.{Verdict}
use Rattle.seq_run.specs.declared.status.Verdict.TheVariants.{Done, Fault, NoPlan, Open, Undecided}

-- ---- two readings of the same files
job_same : (x y : Inputs) → SameInputs x y → (job : Job) → IsJobOf x.description x.meshes job → IsJobOf y.description y.meshes job
job_same x y s job j = record {
  printer = subst (λ (d : Description). IsPrinterFor d job.printer) s.description j.printer;
  objects = s.objects job.printer job.objects j.objects;
}

valid_same : (x y : Inputs) → SameInputs x y → (e : ℕ) (plan : Plan) → Valid (scene_of x) e plan → Valid (scene_of y) e plan
valid_same x y s e plan v =
    subst (λ fs. Valid (scene_of_files y.description fs) e plan) s.facets
    (subst (λ (d : Description). Valid (scene_of_files d (facets_of x.meshes)) e plan) s.description v)

good_same : (x y : Inputs) → SameInputs x y → (plan : GivenPlan) → IsGoodPlan x plan → IsGoodPlan y plan
good_same x y s plan good =
    subst (λ (d : Description). Valid (scene_of y) d.grid plan.file.plan) s.description (valid_same x y s x.description.grid plan.file.plan good)

one_plan : (x y : Inputs) → SameInputs x y → (p q : GivenPlan) → x.plan ≡ Some p → y.plan ≡ Some q → p ≡ q
one_plan x y s p q e f = inside p q (sym e ∙ s.plan ∙ f)
  where
    inside : (p q : GivenPlan) → Some p ≡ Some q → p ≡ q
    inside p q e = cc

judged_same : (x y : Inputs) → SameInputs x y → (judgement : Judgement) → IsJudgedAs x judgement → IsJudgedAs y judgement
judged_same x y s judgement o = record { plan = o.plan; named = sym s.plan ∙ o.named; job = o.job; is_job = job_same x y s o.job o.is_job; is = o.is }

-- ---- no plan is valid
module _ (files : List MemFile) (a : Asked) (notes text : List ℕ) (n : HasNoPlan (Some files) a) where
  none_of : (x : Inputs) → SameInputs x n.inputs → (e : ℕ) (plan : Plan) → Valid (scene_of x) e plan → ⊥
  none_of x s e plan v = n.none e plan (valid_same x n.inputs s e plan v)

  pub done_none : Answers (Some files) a Done notes text → ⊥
  done_none x = by a.task n.arranges x.prints
    where
      same : SameInputs x.inputs n.inputs
      same = same_inputs files a x.inputs n.inputs x.usable x.only_plan n.usable

      by : (task : Task) → Arranges task → Prints task x.inputs Done text → ⊥
      by (Tasks.Arrange strict budget) r p = none_of x.inputs same x.inputs.description.grid p.plan p.valid
      by (Tasks.Least strict budget) r p = none_of x.inputs same p.extent p.plan p.valid
      by Tasks.Audit r p = r
      by Tasks.Check r p = r
      by Tasks.Slices r p = r

  pub open_none : Answers (Some files) a Open notes text → ⊥
  open_none x = by a.task n.arranges x.prints
    where
      same : SameInputs x.inputs n.inputs
      same = same_inputs files a x.inputs n.inputs x.usable x.only_plan n.usable

      by : (task : Task) → Arranges task → Prints task x.inputs Open text → ⊥
      by (Tasks.Arrange strict budget) r p = p
      by (Tasks.Least strict budget) r p = none_of x.inputs same p.extent p.plan p.valid
      by Tasks.Audit r p = r
      by Tasks.Check r p = r
      by Tasks.Slices r p = r

-- a plan that is sought has no fault
pub fault_sought : (files : List MemFile) (a : Asked) (notes text : List ℕ) → Arranges a.task → Answers (Some files) a Fault notes text → ⊥
fault_sought files a notes text r x = by a.task r x.prints
  where
    by : (task : Task) → Arranges task → Prints task x.inputs Fault text → ⊥
    by (Tasks.Arrange strict budget) r p = p
    by (Tasks.Least strict budget) r p = p
    by Tasks.Audit r p = r
    by Tasks.Check r p = r
    by Tasks.Slices r p = r

-- ---- enough budget
not_wide : (job : Job) (e : ℕ) (note : WideNote) (tree : Tree) → HasNoWideWalk job e → IsWideEnd job e note tree → ⊥
not_wide job e note tree narrow w =
    narrow w.noted.path (stands_at_path job e tree note.node w.noted.path w.unfinished w.noted.path_is) (note.basis, note.row, w.noted.wide)

not_caused : (job : Job) (budget e : ℕ) (cause : Cause) (IsSought : ℕ → Type 0) → IsEnough job budget IsSought → IsSought e → IsCause job e budget cause
    → (IsBudgetCause cause → (full : ℕ) → Full job full → budget < full) → ⊥
not_caused job budget e (Causes.Budget tree) IsSought enough sought c below = (let low = below tt enough.full enough.is_full in absurd (omega (arith, low, enough.within)))
not_caused job budget e (Causes.Wide note tree) IsSought enough sought c below = not_wide job e note tree (enough.narrow e sought) c

undecided_by : (x : Inputs) (budget : ℕ) (text : List ℕ) (IsSought : Job → ℕ → Type 0) → ((job : Job) → IsJobOf x.description x.meshes job → IsEnough job budget (IsSought job))
    → ((job : Job) → IsJobOf x.description x.meshes job → IsSought job x.description.grid) → PrintsUndecided x budget text → ⊥
undecided_by x budget text IsSought enough sought (inl s) = (let e = enough s.job s.is_job in let below = s.below_full e.full e.is_full in absurd (omega (arith, below, e.within)))
undecided_by x budget text IsSought enough sought (inr w) = not_wide w.job x.description.grid w.note w.tree ((enough w.job w.is_job).narrow x.description.grid (sought w.job w.is_job)) w.end

grid_of : (x : Inputs) (job : Job) → IsJobOf x.description x.meshes job → x.description.grid ≡ job.printer.grid
grid_of x job j = sym (ap (λ (d : Description). d.grid) j.printer.numbers)

module _ (files : List MemFile) (a : Asked) (notes text : List ℕ) (n : HasEnough (Some files) a) where
  enough_for : (x : Inputs) → SameInputs x n.inputs → (job : Job) → IsJobOf x.description x.meshes job → IsEnoughFor a.task job
  enough_for x s job j = n.enough job (job_same x n.inputs s job j)

  pub undecided_enough : Answers (Some files) a Undecided notes text → ⊥
  undecided_enough x = by a.task n.arranges (enough_for x.inputs (same_inputs files a x.inputs n.inputs x.usable x.only_plan n.usable)) x.prints
    where
      by : (task : Task) → Arranges task → ((job : Job) → IsJobOf x.inputs.description x.inputs.meshes job → IsEnoughFor task job) → Prints task x.inputs Undecided text → ⊥
      by (Tasks.Arrange strict budget) r enough p = undecided_by x.inputs budget text (λ job e. e ≡ job.printer.grid) enough (grid_of x.inputs) p.undecided
      by (Tasks.Least strict budget) r enough p = undecided_by x.inputs budget text (λ job e. (1 ≤ e) × (e ≤ job.printer.grid)) enough sought p
        where
          sought : (job : Job) → IsJobOf x.inputs.description x.inputs.meshes job → (1 ≤ x.inputs.description.grid) × (x.inputs.description.grid ≤ job.printer.grid)
          sought job j = (let same = grid_of x.inputs job j in (omega (arith, same, job.printer.ranged.grid_low), omega (arith, same)))
      by Tasks.Audit r enough p = r
      by Tasks.Check r enough p = r
      by Tasks.Slices r enough p = r

  pub open_enough : Answers (Some files) a Open notes text → ⊥
  open_enough x = by a.task n.arranges (enough_for x.inputs (same_inputs files a x.inputs n.inputs x.usable x.only_plan n.usable)) x.prints
    where
      by : (task : Task) → Arranges task → ((job : Job) → IsJobOf x.inputs.description x.inputs.meshes job → IsEnoughFor task job) → Prints task x.inputs Open text → ⊥
      by (Tasks.Arrange strict budget) r enough p = p
      by (Tasks.Least strict budget) r enough p =
          not_caused p.job budget (p.extent - 1) p.cause (λ e. (1 ≤ e) × (e ≤ p.job.printer.grid)) (enough p.job p.is_job)
          (omega (arith, p.outcome.from_two), omega (arith, p.outcome.found.valid.to_grid)) p.outcome.below p.below_full
      by Tasks.Audit r enough p = r
      by Tasks.Check r enough p = r
      by Tasks.Slices r enough p = r

-- ---- plans that are given
abbrev IsGiven : Task → Type 0
IsGiven (Tasks.Arrange strict budget) = ⊥
IsGiven (Tasks.Least strict budget) = ⊥
IsGiven Tasks.Audit = Unit {0}
IsGiven Tasks.Check = Unit {0}
IsGiven Tasks.Slices = ⊥

faulty_given : (task : Task) (inputs : Inputs) → IsFaulty task inputs → IsGiven task
faulty_given (Tasks.Arrange strict budget) inputs f = f
faulty_given (Tasks.Least strict budget) inputs f = f
faulty_given Tasks.Audit inputs f = tt
faulty_given Tasks.Check inputs f = tt
faulty_given Tasks.Slices inputs f = f

faultless_given : (task : Task) (inputs : Inputs) → IsFaultless task inputs → IsGiven task
faultless_given (Tasks.Arrange strict budget) inputs f = f
faultless_given (Tasks.Least strict budget) inputs f = f
faultless_given Tasks.Audit inputs f = tt
faultless_given Tasks.Check inputs f = tt
faultless_given Tasks.Slices inputs f = f

-- what only a search answers
abbrev pub IsSearched : Verdict → Type 0
IsSearched Done = ⊥
IsSearched NoPlan = Unit {0}
IsSearched Open = Unit {0}
IsSearched Undecided = Unit {0}
IsSearched Fault = ⊥

not_searched : (task : Task) (inputs : Inputs) (v : Verdict) (text : List ℕ) → IsGiven task → IsSearched v → Prints task inputs v text → ⊥
not_searched (Tasks.Arrange strict budget) inputs v text g s p = g
not_searched (Tasks.Least strict budget) inputs v text g s p = g
not_searched Tasks.Slices inputs v text g s p = g
not_searched Tasks.Audit inputs Done text g s p = s
not_searched Tasks.Audit inputs NoPlan text g s p = p
not_searched Tasks.Audit inputs Open text g s p = p
not_searched Tasks.Audit inputs Undecided text g s p = p
not_searched Tasks.Audit inputs Fault text g s p = s
not_searched Tasks.Check inputs Done text g s p = s
not_searched Tasks.Check inputs NoPlan text g s p = p
not_searched Tasks.Check inputs Open text g s p = p
not_searched Tasks.Check inputs Undecided text g s p = p
not_searched Tasks.Check inputs Fault text g s p = s

pub searched_faulty : (files : List MemFile) (a : Asked) (v : Verdict) (notes text : List ℕ) → HasFaultyPlan (Some files) a → IsSearched v → Answers (Some files) a v notes text → ⊥
searched_faulty files a v notes text n s x = not_searched a.task x.inputs v text (faulty_given a.task n.inputs n.faulty) s x.prints

pub searched_faultless : (files : List MemFile) (a : Asked) (v : Verdict) (notes text : List ℕ) → HasFaultlessPlan (Some files) a → IsSearched v → Answers (Some files) a v notes text → ⊥
searched_faultless files a v notes text n s x = not_searched a.task x.inputs v text (faultless_given a.task n.inputs n.faultless) s x.prints

pub done_faulty : (files : List MemFile) (a : Asked) (notes text : List ℕ) → HasFaultyPlan (Some files) a → Answers (Some files) a Done notes text → ⊥
done_faulty files a notes text n x = by a.task n.faulty x.prints
  where
    same : SameInputs x.inputs n.inputs
    same = same_inputs files a x.inputs n.inputs x.usable x.only_plan n.usable

    back : SameInputs n.inputs x.inputs
    back = turned files a x.inputs n.inputs x.usable x.only_plan n.usable

    by : (task : Task) → IsFaulty task n.inputs → Prints task x.inputs Done text → ⊥
    by (Tasks.Arrange strict budget) f p = f
    by (Tasks.Least strict budget) f p = f
    by Tasks.Audit f p = f.bad (subst (IsGoodPlan n.inputs) (one_plan x.inputs n.inputs same p.plan f.plan p.named f.named) (good_same x.inputs n.inputs same p.plan p.good))
    by Tasks.Check f p = absurd (cc (p.only (Judgements.Fails f.0) (judged_same n.inputs x.inputs back (Judgements.Fails f.0) f.1)))
    by Tasks.Slices f p = f

pub fault_faultless : (files : List MemFile) (a : Asked) (notes text : List ℕ) → HasFaultlessPlan (Some files) a → Answers (Some files) a Fault notes text → ⊥
fault_faultless files a notes text n x = by a.task n.faultless x.prints
  where
    back : SameInputs n.inputs x.inputs
    back = turned files a x.inputs n.inputs x.usable x.only_plan n.usable

    by : (task : Task) → IsFaultless task n.inputs → Prints task x.inputs Fault text → ⊥
    by (Tasks.Arrange strict budget) f p = f
    by (Tasks.Least strict budget) f p = f
    by Tasks.Audit f p = p.not_good (subst (IsGoodPlan x.inputs) (one_plan n.inputs x.inputs back f.plan p.plan f.named p.named) (good_same n.inputs x.inputs back f.plan f.good))
    by Tasks.Check f p = absurd (cc (p.only (Judgements.Passes f.0) (judged_same n.inputs x.inputs back (Judgements.Passes f.0) f.1)))
    by Tasks.Slices f p = f
