-- What the parts of a run give is an answer over its files.
use Rattle.std.proofs.Common.{◌≡◌, ℕ, zero, suc, List, [], ◌∷◌, length, Option, Some, None, refl, sym, ap, ◌∙◌, subst}
use Rattle.std.specs.List.{AllZip}
use Rattle.audit_text.specs.AuditText.{audit_text, hit_line, name_of, object_of}
use Rattle.mesh_slices.specs.Laws.AgreeingJobs.{agree_with_job}
use Rattle.mesh_slices.specs.Laws.Agreeing.{agree_back}
use Rattle.plan_audit.specs.Faults.{IsVerdict}
use Rattle.plan_audit.specs.declared.verdict.Verdict.{Verdict as Audit}
use Rattle.plan_audit.specs.declared.verdict.Verdict.TheVariants as Audits
use Rattle.printer_text.specs.Printers.{AreKept}
use Rattle.run_files.specs.Files.{HasNamedPlan, Inputs, NamedMesh, facets_of}
use Rattle.run_files.specs.Jobs.{IsJobOf, IsLoaded}
use Rattle.run_files.specs.Laws.Made.{made_from, same_plans}
use Rattle.run_files.specs.Words.{IsManyFor, IsRequest, NamesPlan}
use Rattle.run_files.specs.declared.plans.GivenPlan.{GivenPlan}
use Rattle.run_files.specs.declared.words.Asked.{Asked}
use Rattle.run_files.specs.declared.words.Task.{Task}
use Rattle.run_files.specs.declared.words.Task.TheVariants as Tasks
use Rattle.seq_io.specs.declared.mem_file.MemFile.{MemFile}
use Rattle.seq_model.specs.Jobs.{scene_of_job}
use Rattle.seq_model.specs.Scenes.{Description, Valid, description_of, scene_of_files}
use Rattle.seq_model.specs.declared.job.Job.{Job}
use Rattle.seq_model.specs.declared.plan.Place.{Place}
use Rattle.seq_model.specs.declared.plan.Plan.{Plan}
use Rattle.seq_model.specs.declared.printer.Part.{Part}
use Rattle.seq_run.specs.Planning.{CanWorkOn, HasPlanFor, PrintsFor, verdict_of_audit}
use Rattle.seq_run.specs.Judged.{PrintsPlanFault, PrintsGood, scene_of}
use Rattle.seq_run.specs.Printed.{Answers}
use Rattle.seq_run.specs.declared.status.Verdict.{Verdict}
use Rattle.seq_run.proofs.Audited.{same_verdict}
use Rattle.seq_run.proofs.Claimed.{can_be_judged}

-- ---- the text of an audit
name_kept : (parts keeps : List Part) → AreKept parts keeps → (k : ℕ) → name_of keeps k ≡ name_of parts k
name_kept [] [] z k = refl
name_kept [] (x ∷ keeps) z k = absurd z
name_kept (p ∷ parts) [] z k = absurd z
name_kept (p ∷ parts) (x ∷ keeps) z zero = z.0.name
name_kept (p ∷ parts) (x ∷ keeps) z (suc k) = name_kept parts keeps z.1 k

text_kept : (parts keeps : List Part) → AreKept parts keeps → (places : List Place) (v : Audit) → audit_text keeps places v ≡ audit_text parts places v
text_kept parts keeps z places Audits.Good = refl
text_kept parts keeps z places (Audits.Stray k) = refl
text_kept parts keeps z places (Audits.Absent o) = refl
text_kept parts keeps z places (Audits.OffPlate k) = refl
text_kept parts keeps z places (Audits.Collides h) = subst (λ n. audit_text keeps places (Audits.Collides h) ≡ hit_line (object_of places h.earlier) (object_of places h.later) h.c h.b h.part n) (name_kept parts keeps z h.part) refl

-- the verdict of the job is that of the scene of its files
verdict_of_files : (d : Description) (meshes : List NamedMesh) (job : Job) → IsJobOf d meshes job → (e : ℕ) (plan : Plan) (v : Audit) → IsVerdict (scene_of_job job) e plan v → IsVerdict (scene_of_files d (facets_of meshes)) e plan v
verdict_of_files d meshes job j e plan v is =
    let files = scene_of_files (description_of job.printer d.parts) (facets_of meshes) in
    let agree = agree_with_job d.parts (facets_of meshes) job (made_from d meshes job j) in
    subst (λ (x : Description). IsVerdict (scene_of_files x (facets_of meshes)) e plan v) j.printer.numbers
    (same_verdict (scene_of_job job) files (agree_back files (scene_of_job job) agree) e plan v is)

module _ (job : Job) (given : GivenPlan) (v : Audit) (text : List ℕ) (is_verdict : IsVerdict (scene_of_job job) job.printer.grid given.file.plan v)
    (is : text ≡ audit_text job.printer.parts given.file.plan.places v) (inputs : Inputs) (j : IsJobOf inputs.description inputs.meshes job) (named : inputs.plan ≡ Some given) where
  grid : job.printer.grid ≡ inputs.description.grid
  grid = ap (λ (x : Description). x.grid) j.printer.numbers

  verdict : IsVerdict (scene_of inputs) inputs.description.grid given.file.plan v
  verdict = subst (λ n. IsVerdict (scene_of inputs) n given.file.plan v) grid (verdict_of_files inputs.description inputs.meshes job j job.printer.grid given.file.plan v is_verdict)

  written : text ≡ audit_text inputs.description.parts given.file.plan.places v
  written = is ∙ text_kept inputs.description.parts job.printer.parts j.printer.parts given.file.plan.places v

  pub faulty : (Valid (scene_of_job job) job.printer.grid given.file.plan → ⊥) → PrintsPlanFault inputs text
  faulty bad = record {
    plan = given;
    named = named;
    not_good = λ good. bad ((same_plans inputs.description inputs.meshes job j job.printer.grid given.file.plan).0 (subst (λ n. Valid (scene_of inputs) n given.file.plan) (sym grid) good));
    fault = v;
    first = verdict;
    is = written;
  }

  pub fine : v ≡ Audits.Good → PrintsGood inputs text
  fine e = record {
    plan = given;
    named = named;
    good = subst (IsVerdict (scene_of inputs) inputs.description.grid given.file.plan) e verdict;
    is = subst (λ x. text ≡ audit_text inputs.description.parts given.file.plan.places x) e written;
  }

pub audit_for : (job : Job) (given : GivenPlan) (v : Audit) (text : List ℕ) → IsVerdict (scene_of_job job) job.printer.grid given.file.plan v → (Valid (scene_of_job job) job.printer.grid given.file.plan → v ≡ Audits.Good)
    → text ≡ audit_text job.printer.parts given.file.plan.places v → PrintsFor Tasks.Audit job (Some given) (verdict_of_audit v) text
audit_for job given Audits.Good text x good is = record { each = λ inputs j named. fine job given Audits.Good text x is inputs j named refl }
audit_for job given (Audits.Stray k) text x good is = record { each = λ inputs j named. faulty job given (Audits.Stray k) text x is inputs j named (λ valid. absurd (cc (good valid))) }
audit_for job given (Audits.Absent o) text x good is = record { each = λ inputs j named. faulty job given (Audits.Absent o) text x is inputs j named (λ valid. absurd (cc (good valid))) }
audit_for job given (Audits.OffPlate k) text x good is = record { each = λ inputs j named. faulty job given (Audits.OffPlate k) text x is inputs j named (λ valid. absurd (cc (good valid))) }
audit_for job given (Audits.Collides h) text x good is = record { each = λ inputs j named. faulty job given (Audits.Collides h) text x is inputs j named (λ valid. absurd (cc (good valid))) }

-- ---- what was loaded can be worked on
long : {A B : Type 0} (R : A → B → Type 0) (xs : List A) (ys : List B) → AllZip R xs ys → length xs ≡ length ys
long R [] [] z = refl
long R [] (b ∷ ys) z = absurd z
long R (a ∷ xs) [] z = absurd z
long R (a ∷ xs) (b ∷ ys) z = ap suc (long R xs ys z.1)

plan_for : (files : Option (List MemFile)) (task : Task) (named : Option (List ℕ)) (plan : Option GivenPlan) → NamesPlan task named → HasNamedPlan files task named plan → HasPlanFor task plan
plan_for files (Tasks.Arrange strict budget) named plan n h = tt
plan_for files (Tasks.Least strict budget) named plan n h = tt
plan_for files Tasks.Slices named plan n h = tt
plan_for files Tasks.Audit None plan n h = absurd (cc n)
plan_for files Tasks.Audit (Some name) None n h = absurd h
plan_for files Tasks.Audit (Some name) (Some plan) n h = h.is.is.spelled
plan_for files Tasks.Check None plan n h = absurd (cc n)
plan_for files Tasks.Check (Some name) None n h = absurd h
plan_for files Tasks.Check (Some name) (Some plan) n h = can_be_judged h.bytes plan h.is

pub can_work_on : (files : Option (List MemFile)) (a : Asked) (job : Job) (plan : Option GivenPlan) (notes : List ℕ) → IsRequest a → IsLoaded files a job plan notes → CanWorkOn a.task job plan
can_work_on files a job plan notes r l = record {
  many = subst (IsManyFor a.task) (long _ a.meshes l.inputs.meshes l.usable.each ∙ long _ l.inputs.meshes job.objects l.is_job.objects) r.many;
  budget = r.budget;
  has_plan = subst (HasPlanFor a.task) (sym l.is_plan) (plan_for files a.task a.plan l.inputs.plan r.plan l.usable.plan);
}

pub answered : (files : Option (List MemFile)) (a : Asked) (job : Job) (plan : Option GivenPlan) (notes text : List ℕ) (v : Verdict) → IsLoaded files a job plan notes → PrintsFor a.task job plan v text → Answers files a v notes text
answered files a job plan notes text v l p = record { inputs = l.inputs; usable = l.usable; only_plan = l.only_plan; prints = p.each l.inputs l.is_job (sym l.is_plan); note = l.are_notes }
