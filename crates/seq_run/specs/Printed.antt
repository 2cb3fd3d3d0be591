-- What a run answers, over the bytes of the files.
--
--   PrintsSlices d ms text         the text is that of the bands and zones of the object of the one mesh
--   PrintsUndecided inputs b text  the text says why the whole plate is left undecided
--   PrintsUnfound inputs b text    so does it, and the plan of the zero point isn't valid in any order: else it is found
--   Prints task inputs v text      the text is one that the task prints with this verdict
--   Answers files a v notes text   the files can be used, and state one plan at most; the text is one of this verdict for them, and
--                                  these are the notes
use Rattle.std.specs.Prelude.{◌≡◌, ◌⊎◌, ℕ, List, [], ◌∷◌, Option}
use Rattle.node_looks.specs.Looks.{HasZeroPlan}
use Rattle.run_files.specs.Files.{AreUsable, Inputs, IsOnlyPlan, IsPrinterFor, NamedMesh}
use Rattle.run_files.specs.Jobs.{IsJobOf, IsObjectFor}
use Rattle.run_files.specs.Notes.{AreNotesFor}
use Rattle.run_files.specs.declared.words.Asked.{Asked}
use Rattle.run_files.specs.declared.words.Task.{Task}
use Rattle.run_files.specs.declared.words.Task.TheVariants as Tasks
use Rattle.seq_io.specs.declared.mem_file.MemFile.{MemFile}
use Rattle.seq_model.specs.Scenes.{Description}
use Rattle.seq_model.specs.declared.job.Job.{Job}
use Rattle.seq_model.specs.declared.job.Object.{Object}
use Rattle.seq_model.specs.declared.printer.Printer.{Printer}
use Rattle.seq_run.specs.Arranged.{PrintsLeast, PrintsNone, PrintsOpen, PrintsPlan, PrintsSpent, PrintsWide}
use Rattle.seq_run.specs.Judged.{PrintsClaimFault, PrintsGood, PrintsPass, PrintsPlanFault}
use Rattle.seq_run.specs.declared.status.Verdict.{Verdict}
use Rattle.seq_run.specs.declared.status.Verdict.TheVariants as Verdicts
use Rattle.slice_text.specs.SlicesText.{slices_text}

pub record PrintsSlices (d : Description) (meshes : List NamedMesh) (text : List ℕ) : Type 0 where
  pub printer : Printer
  pub printer_is : IsPrinterFor d printer
  pub mesh : NamedMesh
  pub one : meshes ≡ mesh ∷ []
  pub object : Object
  pub object_is : IsObjectFor printer mesh object
  pub is : text ≡ slices_text object

abbrev pub PrintsUndecided : Inputs → ℕ → List ℕ → Type 0
PrintsUndecided inputs budget text = PrintsSpent inputs.description inputs.meshes budget text ⊎ PrintsWide inputs.description inputs.meshes text

pub record PrintsUnfound (inputs : Inputs) (budget : ℕ) (text : List ℕ) : Type 0 where
  pub undecided : PrintsUndecided inputs budget text
  pub job : Job
  pub is_job : IsJobOf inputs.description inputs.meshes job
  pub no_zero_plan : HasZeroPlan job inputs.description.grid → ⊥

abbrev pub Prints : Task → Inputs → Verdict → List ℕ → Type 0
Prints (Tasks.Arrange strict budget) inputs Verdicts.Done text = PrintsPlan inputs.description inputs.meshes text
Prints (Tasks.Arrange strict budget) inputs Verdicts.NoPlan text = PrintsNone inputs.description inputs.meshes budget text
Prints (Tasks.Arrange strict budget) inputs Verdicts.Open text = ⊥
Prints (Tasks.Arrange strict budget) inputs Verdicts.Undecided text = PrintsUnfound inputs budget text
Prints (Tasks.Arrange strict budget) inputs Verdicts.Fault text = ⊥
Prints (Tasks.Least strict budget) inputs Verdicts.Done text = PrintsLeast inputs.description inputs.meshes budget text
Prints (Tasks.Least strict budget) inputs Verdicts.NoPlan text = PrintsNone inputs.description inputs.meshes budget text
Prints (Tasks.Least strict budget) inputs Verdicts.Open text = PrintsOpen inputs.description inputs.meshes budget text
Prints (Tasks.Least strict budget) inputs Verdicts.Undecided text = PrintsUndecided inputs budget text
Prints (Tasks.Least strict budget) inputs Verdicts.Fault text = ⊥
Prints Tasks.Audit inputs Verdicts.Done text = PrintsGood inputs text
Prints Tasks.Audit inputs Verdicts.NoPlan text = ⊥
Prints Tasks.Audit inputs Verdicts.Open text = ⊥
Prints Tasks.Audit inputs Verdicts.Undecided text = ⊥
Prints Tasks.Audit inputs Verdicts.Fault text = PrintsPlanFault inputs text
Prints Tasks.Check inputs Verdicts.Done text = PrintsPass inputs text
Prints Tasks.Check inputs Verdicts.NoPlan text = ⊥
Prints Tasks.Check inputs Verdicts.Open text = ⊥
Prints Tasks.Check inputs Verdicts.Undecided text = ⊥
Prints Tasks.Check inputs Verdicts.Fault text = PrintsClaimFault inputs text
Prints Tasks.Slices inputs Verdicts.Done text = PrintsSlices inputs.description inputs.meshes text
Prints Tasks.Slices inputs Verdicts.NoPlan text = ⊥
Prints Tasks.Slices inputs Verdicts.Open text = ⊥
Prints Tasks.Slices inputs Verdicts.Undecided text = ⊥
Prints Tasks.Slices inputs Verdicts.Fault text = ⊥

pub record Answers (files : Option (List MemFile)) (a : Asked) (verdict : Verdict) (notes text : List ℕ) : Type 0 where
  pub inputs : Inputs
  pub usable : AreUsable files a inputs
  pub only_plan : IsOnlyPlan files a inputs.plan
  pub prints : Prints a.task inputs verdict text
  pub note : AreNotesFor a.task inputs.meshes notes
