-- The job of the files.
--
--   IsObjectFor printer m o    the object is that of this mesh
--   IsJobOf d ms job           the job is that of a description and these meshes, an object each, in their order
--   IsLoaded files a job plan notes   the files can be used, and this is their job, their plan, which is the only one, and their notes
use Rattle.std.specs.Prelude.{◌≡◌, ℕ, List, Option}
use Rattle.std.specs.List.{AllZip}
use Rattle.mesh_slices.specs.Objects.{IsObjectOf}
use Rattle.seq_io.specs.declared.mem_file.MemFile.{MemFile}
use Rattle.seq_model.specs.Scenes.{Description}
use Rattle.seq_model.specs.declared.job.Job.{Job}
use Rattle.seq_model.specs.declared.job.Object.{Object}
use Rattle.seq_model.specs.declared.printer.Printer.{Printer}
use Rattle.run_files.specs.Files.{AreUsable, Inputs, IsOnlyPlan, IsPrinterFor, NamedMesh}
use Rattle.run_files.specs.Notes.{AreNotesFor}
use Rattle.run_files.specs.declared.plans.GivenPlan.{GivenPlan}
use Rattle.run_files.specs.declared.words.Asked.{Asked}

abbrev pub IsObjectFor : Printer → NamedMesh → Object → Type 0
IsObjectFor printer m o = IsObjectOf m.name m.facets printer o

-- a printer for the description, and the objects of the meshes in their order
pub record IsJobOf (d : Description) (meshes : List NamedMesh) (job : Job) : Type 0 where
  pub printer : IsPrinterFor d job.printer
  pub objects : AllZip (IsObjectFor job.printer) meshes job.objects

pub record IsLoaded (files : Option (List MemFile)) (a : Asked) (job : Job) (plan : Option GivenPlan) (notes : List ℕ) : Type 0 where
  pub inputs : Inputs
  pub usable : AreUsable files a inputs
  pub is_job : IsJobOf inputs.description inputs.meshes job
  pub is_plan : plan ≡ inputs.plan
  pub only_plan : IsOnlyPlan files a inputs.plan
  pub are_notes : AreNotesFor a.task inputs.meshes notes
