-- What the loop over the meshes of a run keeps. Only contracts of the crate's own functions speak of it.
--
--   last_before a k             the last file before the mesh of number k
--   NextPlan plan s s'          the plan file of this name was read, alone, from s on; nothing was started where none is named
--   IsFitted files task name printer o notes   the file of that name is a mesh that can be used, with this object and this note
--   Loading a printer plan k s s' objects notes   the files before the mesh of number k were read and can be used, and they give this
use Rattle.std.specs.Prelude.{◌≡◌, ℕ, zero, suc, List, take, Option, Some, None}
use Rattle.std.specs.List.{AllZip}
use Rattle.seq_io.specs.Views.{ShelfView}
use Rattle.seq_io.specs.declared.mem_file.MemFile.{MemFile}
use Rattle.seq_model.specs.Scenes.{Description}
use Rattle.seq_model.specs.declared.job.Object.{Object}
use Rattle.seq_model.specs.declared.printer.Printer.{Printer as Machine}
use Rattle.run_files.specs.Files.{HasNamedPlan, IsOnlyPlan, IsPrinterFile, IsPrinterFor, IsUsableMesh, NamedMesh}
use Rattle.run_files.specs.Jobs.{IsObjectFor}
use Rattle.run_files.specs.Notes.{AreNotesFor, IsNoteFor}
use Rattle.run_files.specs.Stops.{NextRead, ReadUpTo, WantsMemory, more, place_of}
use Rattle.run_files.specs.Words.{is_strict}
use Rattle.run_files.specs.declared.plans.GivenPlan.{GivenPlan}
use Rattle.run_files.specs.declared.stop.NamedFile.{NamedFile}
use Rattle.run_files.specs.declared.stop.NamedFile.TheVariants.{Printer, Plan, Mesh}
use Rattle.run_files.specs.declared.words.Asked.{Asked}
use Rattle.run_files.specs.declared.words.Task.{Task}

abbrev pub last_of_head : Option (List ℕ) → NamedFile
last_of_head None = Printer
last_of_head (Some plan) = Plan

abbrev pub last_before : Asked → ℕ → NamedFile
last_before a zero = last_of_head a.plan
last_before a (suc k) = Mesh k

abbrev pub NextPlan : Option (List ℕ) → ShelfView → ShelfView → Type 0
NextPlan None s s' = s' ≡ s
NextPlan (Some name) s s' = NextRead name s s'

pub record IsFitted (files : Option (List MemFile)) (task : Task) (name : List ℕ) (printer : Machine) (o : Object) (notes : List ℕ) : Type 0 where
  pub mesh : NamedMesh
  pub usable : IsUsableMesh files (is_strict task) printer.step name mesh
  pub object : IsObjectFor printer mesh o
  pub note : IsNoteFor task mesh notes

pub record Loading (a : Asked) (printer : Machine) (plan : Option GivenPlan) (k : ℕ) (s s' : ShelfView) (objects : List Object) (notes : List ℕ) : Type 0 where
  pub files : s'.files ≡ s.files
  pub starts : s'.starts ≡ more (place_of a (Mesh k)) s.starts
  pub read : ReadUpTo a (last_before a k) s s'
  pub reached : WantsMemory a s s'
  pub description : Description
  pub stated : IsPrinterFile s.files a.printer description
  pub fits : IsPrinterFor description printer
  pub is_plan : HasNamedPlan s.files a.task a.plan plan
  pub only_plan : IsOnlyPlan s.files a plan
  pub meshes : List NamedMesh
  pub each : AllZip (IsUsableMesh s.files (is_strict a.task) description.step) (take k a.meshes) meshes
  pub are_objects : AllZip (IsObjectFor printer) meshes objects
  pub are_notes : AreNotesFor a.task meshes notes
