-- What the loop over the made files keeps. Only contracts of the crate's own functions speak of it.
--
--   IsUsableFile file, AreUsableFiles files    the file is read as a mesh that can be sliced, and so is each
--   IsMadePrinter printer                      the printer is one for the made description
--   IsMadeObject printer file o facets         the object is that of the file's mesh, of which so many facets were read
--   AreMadeObjects printer files objects facets    the same of the files, in their order
use Rattle.std.specs.Prelude.{◌≡◌, ℕ, ◌+◌, pos, List, [], ◌∷◌, length}
use Rattle.std.specs.List.{AllZip}
use Rattle.printer_text.specs.Printers.{DescribedBy}
use Rattle.run_files.specs.Files.{IsPrinterFor, NamedMesh}
use Rattle.run_files.specs.Jobs.{IsObjectFor}
use Rattle.seq_io.specs.declared.mem_file.MemFile.{MemFile}
use Rattle.seq_model.specs.Scenes.{Description}
use Rattle.seq_model.specs.declared.job.Object.{Object}
use Rattle.seq_model.specs.declared.printer.Printer.{Printer}
use Rattle.seq_trial.specs.Towers.{printer_text}
use Rattle.trial_job.specs.Trials.{IsMeshOfFile, facet_count}
use Rattle.trial_laws.specs.Made.{IsMadeMesh}

pub record IsUsableFile (file : MemFile) : Type 0 where
  pub count : ℕ
  pub is : IsMadeMesh file.bytes count

abbrev pub AreUsableFiles : List MemFile → Type 0
AreUsableFiles [] = Unit {0}
AreUsableFiles (file ∷ files) = IsUsableFile file × AreUsableFiles files

pub record IsMadePrinter (printer : Printer) : Type 0 where
  pub description : Description
  pub described : DescribedBy printer_text description
  pub fits : IsPrinterFor description printer
  pub step : printer.step ≡ pos 10_000

pub record IsMadeObject (printer : Printer) (file : MemFile) (o : Object) (facets : ℕ) : Type 0 where
  pub mesh : NamedMesh
  pub is : IsMeshOfFile file mesh
  pub object : IsObjectFor printer mesh o
  pub counted : facets ≡ length mesh.facets + mesh.dropped

pub record AreMadeObjects (printer : Printer) (files : List MemFile) (objects : List Object) (facets : ℕ) : Type 0 where
  pub meshes : List NamedMesh
  pub each : AllZip IsMeshOfFile files meshes
  pub objects_are : AllZip (IsObjectFor printer) meshes objects
  pub counted : facets ≡ facet_count meshes
