-- What the files hold that a run reads, and when they can be used.
--
--   name_in a file                    the word that names the file, nothing where no word does
--   limit_of file                     the most bytes that the file may have
--   IsPrinterFile files name d        the file of that name states the description d, within its limit
--   StatesPlan files task name plan   the file of that name states this plan, as far as the task reads it, within its limit
--   HasNamedPlan files task name plan the same of the file that the words name as a plan, where they name one
--   IsOnlyPlan files a plan           files that are told state no other plan by the name that the words give
--   IsMeshFile files name fs dropped  the file of that name is a mesh of these facets, within its limit
--   PassesStrict strict facets        where the run is strict, the mesh is closed and looks outward
--   IsPrinterFor d printer            the printer has the numbers of the description, and its parts with the corners of their hulls
--   IsPrinterOf files name printer    the file of that name states a description, and the printer is one for it
--   IsUsableMesh files strict step name m   the file of that name is the mesh m, and it can be used
--   Inputs                            what the files say: a description, a plan where one is named, and the meshes in word order
--   AreUsable files a inputs          the files that the words name say this, and they can be used
--   mesh_of name facets dropped       a mesh that was read, with its name
--   facets_of meshes                  the facets of each
use Rattle.std.specs.Prelude.{◌≡◌, ℕ, ℤ, Bool, true, ◌≤◌, ◌^◌, ◌*◌, List, [], length, map, slice_get, Option, Some, None}
use Rattle.std.specs.List.{AllZip}
use Rattle.mesh_checks.specs.Edges.{open_edges}
use Rattle.mesh_checks.specs.Verdicts.{IsClosedOutward}
use Rattle.mesh_checks.specs.Volumes.{six_volume}
use Rattle.mesh_slices.specs.Objects.{CanBeSliced}
use Rattle.printer_text.specs.Printers.{DescribedBy, AreKept}
use Rattle.seq_io.specs.Files.{GivesFile}
use Rattle.seq_io.specs.declared.mem_file.MemFile.{MemFile}
use Rattle.seq_model.specs.Scenes.{Description, description_of}
use Rattle.seq_model.specs.declared.mesh.Facet.{Facet}
use Rattle.seq_model.specs.declared.printer.Printer.{Printer}
use Rattle.stl_text.specs.Meshes.{MeshOf}
use Rattle.run_files.specs.Plans.{IsStatedBy}
use Rattle.run_files.specs.Words.{is_strict}
use Rattle.run_files.specs.declared.plans.GivenPlan.{GivenPlan}
use Rattle.run_files.specs.declared.stop.NamedFile.{NamedFile}
use Rattle.run_files.specs.declared.stop.NamedFile.TheVariants as Named
use Rattle.run_files.specs.declared.words.Asked.{Asked}
use Rattle.run_files.specs.declared.words.Task.{Task}

abbrev pub name_or : Option (List ℕ) → List ℕ
name_or None = []
name_or (Some name) = name

abbrev pub name_in : Asked → NamedFile → List ℕ
name_in a Named.Printer = a.printer
name_in a Named.Plan = name_or a.plan
name_in a (Named.Mesh k) = name_or (slice_get a.meshes k)

-- 1 MiB for a description, 256 MiB for a plan, 64 MiB for a mesh
abbrev pub printer_limit : ℕ
printer_limit = 2 ^ 20

abbrev pub plan_limit : ℕ
plan_limit = 256 * 2 ^ 20

abbrev pub mesh_limit : ℕ
mesh_limit = 64 * 2 ^ 20

abbrev pub limit_of : NamedFile → ℕ
limit_of Named.Printer = printer_limit
limit_of Named.Plan = plan_limit
limit_of (Named.Mesh k) = mesh_limit

pub record IsPrinterFile (files : Option (List MemFile)) (name : List ℕ) (d : Description) : Type 0 where
  pub bytes : List ℕ
  pub gives : GivesFile files name bytes
  pub short : length bytes ≤ printer_limit
  pub is : DescribedBy bytes d

pub record StatesPlan (files : Option (List MemFile)) (task : Task) (name : List ℕ) (plan : GivenPlan) : Type 0 where
  pub bytes : List ℕ
  pub gives : GivesFile files name bytes
  pub short : length bytes ≤ plan_limit
  pub is : IsStatedBy task bytes plan

abbrev pub HasNamedPlan : Option (List MemFile) → Task → Option (List ℕ) → Option GivenPlan → Type 0
HasNamedPlan files task None None = Unit {0}
HasNamedPlan files task None (Some plan) = ⊥
HasNamedPlan files task (Some name) None = ⊥
HasNamedPlan files task (Some name) (Some plan) = StatesPlan files task name plan

pub record IsOnlyPlan (files : Option (List MemFile)) (a : Asked) (plan : Option GivenPlan) : Type 0 where
  pub same : (told : List MemFile) → files ≡ Some told → (other : Option GivenPlan) → HasNamedPlan (Some told) a.task a.plan other → other ≡ plan

pub record IsMeshFile (files : Option (List MemFile)) (name : List ℕ) (facets : List Facet) (dropped : ℕ) : Type 0 where
  pub bytes : List ℕ
  pub gives : GivesFile files name bytes
  pub short : length bytes ≤ mesh_limit
  pub is : MeshOf bytes facets dropped

pub record PassesStrict (strict : Bool) (facets : List Facet) : Type 0 where
  pub closed : strict ≡ true → IsClosedOutward (open_edges facets) (six_volume facets)

pub record IsPrinterFor (d : Description) (printer : Printer) : Type 0 where
  pub numbers : description_of printer d.parts ≡ d
  pub parts : AreKept d.parts printer.parts

pub record IsPrinterOf (files : Option (List MemFile)) (name : List ℕ) (printer : Printer) : Type 0 where
  pub description : Description
  pub is : IsPrinterFile files name description
  pub fits : IsPrinterFor description printer

-- a mesh that was read, with the word that names it
pub record NamedMesh : Type 0 where
  pub name : List ℕ
  pub facets : List Facet
  pub dropped : ℕ

abbrev pub mesh_of : List ℕ → List Facet → ℕ → NamedMesh
mesh_of name facets dropped = record { name = name; facets = facets; dropped = dropped }

abbrev pub facets_of : List NamedMesh → List (List Facet)
facets_of meshes = map (λ m. m.facets) meshes

pub record IsUsableMesh (files : Option (List MemFile)) (strict : Bool) (step : ℤ) (name : List ℕ) (m : NamedMesh) : Type 0 where
  pub named : m.name ≡ name
  pub is : IsMeshFile files name m.facets m.dropped
  pub passes : PassesStrict strict m.facets
  pub slices : CanBeSliced m.facets step

pub record Inputs : Type 0 where
  pub description : Description
  pub plan : Option GivenPlan
  pub meshes : List NamedMesh

pub record AreUsable (files : Option (List MemFile)) (a : Asked) (inputs : Inputs) : Type 0 where
  pub printer : IsPrinterFile files a.printer inputs.description
  pub plan : HasNamedPlan files a.task a.plan inputs.plan
  pub each : AllZip (IsUsableMesh files (is_strict a.task) inputs.description.step) a.meshes inputs.meshes
