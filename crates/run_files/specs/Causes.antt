-- Why a run stops at its files. They are looked at in word order: the printer, the plan if one is named, and each only where
-- those before it can be used.
--
--   IsSomePrinter files name          the file of that name states some description
--   IsNoPrinter files name e          its bytes are within the limit, and no description for this cause
--   IsRefusedFile files name c        the printer's file is refused for this cause
--   HasNoBlock task bytes e           the bytes begin with the lines of a plan, and the block behind them, which the task reads, is
--                                     refused for this cause
--   IsPlanCause task bytes c          reading the bytes refuses a plan, or its block, for this cause
--   StatesNone task bytes c           they state no plan, for this cause
--   IsNoPlanFile files task name c    the bytes of the file are within the limit, and state no plan for this cause
--   IsRefusedPlan files task name c   the plan's file is refused for this cause
--   IsNoStl files name e              the bytes of the file are within the limit, and no mesh for this cause
--   IsNotClosed strict facets e v     a strict run, and the mesh has e open edges and v for six times its volume
--   IsUnfitFor task facets step c     the mesh can't be used for this cause
--   IsUnfitFile files name task step c   the file is a mesh that can't be used for this cause
--   IsRefusedMesh files name task step c   the file is refused as a mesh for this cause
--   IsPlanDue files a                 a word names a plan, and the printer can be used
--   AreUsableBefore files a k         the printer, the plan if one is named, and the k meshes before the one of number k can be used
--   IsPlanRefused, IsRefusedBy        what stands before it can be used, and the plan, or that mesh, is refused for this cause
--   Refuses files a file c            the first file in word order that can't be used is this one, for this cause
--   Reaches files a file              those before this one can be used
--   IsUnstated                        what a stop at the bytes of a plan says
--   IsUnlooked, IsUnsliced, IsUnfit   what a stop of looking at a mesh, of slicing it, and of all work on it says
use Rattle.std.specs.Prelude.{◌≡◌, ℕ, ℤ, Bool, true, ◌≤◌, ◌<◌, List, [], length, take, drop, Option, IsSome, Err}
use Rattle.std.specs.List.{AllZip}
use Rattle.cert_text.specs.Heads.{IsRefusedTree}
use Rattle.cert_text.specs.declared.block.CertRead.{CertRead}
use Rattle.cert_text.specs.declared.block.Kind.TheVariants.{Certificate}
use Rattle.mesh_checks.specs.Edges.{open_edges}
use Rattle.mesh_checks.specs.Verdicts.{IsClosedOutward}
use Rattle.mesh_checks.specs.Volumes.{six_volume}
use Rattle.mesh_slices.specs.Objects.{IsTooTall}
use Rattle.plan_text.specs.PlanText.{IsPlanOf}
use Rattle.plan_text.specs.Reading.{plan_answer}
use Rattle.plan_text.specs.declared.file.PlanFile.{PlanFile}
use Rattle.printer_text.specs.Printers.{IsRefusedPrinter}
use Rattle.printer_text.specs.declared.Prn.{Prn}
use Rattle.seq_io.specs.Files.{GivesFile, LongerThan}
use Rattle.seq_io.specs.declared.mem_file.MemFile.{MemFile}
use Rattle.seq_model.specs.Scenes.{Description}
use Rattle.seq_model.specs.declared.mesh.Facet.{Facet}
use Rattle.stl_text.specs.Meshes.{IsRefused}
use Rattle.stl_text.specs.declared.Stl.{Stl}
use Rattle.run_files.specs.Files.{name_in, printer_limit, plan_limit, mesh_limit, HasNamedPlan, IsPrinterFile, IsMeshFile, PassesStrict, NamedMesh, IsUsableMesh}
use Rattle.run_files.specs.Plans.{IsStatedBy, reads_block}
use Rattle.run_files.specs.Words.{is_strict}
use Rattle.run_files.specs.declared.plans.GivenPlan.{GivenPlan}
use Rattle.run_files.specs.declared.stop.Cause.{Cause}
use Rattle.run_files.specs.declared.stop.Cause.TheVariants as Causes
use Rattle.run_files.specs.declared.stop.NamedFile.{NamedFile}
use Rattle.run_files.specs.declared.stop.NamedFile.TheVariants.{Printer, Plan, Mesh}
use Rattle.run_files.specs.declared.stop.Unfit.{Unfit}
use Rattle.run_files.specs.declared.stop.Unfit.TheVariants.{Because, NoMemory}
use Rattle.run_files.specs.declared.words.Asked.{Asked}
use Rattle.run_files.specs.declared.words.Task.{Task}

pub record IsSomePrinter (files : Option (List MemFile)) (name : List ℕ) : Type 0 where
  pub description : Description
  pub is : IsPrinterFile files name description

-- bytes within the limit that the tables of keys refuse
pub record IsNoPrinter (files : Option (List MemFile)) (name : List ℕ) (e : Prn) : Type 0 where
  pub bytes : List ℕ
  pub gives : GivesFile files name bytes
  pub short : length bytes ≤ printer_limit
  pub refused : IsRefusedPrinter bytes e

abbrev pub IsRefusedFile : Option (List MemFile) → List ℕ → Cause → Type 0
IsRefusedFile files name Causes.TooLong = LongerThan (printer_limit) files name
IsRefusedFile files name (Causes.Printer e) = IsNoPrinter files name e
IsRefusedFile files name (Causes.Plan e) = ⊥
IsRefusedFile files name (Causes.Block e) = ⊥
IsRefusedFile files name (Causes.Stl e) = ⊥
IsRefusedFile files name (Causes.NotClosed edges volume) = ⊥
IsRefusedFile files name Causes.Flat = ⊥
IsRefusedFile files name (Causes.TooTall bands) = ⊥

-- the lines of a plan can be read, and the tree block behind them is refused
pub record HasNoBlock (task : Task) (bytes : List ℕ) (e : CertRead) : Type 0 where
  pub file : PlanFile
  pub place : ℕ
  pub is : IsPlanOf bytes file place
  pub due : reads_block task file ≡ true
  pub refused : IsRefusedTree (drop place bytes) Certificate e

-- reading them in order refuses a line, or the end, of the plan or of the block that the task reads
abbrev pub IsPlanCause : Task → List ℕ → Cause → Type 0
IsPlanCause task bytes Causes.TooLong = ⊥
IsPlanCause task bytes (Causes.Printer e) = ⊥
IsPlanCause task bytes (Causes.Plan e) = plan_answer bytes ≡ Err e
IsPlanCause task bytes (Causes.Block e) = HasNoBlock task bytes e
IsPlanCause task bytes (Causes.Stl e) = ⊥
IsPlanCause task bytes (Causes.NotClosed edges volume) = ⊥
IsPlanCause task bytes Causes.Flat = ⊥
IsPlanCause task bytes (Causes.TooTall bands) = ⊥

pub record StatesNone (task : Task) (bytes : List ℕ) (c : Cause) : Type 0 where
  pub cause : IsPlanCause task bytes c
  pub none : (plan : GivenPlan) → IsStatedBy task bytes plan → ⊥

pub record IsNoPlanFile (files : Option (List MemFile)) (task : Task) (name : List ℕ) (c : Cause) : Type 0 where
  pub bytes : List ℕ
  pub gives : GivesFile files name bytes
  pub short : length bytes ≤ plan_limit
  pub refused : StatesNone task bytes c

abbrev pub IsRefusedPlan : Option (List MemFile) → Task → List ℕ → Cause → Type 0
IsRefusedPlan files task name Causes.TooLong = LongerThan plan_limit files name
IsRefusedPlan files task name (Causes.Printer e) = ⊥
IsRefusedPlan files task name (Causes.Plan e) = IsNoPlanFile files task name (Causes.Plan e)
IsRefusedPlan files task name (Causes.Block e) = IsNoPlanFile files task name (Causes.Block e)
IsRefusedPlan files task name (Causes.Stl e) = ⊥
IsRefusedPlan files task name (Causes.NotClosed edges volume) = ⊥
IsRefusedPlan files task name Causes.Flat = ⊥
IsRefusedPlan files task name (Causes.TooTall bands) = ⊥

-- bytes within the limit that the grammar of meshes refuses
pub record IsNoStl (files : Option (List MemFile)) (name : List ℕ) (e : Stl) : Type 0 where
  pub bytes : List ℕ
  pub gives : GivesFile files name bytes
  pub short : length bytes ≤ mesh_limit
  pub refused : IsRefused bytes e

-- a strict run refuses the mesh, with the two numbers that its line tells
pub record IsNotClosed (strict : Bool) (facets : List Facet) (edges : ℕ) (volume : ℤ) : Type 0 where
  pub asked : strict ≡ true
  pub counted : edges ≡ open_edges facets
  pub summed : volume ≡ six_volume facets
  pub refused : IsClosedOutward edges volume → ⊥

-- it is looked at before it is sliced
abbrev pub IsUnfitFor : Task → List Facet → ℤ → Cause → Type 0
IsUnfitFor task facets step Causes.TooLong = ⊥
IsUnfitFor task facets step (Causes.Printer e) = ⊥
IsUnfitFor task facets step (Causes.Plan e) = ⊥
IsUnfitFor task facets step (Causes.Block e) = ⊥
IsUnfitFor task facets step (Causes.Stl e) = ⊥
IsUnfitFor task facets step (Causes.NotClosed edges volume) = IsNotClosed (is_strict task) facets edges volume
IsUnfitFor task facets step Causes.Flat = PassesStrict (is_strict task) facets × (facets ≡ [])
IsUnfitFor task facets step (Causes.TooTall bands) = PassesStrict (is_strict task) facets × IsTooTall facets step bands

-- a mesh that can't be used
pub record IsUnfitFile (files : Option (List MemFile)) (name : List ℕ) (task : Task) (step : ℤ) (c : Cause) : Type 0 where
  pub facets : List Facet
  pub dropped : ℕ
  pub is : IsMeshFile files name facets dropped
  pub unfit : IsUnfitFor task facets step c

abbrev pub IsRefusedMesh : Option (List MemFile) → List ℕ → Task → ℤ → Cause → Type 0
IsRefusedMesh files name task step Causes.TooLong = LongerThan mesh_limit files name
IsRefusedMesh files name task step (Causes.Printer e) = ⊥
IsRefusedMesh files name task step (Causes.Plan e) = ⊥
IsRefusedMesh files name task step (Causes.Block e) = ⊥
IsRefusedMesh files name task step (Causes.Stl e) = IsNoStl files name e
IsRefusedMesh files name task step (Causes.NotClosed edges volume) = IsUnfitFile files name task step (Causes.NotClosed edges volume)
IsRefusedMesh files name task step Causes.Flat = IsUnfitFile files name task step Causes.Flat
IsRefusedMesh files name task step (Causes.TooTall bands) = IsUnfitFile files name task step (Causes.TooTall bands)

pub record IsPlanDue (files : Option (List MemFile)) (a : Asked) : Type 0 where
  pub named : IsSome a.plan
  pub description : Description
  pub printer : IsPrinterFile files a.printer description

pub record IsPlanRefused (files : Option (List MemFile)) (a : Asked) (c : Cause) : Type 0 where
  pub before : IsPlanDue files a
  pub refused : IsRefusedPlan files a.task (name_in a Plan) c

-- a word names the mesh of number k, and what stands before it can be used
pub record AreUsableBefore (files : Option (List MemFile)) (a : Asked) (k : ℕ) : Type 0 where
  pub there : k < length a.meshes
  pub description : Description
  pub printer : IsPrinterFile files a.printer description
  pub plan : Option GivenPlan
  pub named_plan : HasNamedPlan files a.task a.plan plan
  pub meshes : List NamedMesh
  pub each : AllZip (IsUsableMesh files (is_strict a.task) description.step) (take k a.meshes) meshes

pub record IsRefusedBy (files : Option (List MemFile)) (a : Asked) (k : ℕ) (c : Cause) : Type 0 where
  pub before : AreUsableBefore files a k
  pub refused : IsRefusedMesh files (name_in a (Mesh k)) a.task before.description.step c

abbrev pub Refuses : Option (List MemFile) → Asked → NamedFile → Cause → Type 0
Refuses files a Printer c = IsRefusedFile files a.printer c
Refuses files a Plan c = IsPlanRefused files a c
Refuses files a (Mesh k) c = IsRefusedBy files a k c

abbrev pub Reaches : Option (List MemFile) → Asked → NamedFile → Type 0
Reaches files a Printer = Unit {0}
Reaches files a Plan = IsPlanDue files a
Reaches files a (Mesh k) = AreUsableBefore files a k

-- what the bytes of a plan stop for: a cause, or want of memory
abbrev pub IsUnstated : Task → List ℕ → Unfit → Type 0
IsUnstated task bytes (Because c) = StatesNone task bytes c
IsUnstated task bytes NoMemory = Unit {0}

-- what a look at a mesh, its slicing, and all of its work stops for: a cause, or want of memory
abbrev pub IsUnlooked : Bool → List Facet → Unfit → Type 0
IsUnlooked strict facets (Because (Causes.NotClosed edges volume)) = IsNotClosed strict facets edges volume
IsUnlooked strict facets (Because c) = ⊥
IsUnlooked strict facets NoMemory = Unit {0}

abbrev pub IsUnsliced : List Facet → ℤ → Unfit → Type 0
IsUnsliced facets step (Because Causes.Flat) = facets ≡ []
IsUnsliced facets step (Because (Causes.TooTall bands)) = IsTooTall facets step bands
IsUnsliced facets step (Because c) = ⊥
IsUnsliced facets step NoMemory = Unit {0}

abbrev pub IsUnfit : Task → List Facet → ℤ → Unfit → Type 0
IsUnfit task facets step (Because c) = IsUnfitFor task facets step c
IsUnfit task facets step NoMemory = Unit {0}
