-- A text that was printed, and a check of it.
--
--   check_of a name             the request to check the plan of this name, with the printer and the meshes of a
--   IsClaimed task verdict      the answer says which extent is the least, or that there is no plan
--   IsSaved before after a text name   among the files `after` the text stands under the name, within the limit of plans; the printer and
--                               the meshes that a names are what they were among the files `before`
use Rattle.std.specs.Prelude.{◌≡◌, ◌≤◌, ℕ, List, length, All, Some}
use Rattle.run_files.specs.Files.{plan_limit}
use Rattle.run_files.specs.declared.words.Asked.{Asked}
use Rattle.run_files.specs.declared.words.Task.{Task}
use Rattle.run_files.specs.declared.words.Task.TheVariants as Tasks
use Rattle.seq_io.specs.Files.{bytes_of}
use Rattle.seq_io.specs.declared.mem_file.MemFile.{MemFile}
use Rattle.seq_run.specs.declared.status.Verdict.{Verdict}
use Rattle.seq_run.specs.declared.status.Verdict.TheVariants as Verdicts

abbrev pub check_of : Asked → List ℕ → Asked
check_of a name = record { task = Tasks.Check; printer = a.printer; plan = Some name; meshes = a.meshes }

abbrev pub IsClaimed : Task → Verdict → Type 0
IsClaimed (Tasks.Arrange strict budget) Verdicts.NoPlan = Unit {0}
IsClaimed (Tasks.Least strict budget) Verdicts.Done = Unit {0}
IsClaimed (Tasks.Least strict budget) Verdicts.NoPlan = Unit {0}
IsClaimed task verdict = ⊥

pub record IsSaved (before after : List MemFile) (a : Asked) (text name : List ℕ) : Type 0 where
  pub printer : bytes_of after a.printer ≡ bytes_of before a.printer
  pub meshes : All (λ m. bytes_of after m ≡ bytes_of before m) a.meshes
  pub stands : bytes_of after name ≡ text
  pub short : length text ≤ plan_limit
