-- What the words of a command ask for.
--
--   is_strict task      the run refuses meshes that aren't closed or don't look outward
--   request_by ..       a task with its files; clap finds at least one mesh
--   arranging least strict budget   `arrange`, with `--least` or without
--   request_of command  what a command asks for
--   requested words     what the words ask for, or why they are refused
--   Asks words P        the words are accepted, and what they ask of files is so
--   Tries words P       they are accepted, and ask for a trial, of which it is so
--   IsRequest a         there are 1 to 16 meshes, and one alone to slice; a plan is named for an audit and a check alone; a budget is
--                       1 to 1,000,000
--   IsSoundRequest r    what is asked of files is so; a trial has 1 to 16 objects, and a seed below 2^32
use Rattle.std.specs.Prelude.{◌≡◌, ◌≤◌, ◌<◌, ◌^◌, ℕ, List, [], ◌∷◌, length, Bool, true, false, Option, Some, None, IsSome, Result, Ok, Err}
use Rattle.seq_words.specs.Asked.{asked}
use Rattle.seq_words.specs.declared.command.Command.{Command}
use Rattle.seq_words.specs.declared.command.Words.{Words}
use Rattle.run_files.specs.declared.words.Asked.{Asked}
use Rattle.run_files.specs.declared.words.Request.{Request}
use Rattle.run_files.specs.declared.words.Request.TheVariants.{OfFiles, Trial}
use Rattle.run_files.specs.declared.words.Task.{Task}
use Rattle.run_files.specs.declared.words.Task.TheVariants as Tasks
use Rattle.seq_limits.specs.declared.TheConstants.{MOST_NODES, MOST_OBJECTS}

abbrev pub is_strict : Task → Bool
is_strict (Tasks.Arrange strict budget) = strict
is_strict (Tasks.Least strict budget) = strict
is_strict Tasks.Audit = false
is_strict Tasks.Check = false
is_strict Tasks.Slices = false

abbrev pub request_by : Task → List ℕ → Option (List ℕ) → List (List ℕ) → Result Request Words
request_by task printer plan [] = Err Words.Usage
request_by task printer plan (mesh ∷ meshes) = Ok (OfFiles (record { task = task; printer = printer; plan = plan; meshes = mesh ∷ meshes }))

abbrev pub arranging : Bool → Bool → ℕ → Task
arranging false strict budget = Tasks.Arrange strict budget
arranging true strict budget = Tasks.Least strict budget

abbrev pub request_of : Command → Result Request Words
request_of (Command.Arrange least strict budget printer meshes) = request_by (arranging least strict budget) printer None meshes
request_of (Command.Check printer plan meshes) = request_by Tasks.Check printer (Some plan) meshes
request_of (Command.Audit printer plan meshes) = request_by Tasks.Audit printer (Some plan) meshes
request_of (Command.Slices printer mesh) = request_by Tasks.Slices printer None (mesh ∷ [])
request_of (Command.Trial objects seed) = Ok (Trial objects seed)

abbrev pub requested_by : Result Command Words → Result Request Words
requested_by (Ok command) = request_of command
requested_by (Err refusal) = Err refusal

abbrev pub requested : List (List ℕ) → Result Request Words
requested words = requested_by (asked words)

pub record Asks (words : List (List ℕ)) (P : Asked → Type 0) : Type 0 where
  pub asked : Asked
  pub accepted : requested words ≡ Ok (OfFiles asked)
  pub so : P asked

pub record Tries (words : List (List ℕ)) (P : ℕ → ℕ → Type 0) : Type 0 where
  pub objects : ℕ
  pub seed : ℕ
  pub accepted : requested words ≡ Ok (Trial objects seed)
  pub so : P objects seed

abbrev pub NamesPlan : Task → Option (List ℕ) → Type 0
NamesPlan (Tasks.Arrange strict budget) plan = plan ≡ None
NamesPlan (Tasks.Least strict budget) plan = plan ≡ None
NamesPlan Tasks.Audit plan = IsSome plan
NamesPlan Tasks.Check plan = IsSome plan
NamesPlan Tasks.Slices plan = plan ≡ None

abbrev pub IsManyFor : Task → ℕ → Type 0
IsManyFor (Tasks.Arrange strict budget) meshes = Unit {0}
IsManyFor (Tasks.Least strict budget) meshes = Unit {0}
IsManyFor Tasks.Audit meshes = Unit {0}
IsManyFor Tasks.Check meshes = Unit {0}
IsManyFor Tasks.Slices meshes = meshes ≡ 1

abbrev pub IsBudgetFor : Task → Type 0
IsBudgetFor (Tasks.Arrange strict budget) = (1 ≤ budget) × (budget ≤ MOST_NODES)
IsBudgetFor (Tasks.Least strict budget) = (1 ≤ budget) × (budget ≤ MOST_NODES)
IsBudgetFor Tasks.Audit = Unit {0}
IsBudgetFor Tasks.Check = Unit {0}
IsBudgetFor Tasks.Slices = Unit {0}

pub record IsRequest (a : Asked) : Type 0 where
  pub some : 1 ≤ length a.meshes
  pub few : length a.meshes ≤ MOST_OBJECTS
  pub plan : NamesPlan a.task a.plan
  pub many : IsManyFor a.task (length a.meshes)
  pub budget : IsBudgetFor a.task

abbrev pub IsSoundRequest : Request → Type 0
IsSoundRequest (OfFiles a) = IsRequest a
IsSoundRequest (Trial objects seed) = (1 ≤ objects) × (objects ≤ MOST_OBJECTS) × (seed < 2 ^ 32)
