-- What the words ask for.
--
--   asked words            the command that the words spell, or why they are refused
--   asked_arrange words    the same of words that begin with `arrange`; and so for the other commands
--   arrange_in rows        the command that clap's finds make, or why its numbers or meshes are refused; and so on
--   taken command_in found what the finds make, and `Usage` where clap refuses the words
--   number_or opt n        the number, or else that of opt is bad
--   budget_in rows         the value of `--budget`, or the default budget
--   meshes_in rows         the names of at most 16 meshes
--   IsDue answer refusal   the answer is this refusal, or memory was wanting
--   IsWithinLimits c       the numbers of the command and the count of its meshes are within their limits
use Rattle.std.specs.Prelude.{◌≡◌, ◌⊎◌, ℕ, ◌≤◌, ◌<◌, ◌^◌, ⊤, List, [], ◌∷◌, Option, Some, None, codes, Result, Ok, Err, if◌then◌else◌, nat_le, length}
use Rattle.std.specs.Str.{bytes_eq}
use Rattle.clap.specs.Words.{Row, Text, first_of}
use Rattle.text_lines.specs.Results.{◌>>=◌}
use Rattle.seq_words.specs.declared.command.Command.{Command}
use Rattle.seq_words.specs.declared.command.Words.{Words}
use Rattle.seq_words.specs.declared.command.Opt.{Opt}
use Rattle.seq_words.specs.declared.usage.Argument.{Argument}
use Rattle.seq_words.specs.declared.usage.Name.TheVariants as Name
use Rattle.seq_words.specs.declared.usage.TheConstants.{ARRANGE, CHECK, AUDIT, SLICES, TRIAL}
use Rattle.seq_words.specs.Numbers.{number_in}
use Rattle.seq_words.specs.Usages.{simple_command, rows_by, text_of, texts_of, is_given, label_of}
use Rattle.seq_limits.specs.declared.TheConstants.{MOST_NODES, MOST_OBJECTS, USUAL_NODES}

abbrev pub number_or : Opt → Option ℕ → Result ℕ Words
number_or opt (Some n) = Ok n
number_or opt None = Err (Words.BadNumber opt)

abbrev pub budget_from : Option Text → Result ℕ Words
budget_from (Some text) = number_or Opt.Budget (number_in 1 MOST_NODES text)
budget_from None = Ok USUAL_NODES

abbrev pub budget_in : List Row → Result ℕ Words
budget_in rows = budget_from (first_of (label_of Name.Budget) rows)

abbrev pub meshes_in : List Row → Result (List Text) Words
meshes_in rows = if nat_le (length (texts_of Name.Stl rows)) MOST_OBJECTS then Ok (texts_of Name.Stl rows) else Err Words.TooMany

abbrev pub arrange_in : List Row → Result Command Words
arrange_in rows = do
  budget ← budget_in rows
  meshes ← meshes_in rows
  Ok (Command.Arrange (is_given Name.Least rows) (is_given Name.Strict rows) budget (text_of Name.Printer rows) meshes)

abbrev pub check_in : List Row → Result Command Words
check_in rows = do
  meshes ← meshes_in rows
  Ok (Command.Check (text_of Name.Printer rows) (text_of Name.Plan rows) meshes)

abbrev pub audit_in : List Row → Result Command Words
audit_in rows = do
  meshes ← meshes_in rows
  Ok (Command.Audit (text_of Name.Printer rows) (text_of Name.Plan rows) meshes)

abbrev pub slices_in : List Row → Result Command Words
slices_in rows = Ok (Command.Slices (text_of Name.Printer rows) (text_of Name.Stl rows))

abbrev pub trial_in : List Row → Result Command Words
trial_in rows = do
  objects ← number_or Opt.K (number_in 1 MOST_OBJECTS (text_of Name.K rows))
  seed ← number_or Opt.N (number_in 0 4_294_967_295 (text_of Name.N rows))
  Ok (Command.Trial objects seed)

abbrev pub taken : (List Row → Result Command Words) → Option (List Row) → Result Command Words
taken command_in (Some rows) = command_in rows
taken command_in None = Err Words.Usage

-- what the command of this name, with these arguments, makes of the words
abbrev pub asked_of : Text → List Argument → (List Row → Result Command Words) → List Text → Result Command Words
asked_of name usage command_in words = taken command_in (rows_by (simple_command name usage) words)

abbrev pub asked_arrange : List Text → Result Command Words
asked_arrange words = asked_of (codes "arrange") ARRANGE.now arrange_in words

abbrev pub asked_check : List Text → Result Command Words
asked_check words = asked_of (codes "check") CHECK.now check_in words

abbrev pub asked_audit : List Text → Result Command Words
asked_audit words = asked_of (codes "audit") AUDIT.now audit_in words

abbrev pub asked_slices : List Text → Result Command Words
asked_slices words = asked_of (codes "slices") SLICES.now slices_in words

abbrev pub asked_trial : List Text → Result Command Words
asked_trial words = asked_of (codes "trial") TRIAL.now trial_in words

abbrev pub asked : List Text → Result Command Words
asked [] = Err Words.Unknown
asked (name ∷ rest) =
    if bytes_eq name (codes "arrange") then asked_arrange (name ∷ rest)
    else (if bytes_eq name (codes "check") then asked_check (name ∷ rest)
    else (if bytes_eq name (codes "audit") then asked_audit (name ∷ rest)
    else (if bytes_eq name (codes "slices") then asked_slices (name ∷ rest)
    else (if bytes_eq name (codes "trial") then asked_trial (name ∷ rest)
    else Err Words.Unknown))))

-- this refusal is due; want of memory may come in place of any answer
abbrev pub IsDue : {A : Type 0} → Result A Words → Words → Type 0
IsDue due refusal = (refusal ≡ Words.NoMemory) ⊎ (due ≡ Err refusal)

abbrev pub IsWithinLimits : Command → Type 0
IsWithinLimits (Command.Arrange least strict budget printer meshes) = (1 ≤ budget) × (budget ≤ MOST_NODES) × (length meshes ≤ MOST_OBJECTS)
IsWithinLimits (Command.Check printer plan meshes) = length meshes ≤ MOST_OBJECTS
IsWithinLimits (Command.Audit printer plan meshes) = length meshes ≤ MOST_OBJECTS
IsWithinLimits (Command.Slices printer mesh) = ⊤
IsWithinLimits (Command.Trial objects seed) = (1 ≤ objects) × (objects ≤ MOST_OBJECTS) × (seed < 2 ^ 32)
