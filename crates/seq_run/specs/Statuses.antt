-- The exit statuses of a run: the numbers of the verdicts, and of what keeps a run from one.
--
--   code_of_verdict v   the number of a verdict
--   code_of s           the number of a status
--   status_of stop      the status of a stop at the files
--   IsOneOf ns n        n is one of these numbers
use Rattle.std.specs.Prelude.{◌≡◌, ◌⊎◌, ℕ, List, [], ◌∷◌}
use Rattle.seq_run.specs.declared.status.Status.{Status}
use Rattle.seq_run.specs.declared.status.Status.TheVariants as Statuses
use Rattle.seq_run.specs.declared.status.Verdict.{Verdict}
use Rattle.seq_run.specs.declared.status.Verdict.TheVariants as Verdicts
use Rattle.run_files.specs.declared.stop.Stop.{Stop}
use Rattle.run_files.specs.declared.stop.Stop.TheVariants as Stops

abbrev pub code_of_verdict : Verdict → ℕ
code_of_verdict Verdicts.Done = 0
code_of_verdict Verdicts.NoPlan = 1
code_of_verdict Verdicts.Open = 5
code_of_verdict Verdicts.Undecided = 6
code_of_verdict Verdicts.Fault = 7

abbrev pub code_of : Status → ℕ
code_of (Statuses.Answered verdict) = code_of_verdict verdict
code_of Statuses.WrongWords = 2
code_of Statuses.ReadFault = 3
code_of Statuses.WrongFile = 4
code_of Statuses.WriteFault = 8
code_of Statuses.NoMemory = 9

abbrev pub status_of : Stop → Status
status_of (Stops.Read file) = Statuses.ReadFault
status_of (Stops.Input file cause) = Statuses.WrongFile
status_of Stops.Memory = Statuses.NoMemory

abbrev pub IsOneOf : List ℕ → ℕ → Type 0
IsOneOf [] n = ⊥
IsOneOf (m ∷ []) n = n ≡ m
IsOneOf (m ∷ k ∷ ms) n = (n ≡ m) ⊎ IsOneOf (k ∷ ms) n
