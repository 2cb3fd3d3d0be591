-- What a run says of the words, the files and the two sinks, by its status. `s` and `s'` are what the shelf showed before and after
-- the run, `e` and `e'` what `err` did, `o` and `o'` what `out` did.
--
--   IsMisworded words s s' e e'          status 2: the words are refused, no file was started, and `err` took their line
--   IsAnswered v a s s' e e' o o'        `err` took the notes, and `out` the whole text of an answer over the files
--   IsTried v objects seed o o'          `out` took the whole text of a trial
--   HasAnswered v words s s' e e' o o'   status 0, 1, 5, 6 and 7: one of these; a trial leaves the shelf and `err` alone
--   IsUnreadFile a s s' e e'             status 3: reading failed at this file that the words name, and `err` took its line
--   IsWrongFile a s s' e e'              status 4: the first file that can't be used is refused, and `err` took its line
--   WordsBroke, ErrBroke, OutBroke       status 8: a sink failed within the line of refused words; within the line of a stop or
--                                        the notes of an answer; within its text
--   LineBroke, NotesBroke                the two cases of ErrBroke
--   TrialBroke objects seed o o'         status 8: `out` failed within the text of a trial
--   IsWanting words s s' e e'            status 9: memory was wanting, and `err` took its line
--   IsUnwritten words s s' e e' o o'     status 8: the four cases; `out` is written after `err`
--   RunEnds words s s' e e' o o' status  what each status says
use Rattle.std.specs.Prelude.{◌≡◌, ◌⊎◌, ℕ, List, Err}
use Rattle.seq_io.specs.Taken.{BrokeIn, Wrote}
use Rattle.seq_io.specs.Views.{ShelfView, SinkView}
use Rattle.seq_words.specs.declared.command.Words.TheVariants.{NoMemory}
use Rattle.run_files.specs.Files.{name_in}
use Rattle.run_lines.specs.Messages.{words_line, read_line, input_line, line_of, memory_line}
use Rattle.seq_run.specs.Printed.{Answers}
use Rattle.seq_run.specs.Tried.{PrintsTrial}
use Rattle.run_files.specs.Stops.{Explains, FailedAt, IsUntouched, ReadUpTo, RefusedAt, WantsMemory, last_of}
use Rattle.run_files.specs.Words.{Asks, Tries, requested}
use Rattle.seq_run.specs.declared.status.Status.{Status}
use Rattle.seq_run.specs.declared.status.Status.TheVariants as Statuses
use Rattle.seq_run.specs.declared.status.Verdict.{Verdict}
use Rattle.run_files.specs.declared.stop.Cause.{Cause}
use Rattle.run_files.specs.declared.stop.NamedFile.{NamedFile}
use Rattle.run_files.specs.declared.stop.Stop.{Stop}
use Rattle.run_files.specs.declared.words.Asked.{Asked}
use Rattle.seq_words.specs.declared.command.Words.{Words}

pub record IsMisworded (words : List (List ℕ)) (s s' : ShelfView) (e e' : SinkView) : Type 0 where
  pub why : Words
  pub refused : requested words ≡ Err why
  pub shelf : IsUntouched s s'
  pub err : Wrote (words_line why) e e'

pub record IsAnswered (verdict : Verdict) (a : Asked) (s s' : ShelfView) (e e' o o' : SinkView) : Type 0 where
  pub notes : List ℕ
  pub text : List ℕ
  pub answers : Answers s.files a verdict notes text
  pub read : ReadUpTo a (last_of a) s s'
  pub err : Wrote notes e e'
  pub out : Wrote text o o'

pub record IsTried (verdict : Verdict) (objects seed : ℕ) (o o' : SinkView) : Type 0 where
  pub text : List ℕ
  pub prints : PrintsTrial objects seed verdict text
  pub out : Wrote text o o'

abbrev pub HasAnswered : Verdict → List (List ℕ) → ShelfView → ShelfView → SinkView → SinkView → SinkView → SinkView → Type 0
HasAnswered verdict words s s' e e' o o' =
    Asks words (λ a. IsAnswered verdict a s s' e e' o o') ⊎ (Tries words (λ objects seed. IsTried verdict objects seed o o') × (e' ≡ e) × IsUntouched s s')

pub record IsUnreadFile (a : Asked) (s s' : ShelfView) (e e' : SinkView) : Type 0 where
  pub file : NamedFile
  pub failed : FailedAt a file s s'
  pub err : Wrote (read_line (name_in a file)) e e'

pub record IsWrongFile (a : Asked) (s s' : ShelfView) (e e' : SinkView) : Type 0 where
  pub file : NamedFile
  pub cause : Cause
  pub refused : RefusedAt a file cause s s'
  pub err : Wrote (input_line (name_in a file) file cause) e e'

pub record IsWanting (words : List (List ℕ)) (s s' : ShelfView) (e e' : SinkView) : Type 0 where
  pub wanting : IsUntouched s s' ⊎ Asks words (λ a. WantsMemory a s s')
  pub err : Wrote memory_line e e'

pub record WordsBroke (words : List (List ℕ)) (s s' : ShelfView) (e e' : SinkView) : Type 0 where
  pub why : Words
  pub refused : (why ≡ NoMemory) ⊎ (requested words ≡ Err why)
  pub shelf : IsUntouched s s'
  pub broke : BrokeIn (words_line why) e e'

-- the line of a stop
pub record LineBroke (a : Asked) (s s' : ShelfView) (e e' : SinkView) : Type 0 where
  pub stop : Stop
  pub explains : Explains a s s' stop
  pub broke : BrokeIn (line_of a stop) e e'

-- the notes of an answer
pub record NotesBroke (a : Asked) (s s' : ShelfView) (e e' : SinkView) : Type 0 where
  pub verdict : Verdict
  pub notes : List ℕ
  pub text : List ℕ
  pub answers : Answers s.files a verdict notes text
  pub read : ReadUpTo a (last_of a) s s'
  pub broke : BrokeIn notes e e'

abbrev pub ErrBroke : Asked → ShelfView → ShelfView → SinkView → SinkView → Type 0
ErrBroke a s s' e e' = LineBroke a s s' e e' ⊎ NotesBroke a s s' e e'

pub record OutBroke (a : Asked) (s s' : ShelfView) (e e' o o' : SinkView) : Type 0 where
  pub verdict : Verdict
  pub notes : List ℕ
  pub text : List ℕ
  pub answers : Answers s.files a verdict notes text
  pub read : ReadUpTo a (last_of a) s s'
  pub err : Wrote notes e e'
  pub broke : BrokeIn text o o'

pub record TrialBroke (objects seed : ℕ) (o o' : SinkView) : Type 0 where
  pub verdict : Verdict
  pub text : List ℕ
  pub prints : PrintsTrial objects seed verdict text
  pub broke : BrokeIn text o o'

-- the first two cases with `out` as it was
abbrev pub IsUnwritten : List (List ℕ) → ShelfView → ShelfView → SinkView → SinkView → SinkView → SinkView → Type 0
IsUnwritten words s s' e e' o o' =
    (WordsBroke words s s' e e' × (o' ≡ o))
    ⊎ (Asks words (λ a. ErrBroke a s s' e e') × (o' ≡ o))
    ⊎ Asks words (λ a. OutBroke a s s' e e' o o')
    ⊎ (Tries words (λ objects seed. TrialBroke objects seed o o') × (e' ≡ e) × IsUntouched s s')

abbrev pub RunEnds : List (List ℕ) → ShelfView → ShelfView → SinkView → SinkView → SinkView → SinkView → Status → Type 0
RunEnds words s s' e e' o o' (Statuses.Answered verdict) = HasAnswered verdict words s s' e e' o o'
RunEnds words s s' e e' o o' Statuses.WrongWords = IsMisworded words s s' e e' × (o' ≡ o)
RunEnds words s s' e e' o o' Statuses.ReadFault = Asks words (λ a. IsUnreadFile a s s' e e') × (o' ≡ o)
RunEnds words s s' e e' o o' Statuses.WrongFile = Asks words (λ a. IsWrongFile a s s' e e') × (o' ≡ o)
RunEnds words s s' e e' o o' Statuses.WriteFault = IsUnwritten words s s' e e' o o'
RunEnds words s s' e e' o o' Statuses.NoMemory = IsWanting words s s' e e' × (o' ≡ o)

-- the same of what the words ask for
abbrev pub AskedEnds : Asked → ShelfView → ShelfView → SinkView → SinkView → SinkView → SinkView → Status → Type 0
AskedEnds a s s' e e' o o' (Statuses.Answered verdict) = IsAnswered verdict a s s' e e' o o'
AskedEnds a s s' e e' o o' Statuses.WrongWords = ⊥
AskedEnds a s s' e e' o o' Statuses.ReadFault = IsUnreadFile a s s' e e' × (o' ≡ o)
AskedEnds a s s' e e' o o' Statuses.WrongFile = IsWrongFile a s s' e e' × (o' ≡ o)
AskedEnds a s s' e e' o o' Statuses.WriteFault = (ErrBroke a s s' e e' × (o' ≡ o)) ⊎ OutBroke a s s' e e' o o'
AskedEnds a s s' e e' o o' Statuses.NoMemory = (WantsMemory a s s' × Wrote memory_line e e') × (o' ≡ o)

-- of a trial
abbrev pub TrialEnds : ℕ → ℕ → SinkView → SinkView → SinkView → SinkView → Status → Type 0
TrialEnds objects seed e e' o o' (Statuses.Answered verdict) = IsTried verdict objects seed o o' × (e' ≡ e)
TrialEnds objects seed e e' o o' Statuses.WrongWords = ⊥
TrialEnds objects seed e e' o o' Statuses.ReadFault = ⊥
TrialEnds objects seed e e' o o' Statuses.WrongFile = ⊥
TrialEnds objects seed e e' o o' Statuses.WriteFault = (BrokeIn memory_line e e' × (o' ≡ o)) ⊎ (TrialBroke objects seed o o' × (e' ≡ e))
TrialEnds objects seed e e' o o' Statuses.NoMemory = Wrote memory_line e e' × (o' ≡ o)

-- and of words that are refused
abbrev pub RefusalEnds : Words → SinkView → SinkView → Status → Type 0
RefusalEnds why e e' (Statuses.Answered verdict) = ⊥
RefusalEnds why e e' Statuses.WrongWords = (why ≡ NoMemory → ⊥) × Wrote (words_line why) e e'
RefusalEnds why e e' Statuses.ReadFault = ⊥
RefusalEnds why e e' Statuses.WrongFile = ⊥
RefusalEnds why e e' Statuses.WriteFault = BrokeIn (words_line why) e e'
RefusalEnds why e e' Statuses.NoMemory = (why ≡ NoMemory) × Wrote memory_line e e'
