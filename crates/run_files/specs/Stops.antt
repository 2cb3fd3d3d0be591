-- What a run did with its shelf: which files were started, and why it stopped at them. `s` is what the shelf showed before the run,
-- `s'` what it shows after it.
--
--   more k n                    the count n with k more
--   place_of a file             how many files the words name before this one: the printer, then the plan, then the meshes
--   last_of a                   the last file that the words name
--   IsUntouched s s'            no file was started, and no call failed
--   StartedUpTo a file s s'     the files up to this one were started, each once, and nothing after it
--   ReadUpTo a file s s'        the same, and no call failed
--   FailedAt a file s s'        the files before this one can be used, and then its start or a read of it failed; nothing came after
--   RefusedAt a file c s s'     this file is refused for this cause; nothing was started after it, and no call failed
--   WantsMemory a s s'          memory was wanting before the first file or at one of them, and no call failed
--   Explains a s s' stop        what a stop says of the files and of the shelf
--   IsNextFile a file s s'      the files before this one were read and can be used: it comes next
--   NextRead name s s'          from s on the file of this name was started, alone, and no call failed
--   NextFails name s s'         it was started, alone, and then one call failed, the last
--   IsUnread limit name s s' e  why it wasn't read
--   stop_of file e              the stop at a file that was not read
--   unfit_stop file e           the stop at a file that was read and can't be used
--   IsToldAs stop told          what is told of a stop: itself, or want of memory for its line
use Rattle.std.specs.Prelude.{◌≡◌, ◌⊎◌, ℕ, zero, suc, ◌+◌, ◌-◌, List, length, true, Option, Some, None, IsTrue}
use Rattle.seq_io.specs.Counts.{raised}
use Rattle.seq_io.specs.Files.{LongerThan}
use Rattle.seq_io.specs.Views.{ShelfView}
use Rattle.seq_io.specs.declared.shelf.ReadAll.{ReadAll}
use Rattle.seq_io.specs.declared.shelf.ReadAll.TheVariants as Unread
use Rattle.run_files.specs.Causes.{Refuses, Reaches}
use Rattle.run_files.specs.Files.{name_in}
use Rattle.run_files.specs.declared.stop.Cause.{Cause}
use Rattle.run_files.specs.declared.stop.Cause.TheVariants.{TooLong}
use Rattle.run_files.specs.declared.stop.NamedFile.{NamedFile}
use Rattle.run_files.specs.declared.stop.NamedFile.TheVariants.{Printer, Plan, Mesh}
use Rattle.run_files.specs.declared.stop.Stop.{Stop}
use Rattle.run_files.specs.declared.stop.Stop.TheVariants.{Read, Input, Memory}
use Rattle.run_files.specs.declared.stop.Unfit.{Unfit}
use Rattle.run_files.specs.declared.stop.Unfit.TheVariants.{Because, NoMemory}
use Rattle.run_files.specs.declared.words.Asked.{Asked}

abbrev pub more : ℕ → ℕ → ℕ
more zero n = n
more (suc k) n = raised true (more k n)

-- how many files come before the first mesh, by the word that names a plan
abbrev pub before_meshes : Option (List ℕ) → ℕ
before_meshes None = 1
before_meshes (Some plan) = 2

abbrev pub place_of : Asked → NamedFile → ℕ
place_of a Printer = 0
place_of a Plan = 1
place_of a (Mesh k) = before_meshes a.plan + k

abbrev pub last_of : Asked → NamedFile
last_of a = Mesh (length a.meshes - 1)

pub record IsUntouched (s s' : ShelfView) : Type 0 where
  pub named : s'.named ≡ s.named
  pub starts : s'.starts ≡ s.starts
  pub calm : s'.faults ≡ s.faults

pub record StartedUpTo (a : Asked) (file : NamedFile) (s s' : ShelfView) : Type 0 where
  pub named : s'.named ≡ Some (name_in a file)
  pub starts : s'.starts ≡ raised true (more (place_of a file) s.starts)

pub record ReadUpTo (a : Asked) (file : NamedFile) (s s' : ShelfView) : Type 0 where
  pub started : StartedUpTo a file s s'
  pub calm : s'.faults ≡ s.faults

pub record FailedAt (a : Asked) (file : NamedFile) (s s' : ShelfView) : Type 0 where
  pub before : Reaches s.files a file
  pub started : StartedUpTo a file s s'
  pub broken : IsTrue s'.broken
  pub failed : s'.faults ≡ raised true s.faults

pub record RefusedAt (a : Asked) (file : NamedFile) (c : Cause) (s s' : ShelfView) : Type 0 where
  pub refused : Refuses s.files a file c
  pub read : ReadUpTo a file s s'

pub record ReachedFile (a : Asked) (s s' : ShelfView) : Type 0 where
  pub file : NamedFile
  pub before : Reaches s.files a file
  pub read : ReadUpTo a file s s'

abbrev pub WantsMemory : Asked → ShelfView → ShelfView → Type 0
WantsMemory a s s' = IsUntouched s s' ⊎ ReachedFile a s s'

abbrev pub Explains : Asked → ShelfView → ShelfView → Stop → Type 0
Explains a s s' (Read file) = FailedAt a file s s'
Explains a s s' (Input file c) = RefusedAt a file c s s'
Explains a s s' Memory = WantsMemory a s s'

pub record IsNextFile (a : Asked) (file : NamedFile) (s s' : ShelfView) : Type 0 where
  pub files : s'.files ≡ s.files
  pub before : Reaches s.files a file
  pub starts : s'.starts ≡ more (place_of a file) s.starts
  pub calm : s'.faults ≡ s.faults
  pub reached : WantsMemory a s s'

pub record NextRead (name : List ℕ) (s s' : ShelfView) : Type 0 where
  pub named : s'.named ≡ Some name
  pub starts : s'.starts ≡ raised true s.starts
  pub calm : s'.faults ≡ s.faults

pub record NextFails (name : List ℕ) (s s' : ShelfView) : Type 0 where
  pub named : s'.named ≡ Some name
  pub starts : s'.starts ≡ raised true s.starts
  pub broken : IsTrue s'.broken
  pub failed : s'.faults ≡ raised true s.faults

pub record IsTooLong (limit : ℕ) (name : List ℕ) (s s' : ShelfView) : Type 0 where
  pub longer : LongerThan limit s.files name
  pub read : NextRead name s s'

abbrev pub IsUnread : ℕ → List ℕ → ShelfView → ShelfView → ReadAll → Type 0
IsUnread limit name s s' Unread.ReadFault = NextFails name s s'
IsUnread limit name s s' Unread.TooLong = IsTooLong limit name s s'
IsUnread limit name s s' Unread.NoMemory = IsUntouched s s' ⊎ NextRead name s s'

abbrev pub stop_of : NamedFile → ReadAll → Stop
stop_of file Unread.ReadFault = Read file
stop_of file Unread.TooLong = Input file TooLong
stop_of file Unread.NoMemory = Memory

-- what is told of a stop: the line of a failed read takes no memory, that of a refused file may find none
abbrev pub IsToldAs : Stop → Stop → Type 0
IsToldAs (Read file) told = told ≡ Read file
IsToldAs (Input file c) told = (told ≡ Input file c) ⊎ (told ≡ Memory)
IsToldAs Memory told = told ≡ Memory

abbrev pub unfit_stop : NamedFile → Unfit → Stop
unfit_stop file (Because c) = Input file c
unfit_stop file NoMemory = Memory
