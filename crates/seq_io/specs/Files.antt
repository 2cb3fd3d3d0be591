-- Files by name, and what reading one of them gives, where the files are told.
--
--   has_file files name               == a file has the name
--   bytes_of files name               == the bytes of the first file of that name, none where no file has it
--   StartsFile files name rest result == what is left to read after a start of that name
--   GivesFile files name bytes        == the bytes are those of that file
--   LongerThan limit files name       == that file has more than `limit` bytes
use Rattle.std.specs.Prelude.{ℕ, ◌≡◌, ◌<◌, Bool, false, ◌||◌, List, [], ◌∷◌, length, if◌then◌else◌, Option, Some, None, Result, Ok, Err}
use Rattle.std.specs.Str.{bytes_eq}
use Rattle.seq_io.specs.declared.mem_file.MemFile.{MemFile}

abbrev pub has_file : List MemFile → List ℕ → Bool
has_file [] name = false
has_file (file ∷ files) name = bytes_eq file.name name || has_file files name

abbrev pub bytes_of : List MemFile → List ℕ → List ℕ
bytes_of [] name = []
bytes_of (file ∷ files) name = if bytes_eq file.name name then file.bytes else bytes_of files name

-- the whole file at `Ok`, and nothing at `Err`
abbrev pub StartsFile : {T E : Type 0} → Option (List MemFile) → List ℕ → Option (List ℕ) → Result T E → Type 0
StartsFile files name None result = Unit {0}
StartsFile files name (Some rest) (Err e) = rest ≡ []
StartsFile None name (Some rest) (Ok x) = Unit {0}
StartsFile (Some files) name (Some rest) (Ok x) = rest ≡ bytes_of files name

abbrev pub GivesFile : Option (List MemFile) → List ℕ → List ℕ → Type 0
GivesFile None name bytes = Unit {0}
GivesFile (Some files) name bytes = bytes ≡ bytes_of files name

abbrev pub LongerThan : ℕ → Option (List MemFile) → List ℕ → Type 0
LongerThan limit None name = Unit {0}
LongerThan limit (Some files) name = limit < length (bytes_of files name)
