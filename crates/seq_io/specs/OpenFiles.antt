-- Files in memory of which one is open.
--
--   bytes_at files at       == the bytes of the file at a place, none past the last
--   rest_of files at given  == what is left of it after so many bytes, nothing where none is open
use Rattle.std.specs.Prelude.{ℕ, zero, suc, drop, List, [], ◌∷◌, Option, Some, None}
use Rattle.seq_io.specs.declared.mem_file.MemFile.{MemFile}

pub record OpenState : Type 0 where
  pub files : List MemFile
  pub rest : List ℕ

abbrev pub bytes_at : List MemFile → ℕ → List ℕ
bytes_at [] at = []
bytes_at (file ∷ files) zero = file.bytes
bytes_at (file ∷ files) (suc at) = bytes_at files at

abbrev pub rest_of : List MemFile → Option ℕ → ℕ → List ℕ
rest_of files None given = []
rest_of files (Some at) given = drop given (bytes_at files at)
