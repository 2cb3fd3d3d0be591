-- A shelf in memory that never fails.
use Rattle.std.specs.Prelude.{ℕ, List, Option}
use Rattle.seq_io.specs.declared.mem_file.MemFile.{MemFile}

pub record SureState : Type 0 where
  pub files : List MemFile
  pub rest : List ℕ
  pub named : Option (List ℕ)
  pub starts : ℕ
