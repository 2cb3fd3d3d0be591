-- What a shelf and a sink show of themselves.
--
--   ShelfView   its files and what it was last asked
--   SinkView    what it took, and how many writes failed
use Rattle.std.specs.Prelude.{ℕ, List, Bool, Option}
use Rattle.seq_io.specs.declared.mem_file.MemFile.{MemFile}

-- the files, if they are told: they never change; what is left of the file that was started, if it is told; the name that the
-- last start took over, whether it failed or not; how many files were started; whether the last call failed; how many calls did
pub record ShelfView : Type 0 where
  pub files : Option (List MemFile)
  pub rest : Option (List ℕ)
  pub named : Option (List ℕ)
  pub starts : ℕ
  pub broken : Bool
  pub faults : ℕ

-- the bytes that were taken, if they are told: what is told now was told before
pub record SinkView : Type 0 where
  pub taken : Option (List ℕ)
  pub faults : ℕ
