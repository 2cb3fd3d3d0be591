-- A shelf in memory whose calls are numbered from 0.
--
--   is_failing number failing  == the call of that number is one of those that are to fail
--   start_fails s name         == a start fails: its number says so, or no file has the name
--   after_start s name         == the shelf after a start of that name
--   read_fails s               == a read fails: its number says so
--   read_len s room            == how many bytes a read into a buffer of that length gives
--   after_read s room          == the shelf after that read
use Rattle.std.specs.Prelude.{ℕ, ◌||◌, ◌==◌, not, min, List, [], length, drop, Bool, true, Option, Some, if◌then◌else◌}
use Rattle.std.specs.List.{list_any}
use Rattle.seq_io.specs.Counts.{raised}
use Rattle.seq_io.specs.declared.mem_file.MemFile.{MemFile}
use Rattle.seq_io.specs.Files.{has_file, bytes_of}

pub record ShelfState : Type 0 where
  pub files : List MemFile
  pub rest : List ℕ
  pub named : Option (List ℕ)
  pub starts : ℕ
  pub broken : Bool
  pub faults : ℕ
  pub calls : ℕ
  pub piece : ℕ
  pub failing : List ℕ

abbrev pub is_failing : ℕ → List ℕ → Bool
is_failing number failing = list_any (λ k. k == number) failing

abbrev pub start_fails : ShelfState → List ℕ → Bool
start_fails s name = is_failing s.calls s.failing || not (has_file s.files name)

abbrev pub after_start : ShelfState → List ℕ → ShelfState
after_start s name =
    let fails = start_fails s name in
    record s {
      rest = if fails then [] else bytes_of s.files name;
      named = Some name;
      starts = raised true s.starts;
      broken = fails;
      faults = raised fails s.faults;
      calls = raised true s.calls;
    }

abbrev pub read_fails : ShelfState → Bool
read_fails s = is_failing s.calls s.failing

abbrev pub read_len : ShelfState → ℕ → ℕ
read_len s room = min (min (length s.rest) room) s.piece

abbrev pub after_read : ShelfState → ℕ → ShelfState
after_read s room =
    let fails = read_fails s in
    record s {
      rest = if fails then s.rest else drop (read_len s room) s.rest;
      broken = fails;
      faults = raised fails s.faults;
      calls = raised true s.calls;
    }
