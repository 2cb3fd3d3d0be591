-- A sink in memory, with a room of its own, whose writes of at least one byte are numbered from 0.
--
--   write_fails s piece    == a write fails: its number says so, or the room is used up
--   write_len s piece      == how many bytes of the piece a write takes
--   after_write s piece    == the sink after a write of that piece
use Rattle.std.specs.Prelude.{ℕ, ◌-◌, ◌≤◌, ◌==◌, ◌&&◌, ◌||◌, not, min, List, length, take, ◌++◌, Bool, if◌then◌else◌}
use Rattle.seq_io.specs.Counts.{raised}
use Rattle.seq_io.specs.MemShelf.{is_failing}

pub record SinkState : Type 0 where
  pub taken : List ℕ
  pub room : ℕ
  pub faults : ℕ
  pub calls : ℕ
  pub piece : ℕ
  pub failing : List ℕ

-- a sink holds the memory for its room, and keeps no more
pub record HasRoom (piece len room capacity : ℕ) : Type 0 where
  pub some : 1 ≤ piece
  pub within : len ≤ room
  pub reserved : room ≤ capacity

abbrev pub write_fails : SinkState → List ℕ → Bool
write_fails s piece = not (length piece == 0) && (is_failing s.calls s.failing || length s.taken == s.room)

abbrev pub write_len : SinkState → List ℕ → ℕ
write_len s piece = min (min (length piece) (s.room - length s.taken)) s.piece

abbrev pub after_write : SinkState → List ℕ → SinkState
after_write s piece =
    record s {
      taken = if write_fails s piece then s.taken else s.taken ++ take (write_len s piece) piece;
      faults = raised (write_fails s piece) s.faults;
      calls = raised (not (length piece == 0)) s.calls;
    }
