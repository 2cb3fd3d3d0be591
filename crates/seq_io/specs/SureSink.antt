-- A sink in memory that never fails: what it keeps, and whether it was given more than its room.
--
--   goes_over s piece          == the sink was given more than its room, with this piece at the latest
--   after_sure_write s piece   == the sink after a write of that piece
use Rattle.std.specs.Prelude.{ℕ, ◌-◌, List, length, ◌++◌, Bool, ◌||◌, nat_lt, if◌then◌else◌}

pub record SureTaken : Type 0 where
  pub taken : List ℕ
  pub room : ℕ
  pub over : Bool

abbrev pub goes_over : SureTaken → List ℕ → Bool
goes_over s piece = s.over || nat_lt (s.room - length s.taken) (length piece)

abbrev pub after_sure_write : SureTaken → List ℕ → SureTaken
after_sure_write s piece =
    record s { taken = if goes_over s piece then s.taken else s.taken ++ piece; over = goes_over s piece }
