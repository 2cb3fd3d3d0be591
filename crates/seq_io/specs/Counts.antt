-- Counts in 64 bits, of calls that failed and of files that were started: they never fall, and stand still at their end.
--
--   raised more n             == the count n, one more where there is one to count
--   Rose before now           == the count rose, or stands at its end
--   Counted fails before now  == one call more is counted where one failed, and none where none did
use Rattle.std.specs.Prelude.{ℕ, ◌≡◌, ◌+◌, ◌-◌, ◌^◌, ◌≤◌, min, Bool, if◌then◌else◌}

abbrev pub raised : Bool → ℕ → ℕ
raised more n = if more then min (n + 1) (2 ^ 64 - 1) else n

abbrev pub Rose : ℕ → ℕ → Type 0
Rose before now = min (before + 1) (2 ^ 64 - 1) ≤ now

pub record Counted (fails : Bool) (before now : ℕ) : Type 0 where
  pub later : before ≤ now
  pub count : now ≡ raised fails before
