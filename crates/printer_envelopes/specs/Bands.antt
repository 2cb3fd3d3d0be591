-- The bands that a part reaches, counted from the band that is printed.
--
--   first_band from step     from / step, rounded down
--   last_band to step        to / step, rounded up
--   SomeBandsMeet a p b      some band of the later zone b and some of the earlier zone a meet by the part p
use Rattle.std.specs.Prelude.{ℕ, ℤ, ◌≤◌, unsigned_abs}
use Rattle.integer_laws.specs.Quotients.{floor, ceil}
use Rattle.seq_model.specs.Scenes.{Meets}
use Rattle.seq_model.specs.declared.job.Zone.{Zone}
use Rattle.seq_model.specs.declared.printer.Part.{Part}

-- the height at which a part begins, in bands: a band that it overlaps in height at some moment counts
abbrev pub first_band : ℤ → ℤ → ℕ
first_band from step = unsigned_abs (floor from step)

-- the height at which a part ends, in bands: a band that it overlaps in height at some moment counts
abbrev pub last_band : ℤ → ℤ → ℕ
last_band to step = unsigned_abs (ceil to step)

-- while some band of the later zone is printed, the part reaches some band of the earlier one
pub record SomeBandsMeet (earlier : Zone) (part : Part) (later : Zone) : Type 0 where
  pub b : ℕ
  pub c : ℕ
  pub b_low : later.first ≤ b
  pub b_high : b ≤ later.last
  pub c_low : earlier.first ≤ c
  pub c_high : c ≤ earlier.last
  pub meets : Meets part b c
