-- Places that the tests have room for.
--
--   IsRoomy p       the numerators of place p are below 2^90 in size
--   gap D e l       place l less place e, over the scale D
use Rattle.std.specs.Prelude.{◌<◌, ◌^◌, ℤ, ◌-ℤ◌, unsigned_abs}
use Rattle.seq_model.specs.Points.{Point}
use Rattle.seq_model.specs.declared.plan.Place.{Place}

pub record IsRoomy (p : Place) : Type 0 where
  pub x : unsigned_abs p.x < 2 ^ 90
  pub y : unsigned_abs p.y < 2 ^ 90

abbrev pub gap : ℤ → Place → Place → Point
gap scale e l = record { x = l.x -ℤ e.x; y = l.y -ℤ e.y; d = scale }
