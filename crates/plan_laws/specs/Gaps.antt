-- The gap of a contact at a point.
--
--   gap_at job e d u c     the place of the contact's later object less that of its earlier one, at the point u / d
use Rattle.std.specs.Prelude.{ℕ, ℤ, ◌-ℤ◌, List}
use Rattle.seq_model.specs.Points.{Point}
use Rattle.seq_model.specs.Systems.{place_of}
use Rattle.seq_model.specs.declared.job.Job.{Job}
use Rattle.seq_model.specs.declared.tree.Contact.{Contact}

abbrev pub gap_at : Job → ℕ → ℤ → List ℤ → Contact → Point
gap_at job e d u c =
    let i = place_of job e d u c.i in
    let j = place_of job e d u c.j in
    record { x = j.x -ℤ i.x; y = j.y -ℤ i.y; d = d }
