-- The room that an extent leaves for each variable: what the constants of a system's first rows are.
--
--   room_x, room_y job e o   the region's size less the object's span
--   rooms_of job e objects   both of each object, one after the other
use Rattle.std.specs.Prelude.{ℕ, ℤ, ◌-ℤ◌, List, [], ◌∷◌}
use Rattle.seq_model.specs.Plates.{share_of}
use Rattle.seq_model.specs.declared.job.Job.{Job}
use Rattle.seq_model.specs.declared.job.Object.{Object}

abbrev pub room_x : Job → ℕ → Object → ℤ
room_x job e o = share_of job.printer.width job.printer.grid e -ℤ (o.high.x -ℤ o.low.x)

abbrev pub room_y : Job → ℕ → Object → ℤ
room_y job e o = share_of job.printer.depth job.printer.grid e -ℤ (o.high.y -ℤ o.low.y)

abbrev pub rooms_of : Job → ℕ → List Object → List ℤ
rooms_of job e [] = []
rooms_of job e (o ∷ objects) = room_x job e o ∷ room_y job e o ∷ rooms_of job e objects
