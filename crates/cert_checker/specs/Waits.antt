-- The paths that are still to come, kept as one path and, for each open split, a range of a table of choices.
--
--   also_each path choices        the path with each of the choices more
--   coming table path frame       the paths of a split's children that are still to come: of the path no more is taken than reaches the split
--   waiting table path frames     those of all open splits, the deepest first
--   to_come table trail frames    those of a trail, and of frames of which the last is the deepest
--   AreOpen table trail frames    the splits of these frames are open there
--   AreNested table d frames      the splits stand at depths that rise no more than d, and each has a child that is to come
use Rattle.std.specs.Prelude.{ℕ, ◌<◌, ◌≤◌, List, [], ◌∷◌, ◌++◌, length, reverse, take, map}
use Rattle.seq_model.specs.Trees.{also}
use Rattle.seq_model.specs.declared.tree.Choice.{Choice}
use Rattle.cert_checker.specs.Kept.{range_of}
use Rattle.cert_checker.specs.declared.frames.Frame.{Frame}
use Rattle.cert_checker.specs.declared.kept.Table.{Table}
use Rattle.cert_checker.specs.declared.trail.Trail.{Trail}

abbrev pub also_each : List Choice → List Choice → List (List Choice)
also_each path choices = map (also path) choices

abbrev pub coming : List Choice → List Choice → Frame → List (List Choice)
coming table path frame = also_each (take frame.depth path) (range_of table frame.next frame.end)

abbrev pub waiting : List Choice → List Choice → List Frame → List (List Choice)
waiting table path [] = []
waiting table path (f ∷ frames) = coming table path f ++ waiting table path frames

abbrev pub AreNested : List Choice → ℕ → List Frame → Type 0
AreNested table d [] = Unit {0}
AreNested table d (f ∷ frames) = (f.depth ≤ d) × (f.next < f.end) × (f.end ≤ length table) × AreNested table f.depth frames

abbrev pub to_come : Table → Trail → List Frame → List (List Choice)
to_come table trail frames = waiting table.choices.items trail.path.items (reverse frames)

abbrev pub AreOpen : Table → Trail → List Frame → Type 0
AreOpen table trail frames = AreNested table.choices.items (length trail.path.items) (reverse frames)
