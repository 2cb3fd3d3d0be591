-- The corner points of a facet, as the code keeps them.
--
--   as_point p            the point that it is
--   points_of ps          the same of each
--   Adds old new more     the new ones are the old ones, and these
use Rattle.std.specs.Prelude.{◌≡◌, ◌++◌, List, map}
use Rattle.seq_model.specs.Points.{Point}
use Rattle.mesh_slices.specs.declared.corner.CornerPoint.{CornerPoint}

abbrev pub as_point : CornerPoint → Point
as_point p = record { x = p.x; y = p.y; d = p.d }

abbrev pub points_of : List CornerPoint → List Point
points_of ps = map as_point ps

abbrev pub Adds : List CornerPoint → List CornerPoint → List Point → Type 0
Adds old new more = points_of new ≡ points_of old ++ more
