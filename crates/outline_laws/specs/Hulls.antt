-- Convex hulls of lists.
--
--   Keeps S C          C are members of S, each member of S is within them, and a point is inner to both or to none
--   Hull S C           and C are the corners of a convex outline
--   HullOf S           corners that are the hull of S
use Rattle.std.specs.Prelude.{List}
use Rattle.integer_laws.specs.Members.{In}
use Rattle.seq_model.specs.Corners.{AreCorners}
use Rattle.seq_model.specs.Outlines.{Inner, Within}
use Rattle.seq_model.specs.Points.{Point, at_spot}
use Rattle.seq_model.specs.declared.printer.Spot.{Spot}

pub record Keeps (S C : List Spot) : Type 0 where
  pub members : (s : Spot) → In s C → In s S
  pub within : (s : Spot) → In s S → Within C (at_spot s)
  pub to_list : (q : Point) → Inner C q → Inner S q
  pub to_corners : (q : Point) → Inner S q → Inner C q

pub record Hull (S C : List Spot) : Type 0 where
  pub corners : AreCorners C
  pub keeps : Keeps S C

pub record HullOf (S : List Spot) : Type 0 where
  pub corners : List Spot
  pub hull : Hull S corners
