-- Points beyond no side, and beside every edge.
--
--   BeyondNoSide S q        q is beyond no side of the list
--   FitsProducts q         its numbers fit the products of the tests: numerators below 2^91 in size, a denominator of 1 to 2^62
--   IsLeftOfEachEdge C q    q lies strictly to the left of each edge of the closed way round C
use Rattle.std.specs.Prelude.{◌<◌, ◌^◌, List, pos, ◌<ℤ◌, ◌≤ℤ◌, unsigned_abs}
use Rattle.seq_model.specs.Points.{Point}
use Rattle.seq_model.specs.Sides.{Side, Beyond}
use Rattle.seq_model.specs.declared.printer.Spot.{Spot}
use Rattle.seq_model.specs.declared.tree.Dir.{Dir}
use Rattle.outline_laws.specs.Corners.{turn_at}
use Rattle.outline_laws.specs.Edges.{Steps, last_in_list}

abbrev pub BeyondNoSide : List Spot → Point → Type 0
BeyondNoSide S q = (dir : Dir) → Side S dir → Beyond S dir q → ⊥

abbrev pub IsLeftOfEachEdge : List Spot → Point → Type 0
IsLeftOfEachEdge C q = Steps (λ a b. pos 0 <ℤ turn_at a b q) (last_in_list C) C

pub record FitsProducts (q : Point) : Type 0 where
  pub x : unsigned_abs q.x < 2 ^ 91
  pub y : unsigned_abs q.y < 2 ^ 91
  pub d : unsigned_abs q.d < 2 ^ 62
  pub positive : pos 1 ≤ℤ q.d
