-- The edges of a plan, rounded outwards to whole grains, and what lies between them. Only contracts of the crate's own functions
-- speak of it.
--
--   edges_of job s p        the edges of the place p over the scale s
--   joined a b              the edges of two together
--   edges_with job s a ps   those of a and of more places
--   IsSpanOf job plan a     a are the edges of the plan; the place with which they begin counts twice, which changes nothing
--   IsNearEdges a           their numbers are below 2^92 in size
--   IsNarrowIn region a     the edges are no farther apart than those of the region
--   AreNarrow job e a       so it is in the region of the extent
--   shift_of a corner       the move that brings the low edges to the corner
use Rattle.std.specs.Prelude.{◌≡◌, ℕ, ◌<◌, ◌^◌, ℤ, ◌+ℤ◌, ◌-ℤ◌, ◌≤ℤ◌, unsigned_abs, List, Contains, fold}
use Rattle.std.specs.Int.{int_max, int_min}
use Rattle.integer_laws.specs.Quotients.{ceil, floor}
use Rattle.plan_laws.specs.Inside.{region_at}
use Rattle.seq_model.specs.Jobs.{object_at}
use Rattle.seq_model.specs.declared.job.Job.{Job}
use Rattle.seq_model.specs.declared.plan.Place.{Place}
use Rattle.seq_model.specs.declared.plan.Plan.{Plan}
use Rattle.seq_model.specs.declared.plate.Region.{Region}
use Rattle.seq_model.specs.declared.printer.Spot.{Spot}
use Rattle.plate_shrink.specs.declared.fitting.Edges.{Edges}
use Rattle.plate_shrink.specs.declared.fitting.Shift.{Shift}

abbrev pub edges_of : Job → ℤ → Place → Edges
edges_of job s p = record {
  west = (object_at job p.object).low.x +ℤ floor p.x s;
  east = (object_at job p.object).high.x +ℤ ceil p.x s;
  south = (object_at job p.object).low.y +ℤ floor p.y s;
  north = (object_at job p.object).high.y +ℤ ceil p.y s;
}

abbrev pub joined : Edges → Edges → Edges
joined a b = record {
  west = int_min a.west b.west;
  east = int_max a.east b.east;
  south = int_min a.south b.south;
  north = int_max a.north b.north;
}

abbrev pub edges_with : Job → ℤ → Edges → List Place → Edges
edges_with job s all places = fold (λ a p. joined a (edges_of job s p)) all places

pub record IsSpanOf (job : Job) (plan : Plan) (a : Edges) : Type 0 where
  pub first : Place
  pub member : Contains plan.places first
  pub are : a ≡ edges_with job plan.scale (edges_of job plan.scale first) plan.places

pub record IsNearEdges (a : Edges) : Type 0 where
  pub west : unsigned_abs a.west < 2 ^ 92
  pub east : unsigned_abs a.east < 2 ^ 92
  pub south : unsigned_abs a.south < 2 ^ 92
  pub north : unsigned_abs a.north < 2 ^ 92

pub record IsNarrowIn (region : Region) (a : Edges) : Type 0 where
  pub width : (a.east -ℤ a.west) ≤ℤ region.w
  pub depth : (a.north -ℤ a.south) ≤ℤ region.h

abbrev pub AreNarrow : Job → ℕ → Edges → Type 0
AreNarrow job e a = IsNarrowIn (region_at job e) a

abbrev pub shift_of : Edges → Spot → Shift
shift_of a corner = record { x = corner.x -ℤ a.west; y = corner.y -ℤ a.south }
