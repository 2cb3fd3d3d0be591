-- Edges of outlines, as directions that needn't be primitive.
--
--   last_of u vs              the last of u and vs
--   Steps P u vs              P of each edge of the way from u along vs
--   last_in_list C            the last of a list
--   raw u v                   the outward direction of the way from u to v, as long as the way
--   raws u vs, edges_of C     those of a way, and of the closed way round C
--   back dir                  the opposite direction
--   edge_if t u v             the direction of an edge, turned round where t is true
--   edges_along t u vs, edges_if t C     those of a way, and of the closed way round C
--   all_edges A B F           the edges of A, and those of B and F turned round
--   Across ds dir             dir is one of the directions, reduced
use Rattle.std.specs.Prelude.{List, [], ◌∷◌, ◌++◌, map, neg_ℤ, ◌-ℤ◌, Bool, cond}
use Rattle.integer_laws.specs.Divisors.{Reduces}
use Rattle.integer_laws.specs.Members.{In}
use Rattle.seq_model.specs.Corners.{no_spot}
use Rattle.seq_model.specs.declared.printer.Spot.{Spot}
use Rattle.seq_model.specs.declared.tree.Dir.{Dir}

abbrev pub last_of : Spot → List Spot → Spot
last_of u [] = u
last_of u (v ∷ vs) = last_of v vs

abbrev pub Steps : (Spot → Spot → Type 0) → Spot → List Spot → Type 0
Steps P u [] = Unit {0}
Steps P u (v ∷ vs) = P u v × Steps P v vs

abbrev pub last_in_list : List Spot → Spot
last_in_list [] = no_spot
last_in_list (c ∷ cs) = last_of c cs

abbrev pub raw : Spot → Spot → Dir
raw u v = record { x = v.y -ℤ u.y; y = u.x -ℤ v.x }

abbrev pub raws : Spot → List Spot → List Dir
raws u [] = []
raws u (v ∷ vs) = raw u v ∷ raws v vs

abbrev pub edges_of : List Spot → List Dir
edges_of [] = []
edges_of (c ∷ cs) = raws (last_of c cs) (c ∷ cs)

abbrev pub back : Dir → Dir
back dir = record { x = neg_ℤ dir.x; y = neg_ℤ dir.y }

abbrev pub edge_if : Bool → Spot → Spot → Dir
edge_if t u v = cond t (back (raw u v)) (raw u v)

abbrev pub edges_along : Bool → Spot → List Spot → List Dir
edges_along t u [] = []
edges_along t u (v ∷ vs) = edge_if t u v ∷ edges_along t v vs

abbrev pub edges_if : Bool → List Spot → List Dir
edges_if t C = edges_along t (last_in_list C) C

abbrev pub all_edges : List Spot → List Spot → List Spot → List Dir
all_edges A B F = edges_of A ++ (map back (edges_of B) ++ map back (edges_of F))

pub record Across (ds : List Dir) (dir : Dir) : Type 0 where
  pub long : Dir
  pub member : In long ds
  pub reduces : Reduces long.x long.y dir.x dir.y
