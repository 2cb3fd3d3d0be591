-- Edges of facets, and how many of them are open.
--
--   Edge                      a directed edge: an ordered pair of points
--   edge p q                  the edge from the point p to the point q
--   edges facets              the three edges of each facet: from a to b, from b to c, from c to a
--   turned e                  the edge e the other way
--   same_point p q            a test: the points are one
--   same_edge d e             a test: the edges are one, in the same direction
--   times es e                how often the edge e stands in es
--   excess es e               how often it stands there more often than e turned
--   IsOnce es                 no edge stands twice in es
--   each_once es              the different edges of es
--   open_in es                the excess, summed over the different edges of es
--   open_edges facets         the same for the edges of the facets
--   HasEachOpen facets pairs  no pair stands twice, and none of different points that has an excess is missing
--   IsSumOverPairs facets     open_edges is the sum of the excess over the pairs, whatever such list they stand in
use Rattle.std.specs.Prelude.{◌≡◌, ◌≢◌, ◌<◌, ◌-◌, ℕ, Bool, ◌&&◌, List, [], ◌∷◌, if◌then◌else◌, AllPairs, Contains, count_by, sum_by}
use Rattle.std.specs.List.{flat_map, list_any}
use Rattle.std.specs.Ordering.{int_eq}
use Rattle.seq_model.specs.declared.mesh.Facet.{Facet}
use Rattle.seq_model.specs.declared.mesh.Point3.{Point3}

-- an ordered pair of points
pub record Edge : Type 0 where
  pub from : Point3
  pub to : Point3

-- from p to q
abbrev pub edge : Point3 → Point3 → Edge
edge p q = record { from = p; to = q }

-- from a to b, from b to c and from c to a of each facet
abbrev pub edges : List Facet → List Edge
edges facets = flat_map (λ (f : Facet). edge f.a f.b ∷ edge f.b f.c ∷ edge f.c f.a ∷ []) facets

-- the same edge the other way
abbrev pub turned : Edge → Edge
turned e = edge e.to e.from

-- a test: the points are one
abbrev pub same_point : Point3 → Point3 → Bool
same_point p q = int_eq p.x q.x && (int_eq p.y q.y && int_eq p.z q.z)

-- a test: the edges are one, in the same direction
abbrev pub same_edge : Edge → Edge → Bool
same_edge d e = same_point d.from e.from && same_point d.to e.to

-- how often an edge stands in a list
abbrev pub times : List Edge → Edge → ℕ
times es e = count_by (same_edge e) es

-- how often an edge stands more often than its reverse, which for an edge from a point to itself is 0 times
abbrev pub excess : List Edge → Edge → ℕ
excess es e = times es e - times es (turned e)

-- no edge stands twice
abbrev pub IsOnce : List Edge → Type 0
IsOnce es = AllPairs ◌≢◌ es

-- the different edges of a list
abbrev pub each_once : List Edge → List Edge
each_once [] = []
each_once (e ∷ es) = if list_any (same_edge e) es then each_once es else e ∷ each_once es

-- the sum, over the different edges, of how often each stands more often than its reverse
abbrev pub open_in : List Edge → ℕ
open_in es = sum_by (excess es) (each_once es)

-- the same for the edges of facets
abbrev pub open_edges : List Facet → ℕ
open_edges facets = open_in (edges facets)

-- pairs that are all different, with each ordered pair of different points that has an excess among them
pub record HasEachOpen (facets : List Facet) (pairs : List Edge) : Type 0 where
  pub once : IsOnce pairs
  pub whole : (e : Edge) → e.from ≢ e.to → 0 < excess (edges facets) e → Contains pairs e

-- the sum over ordered pairs of different points: any list that has each open one gives the same sum
abbrev pub IsSumOverPairs : List Facet → Type 0
IsSumOverPairs facets = (pairs : List Edge) → HasEachOpen facets pairs → sum_by (excess (edges facets)) pairs ≡ open_edges facets
