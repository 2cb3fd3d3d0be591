-- Half-edges in ascending order, and what a walk over their runs counts.
--
-- These words are close to the code, and serve the contracts of the private functions of `src/half_edges.rt` alone.
-- What `look` promises is in `Edges`, `Volumes` and `Verdicts`.
--
--   point_cmp p q                 the order of points: by x, then by y, then by z
--   ends_cmp v w                  the order of half-edges: by the lower end, then by the upper one
--   edge_of w                     the directed edge that the facet goes
--   half_edge low high forward    the half-edge with these ends
--   half_edge_of e                the half-edge of e, in a list: none for an edge from a point to itself
--   half_edges es                 the half-edges of the edges
--   IsUpright w                   the lower end is before the upper one
--   AscendsFrom u ws              the first of ws isn't before u, and each later one isn't before the one that it follows
--   IsAscending ws                each but the first isn't before the one that it follows
--   sign_of w                     1 where the facet goes from the lower end to the upper one, -1 where it goes back
--   runs u k ws                   the sum of the sizes of the balances of the runs, where u is the last half-edge that was seen,
--                                 and k the balance of its run so far
--   all_runs ws                   the same from the first half-edge on
use Rattle.std.specs.Prelude.{◌≡◌, ◌+◌, ℕ, ℤ, pos, negsuc, ◌+ℤ◌, Bool, true, false, List, [], ◌∷◌, if◌then◌else◌, unsigned_abs}
use Rattle.std.specs.List.{flat_map}
use Rattle.std.specs.Ordering.{int_cmp, is_eq, is_lt, ordering_then, match_ordering}
use Rattle.std.proofs.Common.{Ordering, Less}
use Rattle.seq_model.specs.declared.mesh.Point3.{Point3}
use Rattle.mesh_checks.specs.declared.half_edges.HalfEdge.{HalfEdge}
use Rattle.mesh_checks.specs.Edges.{Edge, edge}

-- by x, then by y, then by z
abbrev pub point_cmp : Point3 → Point3 → Ordering
point_cmp p q = ordering_then (int_cmp p.x q.x) (ordering_then (int_cmp p.y q.y) (int_cmp p.z q.z))

-- by the lower end, then by the upper one, whichever way the facet goes
abbrev pub ends_cmp : HalfEdge → HalfEdge → Ordering
ends_cmp v w = ordering_then (point_cmp v.low w.low) (point_cmp v.high w.high)

-- the directed edge that the facet goes
abbrev pub edge_of : HalfEdge → Edge
edge_of w = if w.forward then edge w.low w.high else edge w.high w.low

-- the half-edge with these ends
abbrev pub half_edge : Point3 → Point3 → Bool → HalfEdge
half_edge low high forward = record { low = low; high = high; forward = forward }

-- none for an edge from a point to itself
abbrev pub half_edge_of : Edge → List HalfEdge
half_edge_of e = match_ordering (point_cmp e.from e.to) (half_edge e.from e.to true ∷ []) [] (half_edge e.to e.from false ∷ [])

-- in the order of the edges
abbrev pub half_edges : List Edge → List HalfEdge
half_edges es = flat_map half_edge_of es

-- the lower end is before the upper one
abbrev pub IsUpright : HalfEdge → Type 0
IsUpright w = point_cmp w.low w.high ≡ Less

-- the first of them isn't before u, and each later one isn't before the one that it follows
abbrev pub AscendsFrom : HalfEdge → List HalfEdge → Type 0
AscendsFrom u [] = Unit {0}
AscendsFrom u (w ∷ ws) = (is_lt (ends_cmp w u) ≡ false) × AscendsFrom w ws

-- each but the first isn't before the one that it follows
abbrev pub IsAscending : List HalfEdge → Type 0
IsAscending [] = Unit {0}
IsAscending (w ∷ ws) = AscendsFrom w ws

-- 1 where the facet goes from the lower end to the upper one, -1 where it goes back
abbrev pub sign_of : HalfEdge → ℤ
sign_of w = if w.forward then pos 1 else negsuc 0

-- a half-edge with other ends begins the next run, and the size of a balance is how many edges stay open
abbrev pub runs : HalfEdge → ℤ → List HalfEdge → ℕ
runs u k [] = unsigned_abs k
runs u k (w ∷ ws) = if is_eq (ends_cmp u w) then runs w (k +ℤ sign_of w) ws else unsigned_abs k + runs w (pos 0 +ℤ sign_of w) ws

-- from the first half-edge on
abbrev pub all_runs : List HalfEdge → ℕ
all_runs [] = 0
all_runs (w ∷ ws) = runs w (pos 0) (w ∷ ws)
