-- Closed ways around convex polygons, and which side of their edges a point lies on.
--
--   last_of u vs        the last of u and vs
--   next_of vs z        the first of vs, or z
--   Steps P u vs        P of each edge of the way from u along vs
--   TurnsAlong u vs z   the way from u along vs to z turns left at each corner of vs
--   Seen S a b          no member of S lies to the right of the way from a to b
--   IsLeft q u vs       q lies to the left of each edge of the way from u along vs
--   left_of_edge        a point that is inner to S lies to the left of an edge that sees S, with some member to its left
--   left_of_inner       so it lies to the left of each edge of a polygon that S lies in
--   inner_of_left       and what lies to the left of each edge of a polygon is inner to its corners
use Rattle.std.proofs.Common.{◌≡◌, List, [], ◌∷◌, map, refl, arith, ℤ, pos, ◌+ℤ◌, ◌-ℤ◌, ◌*ℤ◌, ◌≤ℤ◌, ◌<ℤ◌, inl, inr}
use Rattle.std.proofs.lemmas.Int.{ints}
use Rattle.integer_laws.specs.Laws.Ring.{expand}
use Rattle.integer_laws.specs.Laws.Order.{lt_from, mul_positive}
use Rattle.integer_laws.specs.Members.{In}
use Rattle.seq_model.specs.declared.printer.Spot.{Spot}
use Rattle.seq_model.specs.Points.{Point, IsPoint}
use Rattle.seq_model.specs.Outlines.{Inner}
use Rattle.outline_laws.specs.Corners.{turn, turn_at}
use Rattle.outline_laws.specs.Laws.Vectors.{cross, corner}
use Rattle.outline_laws.specs.Laws.Means.{inner_below}
use Rattle.outline_laws.specs.Laws.Wachspress.{from, final, Edges, Turns, inner_if_left}
pub use Rattle.outline_laws.specs.Edges.{last_of, Steps}

abbrev pub next_of : List Spot → Spot → Spot
next_of [] z = z
next_of (v ∷ vs) z = v

abbrev pub TurnsAlong : Spot → List Spot → Spot → Type 0
TurnsAlong u [] z = Unit {0}
TurnsAlong u (v ∷ vs) z = (pos 0 <ℤ turn u v (next_of vs z)) × TurnsAlong v vs z

abbrev pub Seen : List Spot → Spot → Spot → Type 0
Seen S a b = (s : Spot) → In s S → pos 0 ≤ℤ turn a b s

abbrev pub IsLeft : Point → Spot → List Spot → Type 0
IsLeft q u vs = Steps (λ a b. pos 0 <ℤ turn_at a b q) u vs

-- ---- from inner to left
pub left_of_edge : (u v : Spot) (S : List Spot) (q : Point) → Seen S u v → (t : Spot) → In t S → pos 0 <ℤ turn u v t → Inner S q → pos 0 <ℤ turn_at u v q
left_of_edge u v S q seen t i h m =
    lt_from (inner_below (v.y -ℤ u.y) (u.x -ℤ v.x) ((v.y -ℤ u.y) *ℤ u.x +ℤ (u.x -ℤ v.x) *ℤ u.y) S q (λ s j. at_most u v s (seen s j)) t i (below_is u v t h) m) (simp expand (omega (arith, ints)))
  where
    turn_is : (u v s : Spot) → turn u v s ≡ ((v.y -ℤ u.y) *ℤ u.x +ℤ (u.x -ℤ v.x) *ℤ u.y) -ℤ ((v.y -ℤ u.y) *ℤ s.x +ℤ (u.x -ℤ v.x) *ℤ s.y)
    turn_is u v s = simp expand (omega (arith, ints))

    at_most : (u v s : Spot) → pos 0 ≤ℤ turn u v s → ((v.y -ℤ u.y) *ℤ s.x +ℤ (u.x -ℤ v.x) *ℤ s.y) ≤ℤ ((v.y -ℤ u.y) *ℤ u.x +ℤ (u.x -ℤ v.x) *ℤ u.y)
    at_most u v s h = by _ _ _ (turn_is u v s) h
      where
        by : (t g n : ℤ) → t ≡ g -ℤ n → pos 0 ≤ℤ t → n ≤ℤ g
        by t g n e h = omega (arith, ints)

    below_is : (u v s : Spot) → pos 0 <ℤ turn u v s → ((v.y -ℤ u.y) *ℤ s.x +ℤ (u.x -ℤ v.x) *ℤ s.y) <ℤ ((v.y -ℤ u.y) *ℤ u.x +ℤ (u.x -ℤ v.x) *ℤ u.y)
    below_is u v s h = by _ _ _ (turn_is u v s) h
      where
        by : (t g n : ℤ) → t ≡ g -ℤ n → pos 0 <ℤ t → n <ℤ g
        by t g n e h = omega (arith, ints)

next_in : (S vs : List Spot) (z : Spot) → ((c : Spot) → In c vs → In c S) → In z S → In (next_of vs z) S
next_in S [] z i h = h
next_in S (w ∷ vs) z i h = i w (inl refl)

pub left_of_inner : (q : Point) (S : List Spot) (u : Spot) (vs : List Spot) (z : Spot) → ((c : Spot) → In c vs → In c S) → In z S → Steps (Seen S) u vs → TurnsAlong u vs z → Inner S q → IsLeft q u vs
left_of_inner q S u [] z i h s t m = tt
left_of_inner q S u (v ∷ vs) z i h s t m =
    (left_of_edge u v S q s.0 (next_of vs z) (next_in S vs z (λ c k. i c (inr k)) h) t.0 m, left_of_inner q S v vs z (λ c k. i c (inr k)) h s.1 t.1 m)

-- ---- from left to inner: the same turns, seen from the point
cross_is : (q : Point) (a b : Spot) → cross (from q a) (from q b) ≡ q.d *ℤ turn_at a b q
cross_is q a b = simp expand (omega (arith, ints))

corner_is : (q : Point) (u v w : Spot) → corner (from q u) (from q v) (from q w) ≡ q.d *ℤ (q.d *ℤ turn u v w)
corner_is q u v w = simp expand (omega (arith, ints))

cross_positive : (q : Point) (a b : Spot) → pos 0 <ℤ q.d → pos 0 <ℤ turn_at a b q → pos 0 <ℤ cross (from q a) (from q b)
cross_positive q a b p h = rw (cross_is q a b) (mul_positive q.d (turn_at a b q) p h)

corner_positive : (q : Point) (u v w : Spot) → pos 0 <ℤ q.d → pos 0 <ℤ turn u v w → pos 0 <ℤ corner (from q u) (from q v) (from q w)
corner_positive q u v w p h = rw (corner_is q u v w) (mul_positive q.d _ p (mul_positive q.d (turn u v w) p h))

edges : (q : Point) (u : Spot) (vs : List Spot) (z : Spot) → pos 0 <ℤ q.d → IsLeft q u vs → pos 0 <ℤ turn_at (last_of u vs) z q → Edges (from q u) (map (from q) vs) (from q z)
edges q u [] z p l h = cross_positive q u z p h
edges q u (v ∷ vs) z p l h = (cross_positive q u v p l.0, edges q v vs z p l.1 h)

turns : (q : Point) (u : Spot) (vs : List Spot) (z : Spot) → pos 0 <ℤ q.d → TurnsAlong u vs z → Turns (from q u) (map (from q) vs) (from q z)
turns q u [] z p t = tt
turns q u (v ∷ []) z p t = (corner_positive q u v z p t.0, tt)
turns q u (v ∷ w ∷ vs) z p t = (corner_positive q u v w p t.0, turns q v (w ∷ vs) z p t.1)

final_is : (q : Point) (u : Spot) (vs : List Spot) → final (from q u) (map (from q) vs) ≡ from q (last_of u vs)
final_is q u [] = refl
final_is q u (v ∷ vs) = final_is q v vs

pub inner_of_left : (q : Point) → IsPoint q → (c : Spot) (cs : List Spot) → TurnsAlong (last_of c cs) (c ∷ cs) c → IsLeft q (last_of c cs) (c ∷ cs) → Inner (c ∷ cs) q
inner_of_left q is c cs t l =
    let low = is.positive in
    let p : pos 0 <ℤ q.d = omega (arith, ints) in
    let u = last_of c cs in
    let e = edges q u (c ∷ cs) c p l (rw last_again l.0) in
    inner_if_left q is c cs (rw (final_is q c cs) (e, turns q u (c ∷ cs) c p t))
  where
    last_again : last_of (last_of c cs) (c ∷ cs) ≡ last_of c cs
    last_again = refl
