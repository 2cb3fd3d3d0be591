-- Sides of a list, and the points inner to it.
--
--   reached_at            a member that no member passes along a direction has the greatest value
--   some_below            in a list with area some member lies below the greatest value of a direction
--   IsNormal u v dir      the primitive outward direction of the way from u to v
--   normal_of             two different spots have one
--   side_of_edge          an edge that sees the list has a side
--   turn_beyond           a point that is not beyond it lies to the left of the edge
--   free_of_inner         an inner point of a list with area is beyond no side
--   inner_of_free         and a point beyond no side is inner to it
use Rattle.std.proofs.Common.{◌≡◌, ℕ, zero, suc, ◌+◌, ◌<◌, ◌≤◌, int_div, List, [], ◌∷◌, length, refl, ap₂, sym, subst, ◌∙◌, arith, ℤ, pos, negsuc, neg_ℤ, ◌+ℤ◌, ◌-ℤ◌, ◌*ℤ◌, ◌≤ℤ◌, ◌<ℤ◌, inl, inr, unsigned_abs}
use Rattle.std.proofs.lemmas.Int.{ints, by_lt_z}
use Rattle.std.proofs.lemmas.Nat.Gcd.{dvd-zero}
use Rattle.std.specs.Int.{◌∣◌}
use Rattle.integer_laws.specs.Divisors.{IsPrimitive, Reduces}
use Rattle.integer_laws.specs.Laws.Divisors.{gcd_is, reduces_by_gcd}
use Rattle.integer_laws.specs.Extremes.{IsGreatest}
use Rattle.integer_laws.specs.Laws.Extremes.{greatest_is, greatest_unique}
use Rattle.integer_laws.specs.Members.{In}
use Rattle.integer_laws.specs.Laws.Members.{In-from_contains, Contains-from_in}
use Rattle.integer_laws.specs.Laws.Order.{le_from, lt_from, same_from, add_same, mul_same, mul_positive, cancel_le, cancel_same}
use Rattle.integer_laws.specs.Laws.Ring.{expand}
use Rattle.seq_model.specs.declared.printer.Spot.{Spot}
use Rattle.seq_model.specs.declared.tree.Dir.{Dir}
use Rattle.seq_model.specs.Points.{Point, IsPoint}
use Rattle.seq_model.specs.Outlines.{Inner}
use Rattle.seq_model.specs.Sides.{along, greatest_along, Side, Beyond}
use Rattle.model_laws.specs.Laws.Turning.{left_by_list}
use Rattle.outline_laws.specs.Corners.{turn, turn_at, HasArea}
use Rattle.outline_laws.specs.Laws.Means.{inner_below}
use Rattle.outline_laws.specs.Laws.Polygons.{last_of, next_of, Steps, TurnsAlong, Seen, IsLeft}
use Rattle.outline_laws.specs.Laws.Within.{seen_by_edges, polygon_turns, inner_polygon}
use Rattle.outline_laws.specs.Hulls.{Hull}
use Rattle.outline_laws.specs.Laws.EveryList.{hull_of}
use Rattle.outline_laws.specs.Beyond.{BeyondNoSide}
use Rattle.outline_laws.specs.Laws.Area.{three_of_area}

-- ---- the greatest value
pub greatest_of : (dir : Dir) (S : List Spot) (s : Spot) → In s S → IsGreatest (along dir) S (greatest_along dir S)
greatest_of dir [] s i = absurd i
greatest_of dir (x ∷ xs) s i = greatest_is (along dir) x xs

pub reached_at : (dir : Dir) (S : List Spot) (u : Spot) → In u S → ((s : Spot) → In s S → along dir s ≤ℤ along dir u) → along dir u ≡ greatest_along dir S
reached_at dir S u i most =
    greatest_unique (along dir) S (along dir u) (greatest_along dir S) (record { bound = most; at = u; member = i; reached = refl }) (greatest_of dir S u i)

-- ---- a member below
flat : (p q ux uy vx vy : ℤ) → p *ℤ ux +ℤ q *ℤ uy ≡ pos 0 → p *ℤ vx +ℤ q *ℤ vy ≡ pos 0 → (p *ℤ (ux *ℤ vy -ℤ uy *ℤ vx) ≡ pos 0) × (q *ℤ (ux *ℤ vy -ℤ uy *ℤ vx) ≡ pos 0)
flat p q ux uy vx vy e f = (
  same_from (add_same (mul_same vy e) (mul_same (neg_ℤ uy) f)) (simp expand (omega (arith, ints))),
  same_from (add_same (mul_same (neg_ℤ vx) e) (mul_same ux f)) (simp expand (omega (arith, ints))),
)

no_factor : (p c : ℤ) → pos 0 <ℤ c → p *ℤ c ≡ pos 0 → p ≡ pos 0
no_factor p c h e = cancel_same c h (same_from e (simp expand (omega (arith, ints))))

pub not_both : (x y : ℤ) → IsPrimitive x y → x ≡ pos 0 → y ≡ pos 0 → ⊥
not_both x y prim e f = never refl (prim 2 (even x e) (even y f))
  where
    even : (x : ℤ) → x ≡ pos 0 → 2 ∣ unsigned_abs x
    even x e = subst (λ t. 2 ∣ unsigned_abs t) (sym e) (dvd-zero 2)

    never : {n : ℕ} → n ≡ 2 → n ≡ 1 → ⊥
    never e f = omega (arith, e, f)

level_area : (dir : Dir) (i j k : Spot) (g : ℤ) → IsPrimitive dir.x dir.y → along dir i ≡ g → along dir j ≡ g → along dir k ≡ g → pos 0 <ℤ turn i j k → ⊥
level_area dir i j k g prim a b c t =
    let z = flat dir.x dir.y (j.x -ℤ i.x) (j.y -ℤ i.y) (k.x -ℤ i.x) (k.y -ℤ i.y) (apart i j a b) (apart i k a c) in
    not_both dir.x dir.y prim (no_factor dir.x (turn i j k) t z.0) (no_factor dir.y (turn i j k) t z.1)
  where
    apart : (i j : Spot) → along dir i ≡ g → along dir j ≡ g → dir.x *ℤ (j.x -ℤ i.x) +ℤ dir.y *ℤ (j.y -ℤ i.y) ≡ pos 0
    apart i j a b = same_from (add_same b (mul_same (neg_ℤ (pos 1)) a)) (simp expand (omega (arith, ints)))

pub record Lower (S : List Spot) (dir : Dir) (g : ℤ) : Type 0 where
  pub at : Spot
  pub member : In at S
  pub lower : along dir at <ℤ g

pub some_below : (S : List Spot) (dir : Dir) (g : ℤ) → HasArea S → IsPrimitive dir.x dir.y → ((s : Spot) → In s S → along dir s ≤ℤ g) → Lower S dir g
some_below S dir g area prim most =
    try area.i (In-from_contains S area.i area.i_in) (λ a. try area.j (In-from_contains S area.j area.j_in) (λ b. try area.k (In-from_contains S area.k area.k_in) (λ c. absurd (level_area dir area.i area.j area.k g prim a b c area.turns))))
  where
    try : (s : Spot) → In s S → (along dir s ≡ g → Lower S dir g) → Lower S dir g
    try s i next = by_lt_z (along dir s) g (λ h. record { at = s; member = i; lower = h }) (λ h. next (same _ _ (most s i) h))
      where
        same : (a b : ℤ) → a ≤ℤ b → b ≤ℤ a → a ≡ b
        same a b h k = omega (arith, ints)

-- ---- normals
abbrev pub IsNormal : Spot → Spot → Dir → Type 0
IsNormal u v dir = Reduces (v.y -ℤ u.y) (u.x -ℤ v.x) dir.x dir.y

pub record Normal (u v : Spot) : Type 0 where
  pub dir : Dir
  pub is : IsNormal u v dir

pub some_size : (x y : ℤ) → (x ≡ pos 0 → y ≡ pos 0 → ⊥) → 0 < unsigned_abs x + unsigned_abs y
some_size (pos zero) (pos zero) n = absurd (n refl refl)
some_size (pos zero) (pos (suc m)) n = omega arith
some_size (pos zero) (negsuc m) n = omega arith
some_size (pos (suc m)) y n = omega arith
some_size (negsuc m) y n = omega arith

pub normal_of : (u v : Spot) → (u ≡ v → ⊥) → Normal u v
normal_of u v apart =
    let x = v.y -ℤ u.y in
    let y = u.x -ℤ v.x in
    let g = gcd_is (unsigned_abs x) (unsigned_abs y) in
    record {
      dir = record { x = int_div x (pos g.0); y = int_div y (pos g.0) };
      is = reduces_by_gcd x y (pos g.0) (record { nonneg = omega (arith, ints); is = g.1 }) (some_size x y never);
    }
  where
    never : v.y -ℤ u.y ≡ pos 0 → u.x -ℤ v.x ≡ pos 0 → ⊥
    never e f = apart (ap₂ spot (level u.x v.x f) (sym (level v.y u.y e)))
      where
        spot : ℤ → ℤ → Spot
        spot x y = record { x = x; y = y }

        level : (a b : ℤ) → a -ℤ b ≡ pos 0 → a ≡ b
        level a b e = omega (arith, ints)

-- ---- edges
edge_value : (k x y ux uy vx vy sx sy t : ℤ) → (vy -ℤ uy) ≡ k *ℤ x → (ux -ℤ vx) ≡ k *ℤ y → t ≡ (vx -ℤ ux) *ℤ (sy -ℤ uy) -ℤ (vy -ℤ uy) *ℤ (sx -ℤ ux)
    → t ≡ k *ℤ ((x *ℤ ux +ℤ y *ℤ uy) -ℤ (x *ℤ sx +ℤ y *ℤ sy))
edge_value k x y ux uy vx vy sx sy t e f g =
    same_from (add_same g (add_same (mul_same (ux -ℤ sx) e) (mul_same (uy -ℤ sy) f))) (simp expand (omega (arith, ints)))

pub turn_value : (u v s : Spot) (dir : Dir) (n : IsNormal u v dir) → turn u v s ≡ n.k *ℤ (along dir u -ℤ along dir s)
turn_value u v s dir n = edge_value n.k dir.x dir.y u.x u.y v.x v.y s.x s.y (turn u v s) n.x_is n.y_is refl

pub edge_most : (u v s : Spot) (dir : Dir) → IsNormal u v dir → pos 0 ≤ℤ turn u v s → along dir s ≤ℤ along dir u
edge_most u v s dir n h =
    let e = turn_value u v s dir n in
    let d : pos 0 ≤ℤ (along dir u -ℤ along dir s) = cancel_le n.k n.positive (le_from (subst (λ t. pos 0 ≤ℤ t) e h) (simp expand (omega (arith, ints)))) in
    omega (arith, ints)

pub edge_level : (u v : Spot) (dir : Dir) → IsNormal u v dir → along dir v ≡ along dir u
edge_level u v dir n =
    let e = turn_value u v v dir n in
    let z : turn u v v ≡ pos 0 = simp expand (omega (arith, ints)) in
    let d : along dir u -ℤ along dir v ≡ pos 0 = cancel_same n.k n.positive (same_from (sym e ∙ z) (simp expand (omega (arith, ints)))) in
    omega (arith, ints)

pub edge_reaches : (S : List Spot) (u v : Spot) (dir : Dir) → In u S → Seen S u v → IsNormal u v dir → along dir u ≡ greatest_along dir S
edge_reaches S u v dir i seen n = reached_at dir S u i (λ s m. edge_most u v s dir n (seen s m))

pub side_of_edge : (S : List Spot) (u v : Spot) (dir : Dir) → In u S → In v S → (u ≡ v → ⊥) → Seen S u v → IsNormal u v dir → Side S dir
side_of_edge S u v dir i j apart seen n =
    let at = edge_reaches S u v dir i seen n in
    record { primitive = n.primitive; a = u; b = v; a_in = Contains-from_in S u i; b_in = Contains-from_in S v j; apart = apart; at_a = at; at_b = edge_level u v dir n ∙ at }

point_value : (k x y ux uy vx vy qx qy d t : ℤ) → (vy -ℤ uy) ≡ k *ℤ x → (ux -ℤ vx) ≡ k *ℤ y → t ≡ (vx -ℤ ux) *ℤ (qy -ℤ d *ℤ uy) -ℤ (vy -ℤ uy) *ℤ (qx -ℤ d *ℤ ux)
    → t ≡ k *ℤ ((x *ℤ ux +ℤ y *ℤ uy) *ℤ d -ℤ (x *ℤ qx +ℤ y *ℤ qy))
point_value k x y ux uy vx vy qx qy d t e f g =
    same_from (add_same g (add_same (mul_same (d *ℤ ux -ℤ qx) e) (mul_same (d *ℤ uy -ℤ qy) f))) (simp expand (omega (arith, ints)))

pub turn_at_value : (u v : Spot) (q : Point) (dir : Dir) (n : IsNormal u v dir) → turn_at u v q ≡ n.k *ℤ (along dir u *ℤ q.d -ℤ (dir.x *ℤ q.x +ℤ dir.y *ℤ q.y))
turn_at_value u v q dir n = point_value n.k dir.x dir.y u.x u.y v.x v.y q.x q.y q.d (turn_at u v q) n.x_is n.y_is refl

pub left_of_side : (S : List Spot) (u v : Spot) (q : Point) (dir : Dir) → IsNormal u v dir → along dir u ≡ greatest_along dir S → (Beyond S dir q → ⊥) → pos 0 <ℤ turn_at u v q
left_of_side S u v q dir n at free =
    by_lt_z (dir.x *ℤ q.x +ℤ dir.y *ℤ q.y) (greatest_along dir S *ℤ q.d) (λ h. rw (turn_at_value u v q dir n) (mul_positive n.k _ n.positive (over h))) (λ h. absurd (free h))
  where
    over : (dir.x *ℤ q.x +ℤ dir.y *ℤ q.y) <ℤ (greatest_along dir S *ℤ q.d) → pos 0 <ℤ (along dir u *ℤ q.d -ℤ (dir.x *ℤ q.x +ℤ dir.y *ℤ q.y))
    over h = rw at (up _ _ h)
      where
        up : (a b : ℤ) → a <ℤ b → pos 0 <ℤ (b -ℤ a)
        up a b h = omega (arith, ints)

-- ---- the theorem
pub free_of_inner : (S : List Spot) (q : Point) → HasArea S → Inner S q → BeyondNoSide S q
free_of_inner S q area m dir side beyond =
    let g = greatest_along dir S in
    let is = greatest_of dir S side.a (In-from_contains S side.a side.a_in) in
    let low = some_below S dir g area side.primitive is.bound in
    never (inner_below dir.x dir.y g S q is.bound low.at low.member low.lower m) beyond
  where
    never : {a b : ℤ} → a <ℤ b → b ≤ℤ a → ⊥
    never h k = absurd (omega (arith, ints))

pub apart_of_turn : (u v w : Spot) → pos 0 <ℤ turn u v w → u ≡ v → ⊥
apart_of_turn u v w h e = never (subst (λ t. pos 0 <ℤ turn u t w) (sym e) h)
  where
    never : pos 0 <ℤ turn u u w → ⊥
    never h = let z : pos 0 <ℤ pos 0 = lt_from h (simp expand (omega (arith, ints))) in absurd (omega (arith, ints, z))

left_of_free : (S : List Spot) (q : Point) → BeyondNoSide S q → (u : Spot) (vs : List Spot) (z : Spot) → In u S → ((c : Spot) → In c vs → In c S) → Steps (Seen S) u vs → TurnsAlong u vs z → IsLeft q u vs
left_of_free S q free u [] z i j s t = tt
left_of_free S q free u (v ∷ vs) z i j s t =
    let apart = apart_of_turn u v (next_of vs z) t.0 in
    let n = normal_of u v apart in
    let side = side_of_edge S u v n.dir i (j v (inl refl)) apart s.0 n.is in
    (left_of_side S u v q n.dir n.is (edge_reaches S u v n.dir i s.0 n.is) (free n.dir side), left_of_free S q free v vs z (j v (inl refl)) (λ c k. j c (inr k)) s.1 t.1)

pub last_in : (u : Spot) (vs : List Spot) → In (last_of u vs) (u ∷ vs)
last_in u [] = inl refl
last_in u (v ∷ vs) = inr (last_in v vs)

pub inner_of_free : (S : List Spot) (q : Point) → HasArea S → IsPoint q → BeyondNoSide S q → Inner S q
inner_of_free S q area is free = let h = hull_of S in by h.corners h.hull (three_of_area S h.corners h.hull area)
  where
    by : (C : List Spot) → Hull S C → 3 ≤ length C → Inner S q
    by [] h l = absurd (omega arith)
    by (a ∷ []) h l = absurd (omega arith)
    by (a ∷ b ∷ []) h l = absurd (omega arith)
    by (a ∷ b ∷ c ∷ cs) h l =
        let C = a ∷ b ∷ c ∷ cs in
        let t = left_by_list C h.corners in
        let left = left_of_free S q free (last_of c cs) C a (h.keeps.members (last_of c cs) (inr (inr (last_in c cs)))) h.keeps.members (seen_by_edges S a b c cs h) (polygon_turns a b c cs t) in
        h.keeps.to_list q (inner_polygon a b c cs t q is left)
