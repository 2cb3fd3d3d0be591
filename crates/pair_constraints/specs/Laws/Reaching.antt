-- What reaches at least as far along every primitive direction.
--
--   Outreaches T S           along each primitive direction S reaches no farther than T
--   inner_of_list            a list with area has an inner point
--   reaches_of_covers        what covers a list outreaches it
--   covers_of_reaches        and the other way round
--   covers_onward            so covering goes on from list to list
--   difference_reaches       a difference outreaches that of outlines which its own outreach
--   is_behind S u v          no member lies to the right of the way from u to v
--   are_behind S u vs        of no way from u along vs
--   outreaches_of_behind     then the outline outreaches them
use Rattle.std.proofs.Common.{◌≡◌, ◌≤◌, List, [], ◌∷◌, length, refl, sym, subst, arith, ℤ, pos, ◌+ℤ◌, ◌-ℤ◌, ◌*ℤ◌, ◌≤ℤ◌, ◌<ℤ◌, Bool, true, not, ◌&&◌, inl, unsigned_abs}
use Rattle.std.specs.Prelude.{int_lt}
use Rattle.std.proofs.lemmas.Int.{ints, by_lt_z}
use Rattle.std.proofs.lemmas.Bool.Decides.{nat_tests}
use Rattle.std.proofs.lemmas.Bool.{and_parts}
use Rattle.integer_laws.specs.Divisors.{IsPrimitive}
use Rattle.integer_laws.specs.Laws.Members.{In-from_contains}
use Rattle.integer_laws.specs.Laws.Order.{add_lt_le, mul_le, lt_from}
use Rattle.integer_laws.specs.Laws.Ring.{expand}
use Rattle.integer_laws.specs.Laws.Weights.{total_positive}
use Rattle.integer_laws.specs.Members.{In}
use Rattle.integer_laws.specs.Weights.{AreWeights, weigh, total}
use Rattle.model_laws.specs.Laws.Turning.{left_by_list}
use Rattle.outline_laws.specs.Corners.{AreCorners, HasArea, turn}
use Rattle.outline_laws.specs.Edges.{last_in_list, raw, Steps}
use Rattle.outline_laws.specs.Laws.Clear.{greatest_sum}
use Rattle.outline_laws.specs.Laws.Differences.{back, back_primitive}
use Rattle.outline_laws.specs.Laws.Edges.{area_of_turns, edge_step, from_in, IsEdge, normal_of_side}
use Rattle.outline_laws.specs.Laws.Sides.{edge_most, greatest_of, inner_of_free}
use Rattle.search_laws.specs.Covering.{Covers}
use Rattle.seq_model.specs.Contacts.{difference}
use Rattle.seq_model.specs.Outlines.{Inner}
use Rattle.seq_model.specs.Points.{Point}
use Rattle.seq_model.specs.Sides.{along, greatest_along, Side, Beyond}
use Rattle.seq_model.specs.declared.printer.Spot.{Spot}
use Rattle.seq_model.specs.declared.tree.Dir.{Dir}
use Rattle.pair_constraints.specs.Laws.Covering.{below_bound}

pub record Outreaches (T S : List Spot) : Type 0 where
  pub far : (dir : Dir) → IsPrimitive dir.x dir.y → greatest_along dir S ≤ℤ greatest_along dir T

-- ---- a point inside
abbrev pub ones : List Spot → List ℤ
ones [] = []
ones (s ∷ S) = pos 1 ∷ ones S

are_ones : (S : List Spot) → AreWeights (pos 1) S (ones S)
are_ones [] = tt
are_ones (s ∷ S) = (same_le, are_ones S)
  where
    same_le : {a : ℤ} → a ≤ℤ a
    same_le {a} = omega (arith, ints)

abbrev pub middle : List Spot → Point
middle S = record { x = weigh (λ s. s.x) S (ones S); y = weigh (λ s. s.y) S (ones S); d = total S (ones S) }

pub inner_of_list : (s : Spot) (S : List Spot) → Inner (s ∷ S) (middle (s ∷ S))
inner_of_list s S =
    let some : pos 0 <ℤ total (s ∷ S) (ones (s ∷ S)) = total_positive s S (ones (s ∷ S)) (are_ones (s ∷ S)) in
    record {
      point = record { positive = one some };
      w = ones (s ∷ S);
      weights = are_ones (s ∷ S);
      some = one some;
      x = turned (total (s ∷ S) (ones (s ∷ S))) (weigh (λ s. s.x) (s ∷ S) (ones (s ∷ S)));
      y = turned (total (s ∷ S) (ones (s ∷ S))) (weigh (λ s. s.y) (s ∷ S) (ones (s ∷ S)));
    }
  where
    one : {a : ℤ} → pos 0 <ℤ a → pos 1 ≤ℤ a
    one h = omega (arith, ints, h)

    turned : (a b : ℤ) → a *ℤ b ≡ b *ℤ a
    turned a b = omega (arith, ints)

pub record SomeInner (S : List Spot) : Type 0 where
  pub at : Point
  pub inner : Inner S at

some_inner : (S : List Spot) → HasArea S → SomeInner S
some_inner [] area = absurd (In-from_contains [] area.i area.i_in)
some_inner (s ∷ S) area = record { at = middle (s ∷ S); inner = inner_of_list s S }

-- ---- far out on the way from an inner point to a member of a covered list
abbrev pub out_at : Point → Spot → ℤ → Point
out_at q s k = record { x = q.x +ℤ k *ℤ s.x; y = q.y +ℤ k *ℤ s.y; d = q.d +ℤ k }

value_out : (x y qx qy sx sy k : ℤ) → x *ℤ (qx +ℤ k *ℤ sx) +ℤ y *ℤ (qy +ℤ k *ℤ sy) ≡ (x *ℤ qx +ℤ y *ℤ qy) +ℤ k *ℤ (x *ℤ sx +ℤ y *ℤ sy)
value_out x y qx qy sx sy k = simp expand (omega (arith, ints))

stays_below : (v g d k a : ℤ) → pos 0 ≤ℤ k → v <ℤ (g *ℤ d) → a ≤ℤ g → (v +ℤ k *ℤ a) <ℤ (g *ℤ (d +ℤ k))
stays_below v g d k a n low most = lt_from (add_lt_le low (mul_le k n most)) (simp expand (omega (arith, ints)))

too_far : (v h d k a : ℤ) → pos 0 ≤ℤ k → (h *ℤ d -ℤ v) ≤ℤ k → h <ℤ a → (v +ℤ k *ℤ a) <ℤ (h *ℤ (d +ℤ k)) → ⊥
too_far v h d k a n far more low =
    let step : (h +ℤ pos 1) ≤ℤ a = omega (arith, ints, more) in
    let up = add_lt_le low (mul_le k n step) in
    never (h *ℤ d) v k far (lt_from up (simp expand (omega (arith, ints))))
  where
    never : (p v k : ℤ) → (p -ℤ v) ≤ℤ k → (v +ℤ k) <ℤ p → ⊥
    never p v k f l = absurd (omega (arith, ints, f, l))

not_less : {a b : ℤ} → a <ℤ b → b ≤ℤ a → ⊥
not_less h k = absurd (omega (arith, ints, h, k))

under : {a b c : ℤ} → a ≤ℤ b → b ≤ℤ c → a ≤ℤ c
under h k = omega (arith, ints, h, k)

same_le : {a : ℤ} → a ≤ℤ a
same_le {a} = omega (arith, ints)

pub out_is_inner : (T : List Spot) (q : Point) (s : Spot) (k : ℤ) → HasArea T → Inner T q → pos 0 ≤ℤ k
    → ((dir : Dir) → Side T dir → along dir s ≤ℤ greatest_along dir T) → Inner T (out_at q s k)
out_is_inner T q s k area m n most = inner_of_free T (out_at q s k) area (record { positive = one m.point.positive }) free
  where
    one : pos 1 ≤ℤ q.d → pos 1 ≤ℤ (q.d +ℤ k)
    one h = omega (arith, ints, h, n)

    free : (dir : Dir) → Side T dir → Beyond T dir (out_at q s k) → ⊥
    free dir side beyond =
        let low = below_bound T q dir (greatest_along dir T) area side.primitive same_le m in
        not_less (stays_below _ _ q.d k (along dir s) n low (most dir side)) (subst (λ t. (greatest_along dir T *ℤ (q.d +ℤ k)) ≤ℤ t) (value_out dir.x dir.y q.x q.y s.x s.y k) beyond)

member_reaches : (T : List Spot) (s : Spot) → HasArea T → ((dir : Dir) → Side T dir → along dir s ≤ℤ greatest_along dir T) → (dir : Dir) → IsPrimitive dir.x dir.y → along dir s ≤ℤ greatest_along dir T
member_reaches T s area most dir prim = by_lt_z (greatest_along dir T) (along dir s) (λ more. absurd (none more)) (λ less. less)
  where
    inside : SomeInner T
    inside = some_inner T area

    none : greatest_along dir T <ℤ along dir s → ⊥
    none more =
        let q = inside.at in
        let k : ℤ = pos (unsigned_abs (greatest_along dir T *ℤ q.d -ℤ (dir.x *ℤ q.x +ℤ dir.y *ℤ q.y))) in
        let n : pos 0 ≤ℤ k = omega (arith, ints) in
        let m = out_is_inner T q s k area inside.inner n most in
        let low = below_bound T (out_at q s k) dir (greatest_along dir T) area prim same_le m in
        too_far (dir.x *ℤ q.x +ℤ dir.y *ℤ q.y) (greatest_along dir T) q.d k (along dir s) n (at_most _) more (subst (λ t. t <ℤ (greatest_along dir T *ℤ (q.d +ℤ k))) (value_out dir.x dir.y q.x q.y s.x s.y k) low)
      where
        at_most : (a : ℤ) → a ≤ℤ pos (unsigned_abs a)
        at_most a = omega (arith, ints)

pub reaches_of_covers : (T S : List Spot) (s : Spot) → In s S → HasArea T → Covers T S → Outreaches T S
reaches_of_covers T S s i area covers = record { far = far }
  where
    far : (dir : Dir) → IsPrimitive dir.x dir.y → greatest_along dir S ≤ℤ greatest_along dir T
    far dir prim =
        let g = greatest_of dir S s i in
        subst (λ t. t ≤ℤ greatest_along dir T) g.reached (member_reaches T g.at area (λ e side. under ((greatest_of e S s i).bound g.at g.member) (covers e side)) dir prim)

pub covers_of_reaches : (T S : List Spot) → Outreaches T S → Covers T S
covers_of_reaches T S r dir side = r.far dir side.primitive

pub covers_onward : (U T S : List Spot) → HasArea T → HasArea S → Covers U T → Covers T S → Covers U S
covers_onward U T S t s further covers dir side =
    under ((reaches_of_covers T S s.i (In-from_contains S s.i s.i_in) t covers).far dir side.primitive) (further dir side)

-- ---- differences
pub difference_reaches : (A B F C D E : List Spot) → 1 ≤ length A → 1 ≤ length B → 1 ≤ length F → 1 ≤ length C → 1 ≤ length D → 1 ≤ length E
    → Outreaches C A → Outreaches D B → Outreaches E F → Outreaches (difference C D E) (difference A B F)
difference_reaches A B F C D E a b f c d e ca db ef = record { far = far }
  where
    sum : {u v w x y z : ℤ} → u ≤ℤ x → v ≤ℤ y → w ≤ℤ z → ((u +ℤ v) +ℤ w) ≤ℤ ((x +ℤ y) +ℤ z)
    sum h k l = omega (arith, ints, h, k, l)

    far : (dir : Dir) → IsPrimitive dir.x dir.y → greatest_along dir (difference A B F) ≤ℤ greatest_along dir (difference C D E)
    far dir prim =
        let p = back_primitive dir prim in
        subst (λ t. t ≤ℤ greatest_along dir (difference C D E)) (sym (greatest_sum dir A B F a b f))
        (subst (λ t. ((greatest_along dir A +ℤ greatest_along (back dir) B) +ℤ greatest_along (back dir) F) ≤ℤ t) (sym (greatest_sum dir C D E c d e))
        (sum (ca.far dir prim) (db.far (back dir) p) (ef.far (back dir) p)))

-- ---- outlines
abbrev pub is_behind : List Spot → Spot → Spot → Bool
is_behind S u v = not (int_lt (along (raw u v) v) (greatest_along (raw u v) S))

abbrev pub are_behind : List Spot → Spot → List Spot → Bool
are_behind S u [] = true
are_behind S u (v ∷ vs) = is_behind S u v && are_behind S v vs

abbrev IsBehind : List Spot → Spot → Spot → Type 0
IsBehind S u v = greatest_along (raw u v) S ≤ℤ along (raw u v) v

behind_true : (m n : ℤ) → not (int_lt m n) ≡ true → n ≤ℤ m
behind_true m n e = grind (arith, ints, nat_tests)

steps_behind : (S : List Spot) (u : Spot) (vs : List Spot) → are_behind S u vs ≡ true → Steps (IsBehind S) u vs
steps_behind S u [] e = tt
steps_behind S u (v ∷ vs) e =
    let r = and_parts (is_behind S u v) (are_behind S v vs) e in
    (behind_true (along (raw u v) v) (greatest_along (raw u v) S) r.0, steps_behind S v vs r.1)

turn_of_raw : (ux uy vx vy sx sy : ℤ) → (vx -ℤ ux) *ℤ (sy -ℤ uy) -ℤ (vy -ℤ uy) *ℤ (sx -ℤ ux) ≡ ((vy -ℤ uy) *ℤ vx +ℤ (ux -ℤ vx) *ℤ vy) -ℤ ((vy -ℤ uy) *ℤ sx +ℤ (ux -ℤ vx) *ℤ sy)
turn_of_raw ux uy vx vy sx sy = simp expand (omega (arith, ints))

left_of_behind : (S : List Spot) (u v s : Spot) → In s S → IsBehind S u v → pos 0 ≤ℤ turn u v s
left_of_behind S u v s i behind =
    let g = (greatest_of (raw u v) S s i).bound s i in
    subst (λ t. pos 0 ≤ℤ t) (sym (turn_of_raw u.x u.y v.x v.y s.x s.y)) (apart (under g behind))
  where
    apart : {a b : ℤ} → a ≤ℤ b → pos 0 ≤ℤ (b -ℤ a)
    apart h = omega (arith, ints, h)

area_of_corners : (C : List Spot) → AreCorners C → 3 ≤ length C → HasArea C
area_of_corners [] is h = absurd (omega (arith, h))
area_of_corners (a ∷ []) is h = absurd (omega (arith, h))
area_of_corners (a ∷ b ∷ []) is h = absurd (omega (arith, h))
area_of_corners (a ∷ b ∷ c ∷ cs) is h = area_of_turns a b c cs (left_by_list (a ∷ b ∷ c ∷ cs) is)

at_edge : (S C : List Spot) (a b : Spot) → are_behind S (last_in_list C) C ≡ true → IsEdge C a b → IsBehind S a b
at_edge S [] a b e edge = absurd edge
at_edge S (c ∷ cs) a b e edge = edge_step (IsBehind S) (last_in_list (c ∷ cs)) (c ∷ cs) a b (steps_behind S (last_in_list (c ∷ cs)) (c ∷ cs) e) edge

pub outreaches_of_behind : (C S : List Spot) → AreCorners C → 3 ≤ length C → 1 ≤ length S → are_behind S (last_in_list C) C ≡ true → Outreaches C S
outreaches_of_behind C [] is three some e = absurd (omega (arith, some))
outreaches_of_behind C (s ∷ S) is three some e = reaches_of_covers C (s ∷ S) s (inl refl) (area_of_corners C is three) covers
  where
    covers : (dir : Dir) → Side C dir → greatest_along dir (s ∷ S) ≤ℤ greatest_along dir C
    covers dir side =
        let n = normal_of_side C dir is side in
        let g = greatest_of dir (s ∷ S) s (inl refl) in
        let left = left_of_behind (s ∷ S) n.a n.b g.at g.member (at_edge (s ∷ S) C n.a n.b e n.edge) in
        let i = from_in C n.a n.b n.edge in
        subst (λ t. t ≤ℤ greatest_along dir C) g.reached (under (edge_most n.a n.b g.at dir n.normal left) ((greatest_of dir C n.a i).bound n.a i))
