-- A contact collides at a point of a system exactly where its gap there is short of its reach and of its limits.
--
--   FitsGap g            coordinates below 2^40 in size, a denominator of 1 to 2^16
--   point_of g           the gap as a point
--   ahead at v w s       by how far variable v is ahead of w at the point, and by a shift
--   gap_of k at          by how far the later object of a kept contact stands ahead of the earlier one, by variables and shift
--   is_ahead_in, is_behind_in, in_reach q r     short of the greatest values to the east and north, to the west and south, of all four
--   is_met q k           and of the limits of the kept contact
--   gap_is               that gap is the gap of the contact at the point
--   met_where_collides   is_met there exactly where the contact collides
use Rattle.std.proofs.Common.{◌≡◌, ℕ, ◌+◌, ◌*◌, ◌<◌, ◌^◌, List, get_or, refl, ap, ap₂, sym, subst, ◌∙◌, arith, ℤ, pos, neg_ℤ, ◌+ℤ◌, ◌-ℤ◌, ◌*ℤ◌, ◌≤ℤ◌, ◌<ℤ◌, ◌↔◌, Bool, true, ◌&&◌, unsigned_abs}
use Rattle.std.specs.Prelude.{int_lt}
use Rattle.std.specs.List.{list_all}
use Rattle.std.proofs.lemmas.Int.{ints}
use Rattle.std.proofs.lemmas.Bool.Decides.{nat_tests}
use Rattle.std.proofs.Math.Nat.{eq-one_of_dvd-one}
use Rattle.std.proofs.lemmas.Bool.{and_parts}
use Rattle.integer_laws.specs.Divisors.{IsPrimitive, AreCoprime}
use Rattle.integer_laws.specs.Laws.Ring.{expand}
use Rattle.outline_laws.specs.Corners.{HasArea}
use Rattle.outline_laws.specs.Laws.Clear.{axis}
use Rattle.plan_laws.specs.Gaps.{gap_at}
use Rattle.search_laws.specs.Laws.Gaps.{area_of_contact, gap_is_inner}
use Rattle.seq_model.specs.Contacts.{IsContact, points_of}
use Rattle.seq_model.specs.Jobs.{object_at}
use Rattle.seq_model.specs.Outlines.{Inner}
use Rattle.seq_model.specs.Plates.{share_of, half_left}
use Rattle.seq_model.specs.Points.{Point}
use Rattle.seq_model.specs.Sides.{greatest_along}
use Rattle.seq_model.specs.Splits.{Values, ContactCollidesAt}
use Rattle.seq_model.specs.declared.job.Job.{Job}
use Rattle.seq_model.specs.declared.printer.Spot.{Spot}
use Rattle.seq_model.specs.declared.tree.Dir.{Dir}
use Rattle.pair_constraints.specs.Keeping.{IsReach, IsKept, shift_at}
use Rattle.pair_constraints.specs.Laws.Covering.{below_bound, is_under, under_is_inner}
use Rattle.pair_constraints.specs.declared.kept.Kept.{Kept}
use Rattle.pair_constraints.specs.declared.kept.Reach.{Reach}
use Rattle.pair_constraints.specs.declared.testing.Gap.{Gap}

pub record FitsGap (g : Gap) : Type 0 where
  pub x : unsigned_abs g.x < 2 ^ 40
  pub y : unsigned_abs g.y < 2 ^ 40
  pub d : unsigned_abs g.d < 2 ^ 16
  pub one : pos 1 ≤ℤ g.d

abbrev pub point_of : Gap → Point
point_of g = record { x = g.x; y = g.y; d = g.d }

abbrev pub num : Values → ℕ → ℤ
num at v = get_or at.u v (pos 0)

abbrev pub ahead : Values → ℕ → ℕ → ℤ → ℤ
ahead at later earlier shift = (num at later -ℤ num at earlier) +ℤ at.d *ℤ shift

abbrev pub gap_of : Kept → Values → Point
gap_of k at = record {
  x = ahead at (2 * k.contact.j) (2 * k.contact.i) k.shift.x;
  y = ahead at (2 * k.contact.j + 1) (2 * k.contact.i + 1) k.shift.y;
  d = at.d;
}

abbrev pub is_ahead_in : Point → Reach → Bool
is_ahead_in q r = int_lt q.x (r.east *ℤ q.d) && int_lt q.y (r.north *ℤ q.d)

abbrev pub is_behind_in : Point → Reach → Bool
is_behind_in q r = int_lt (neg_ℤ q.x) (r.west *ℤ q.d) && int_lt (neg_ℤ q.y) (r.south *ℤ q.d)

abbrev pub in_reach : Point → Reach → Bool
in_reach q r = is_ahead_in q r && is_behind_in q r

abbrev pub is_met : Point → Kept → Bool
is_met q k = in_reach q k.reach && list_all (is_under q) k.limits

-- ---- the gap
moved : (uj ui d h lj li : ℤ) → (uj -ℤ ui) +ℤ d *ℤ (li -ℤ lj) ≡ (uj +ℤ d *ℤ (h -ℤ lj)) -ℤ (ui +ℤ d *ℤ (h -ℤ li))
moved uj ui d h lj li = simp expand (omega (arith, ints))

abbrev over : ℤ → ℤ → ℤ → Point
over x y d = record { x = x; y = y; d = d }

same_over : (x y x' y' d : ℤ) → x ≡ x' → y ≡ y' → over x y d ≡ over x' y' d
same_over x y x' y' d e f = ap₂ (λ s t. over s t d) e f

pub gap_is : (job : Job) (e : ℕ) (k : Kept) (at : Values) → k.shift ≡ shift_at job k.contact → gap_of k at ≡ gap_at job e at.d at.u k.contact
gap_is job e k at shift =
    let p = job.printer in
    let li = (object_at job k.contact.i).low in
    let lj = (object_at job k.contact.j).low in
    let x = moved (num at (2 * k.contact.j)) (num at (2 * k.contact.i)) at.d (half_left p.width (share_of p.width p.grid e)) lj.x li.x in
    let y = moved (num at (2 * k.contact.j + 1)) (num at (2 * k.contact.i + 1)) at.d (half_left p.depth (share_of p.depth p.grid e)) lj.y li.y in
    let sx : k.shift.x ≡ li.x -ℤ lj.x = ap (λ (s : Spot). s.x) shift in
    let sy : k.shift.y ≡ li.y -ℤ lj.y = ap (λ (s : Spot). s.y) shift in
    same_over _ _ _ _ at.d (ap (λ t. (num at (2 * k.contact.j) -ℤ num at (2 * k.contact.i)) +ℤ at.d *ℤ t) sx ∙ x)
    (ap (λ t. (num at (2 * k.contact.j + 1) -ℤ num at (2 * k.contact.i + 1)) +ℤ at.d *ℤ t) sy ∙ y)

-- ---- the reach
true_lt : (m n : ℤ) → m <ℤ n → int_lt m n ≡ true
true_lt m n h = grind (arith, ints, nat_tests)

all_four : (a b c d : Bool) → a ≡ true → b ≡ true → c ≡ true → d ≡ true → ((a && b) && (c && d)) ≡ true
all_four a b c d p q r s = rw (p, q, r, s) refl

same_le : {a : ℤ} → a ≤ℤ a
same_le {a} = omega (arith, ints)

pub inner_in_reach : (S : List Spot) (q : Point) (r : Reach) → HasArea S → IsReach S r → Inner S q → in_reach q r ≡ true
inner_in_reach S q r area is m = all_four _ _ _ _ (true_lt _ _ east) (true_lt _ _ north) (true_lt _ _ west) (true_lt _ _ south)
  where
    one : (n : ℕ) → AreCoprime 1 n
    one n k d e = eq-one_of_dvd-one d

    other : (n : ℕ) → AreCoprime n 1
    other n k d e = eq-one_of_dvd-one e

    low : (d : Dir) → IsPrimitive d.x d.y → (d.x *ℤ q.x +ℤ d.y *ℤ q.y) <ℤ (greatest_along d S *ℤ q.d)
    low d p = below_bound S q d (greatest_along d S) area p same_le m

    east_of : (a b c : ℤ) → (pos 1 *ℤ a +ℤ pos 0 *ℤ b) <ℤ c → a <ℤ c
    east_of a b c h = omega (arith, ints, h)

    up : (a b c : ℤ) → (pos 0 *ℤ a +ℤ pos 1 *ℤ b) <ℤ c → b <ℤ c
    up a b c h = omega (arith, ints, h)

    behind : (a b c : ℤ) → (neg_ℤ (pos 1) *ℤ a +ℤ pos 0 *ℤ b) <ℤ c → neg_ℤ a <ℤ c
    behind a b c h = omega (arith, ints, h)

    down : (a b c : ℤ) → (pos 0 *ℤ a +ℤ neg_ℤ (pos 1) *ℤ b) <ℤ c → neg_ℤ b <ℤ c
    down a b c h = omega (arith, ints, h)

    east : q.x <ℤ (r.east *ℤ q.d)
    east = subst (λ g. q.x <ℤ (g *ℤ q.d)) (sym is.east) (east_of q.x q.y _ (low (axis (pos 1) (pos 0)) (one 0)))

    north : q.y <ℤ (r.north *ℤ q.d)
    north = subst (λ g. q.y <ℤ (g *ℤ q.d)) (sym is.north) (up q.x q.y _ (low (axis (pos 0) (pos 1)) (other 0)))

    west : neg_ℤ q.x <ℤ (r.west *ℤ q.d)
    west = subst (λ g. neg_ℤ q.x <ℤ (g *ℤ q.d)) (sym is.west) (behind q.x q.y _ (low (axis (neg_ℤ (pos 1)) (pos 0)) (one 0)))

    south : neg_ℤ q.y <ℤ (r.south *ℤ q.d)
    south = subst (λ g. neg_ℤ q.y <ℤ (g *ℤ q.d)) (sym is.south) (down q.x q.y _ (low (axis (pos 0) (neg_ℤ (pos 1))) (other 0)))

-- ---- the contact
pub met_where_collides : (job : Job) (e : ℕ) (k : Kept) (at : Values) → IsKept job k → pos 1 ≤ℤ at.d → (is_met (gap_of k at) k ≡ true) ↔ ContactCollidesAt job e at k.contact
met_where_collides job e k at is one = (
  λ t. hits.1 (is.is, subst (Inner (points_of job k.contact)) same (short.0 (and_parts (in_reach (gap_of k at) k.reach) (list_all (is_under (gap_of k at)) k.limits) t).1)),
  λ c. met (subst (Inner (points_of job k.contact)) (sym same) (hits.0 c).1),
)
  where
    same : gap_of k at ≡ gap_at job e at.d at.u k.contact
    same = gap_is job e k at is.shift

    hits : ContactCollidesAt job e at k.contact ↔ (IsContact job k.contact × Inner (points_of job k.contact) (gap_at job e at.d at.u k.contact))
    hits = gap_is_inner job e at k.contact one

    short : (list_all (is_under (gap_of k at)) k.limits ≡ true) ↔ Inner (points_of job k.contact) (gap_of k at)
    short = under_is_inner (points_of job k.contact) k.limits (gap_of k at) (area_of_contact job k.contact is.is) (record { positive = one }) is.limits

    met : Inner (points_of job k.contact) (gap_of k at) → is_met (gap_of k at) k ≡ true
    met m = ap₂ (λ a b. a && b) (inner_in_reach (points_of job k.contact) (gap_of k at) k.reach (area_of_contact job k.contact is.is) is.reach m) (short.1 m)
