-- The rows of a system: how great their numbers are.
--
--   listed_side_size     the two numbers of a side of a list whose members are at most n in size are at most 2n
--   zone_near, part_of   the corners of a zone are near, and a part of the job's printer is sound
--   contact_side_size    the two numbers of a contact's side are at most 2,002,000
--   extremes_near        an object's low and high are near
--   share_low, share_high    a share of a size lies from 0 to the size
--   side_row_small       the row of a side of a contact is small
--   small_rows           and so is each row of the system of a path of the job
use Rattle.std.proofs.Common.{◌≡◌, ℕ, zero, suc, ◌+◌, ◌*◌, ◌^◌, ◌<◌, ◌≤◌, List, [], ◌∷◌, length, get_or, set, replicate, refl, sym, subst, ap, ap₂, ◌∙◌, arith, ℤ, pos, neg_ℤ, ◌+ℤ◌, ◌-ℤ◌, ◌*ℤ◌, ◌≤ℤ◌, ◌<ℤ◌, unsigned_abs, inl, inr, All}
use Rattle.std.proofs.Math.Nat.{mul-le-mul, dvd-mul_right}
use Rattle.std.proofs.lemmas.Int.{ints, unsigned_abs-mul}
use Rattle.std.proofs.lemmas.List.{length-replicate, length-set}
use Rattle.std.proofs.lemmas.List.Elements.{All-nil, All-cons, All-append, All-set, All-replicate, All-get_or}
use Rattle.std.proofs.lemmas.Nat.Gcd.{le_of_dvd}
use Rattle.std.specs.Int.{◌∣◌}
use Rattle.outline_laws.specs.Edges.{back}
use Rattle.outline_laws.specs.Laws.Differences.{member_of, side_cases, AnySide}
use Rattle.integer_laws.specs.Laws.Divisors.{gauss}
use Rattle.integer_laws.specs.Members.{In}
use Rattle.integer_laws.specs.Laws.Members.{In-from_contains, All-in}
use Rattle.integer_laws.specs.Laws.Order.{cancel_le, mul_le, same_from, le_from, add_le}
use Rattle.integer_laws.specs.Laws.Quotients.{floor_is, least_quotient}
use Rattle.integer_laws.specs.Laws.Ring.{expand}
use Rattle.outline_laws.specs.Laws.Sides.{greatest_of}
use Rattle.model_laws.specs.Laws.Collisions.{sound_object, sound_zone}
use Rattle.search_laws.specs.Laws.Opened.{in_split}
use Rattle.plan_laws.specs.Laws.ObjectSpans.{corners_some, corner_zone, least_at, greatest_at, Reaching}
use Rattle.search_laws.specs.Sizes.{IsSized, IsSmallRow}
use Rattle.seq_model.specs.Bounds.{IsNearSpot}
use Rattle.seq_model.specs.Contacts.{points_of, IsContact}
use Rattle.seq_model.specs.Jobs.{no_object, no_part, object_at, zone_at, part_at}
use Rattle.seq_model.specs.Parts.{IsSoundPart}
use Rattle.seq_model.specs.Plates.{share_of}
use Rattle.seq_model.specs.Sides.{along, greatest_along, Side}
use Rattle.seq_model.specs.Soundness.{corners_of}
use Rattle.seq_model.specs.Systems.{zeros, at_most, bounds_of, side_row, side_rows, system}
use Rattle.seq_model.specs.Trees.{IsPath}
use Rattle.seq_model.specs.declared.job.Job.{Job}
use Rattle.seq_model.specs.declared.job.Object.{Object}
use Rattle.seq_model.specs.declared.printer.Spot.{Spot}
use Rattle.seq_model.specs.declared.tree.Choice.{Choice}
use Rattle.seq_model.specs.declared.tree.Choice.TheVariants as Choices
use Rattle.seq_model.specs.declared.tree.Contact.{Contact}
use Rattle.seq_model.specs.declared.tree.Dir.{Dir}

-- ---- a side's numbers
zero_factor : (x k : ℕ) → 0 < k → x * k ≡ 0 → x ≡ 0
zero_factor zero k p e = refl
zero_factor (suc x) zero p e = absurd (omega (arith, p))
zero_factor (suc x) (suc k) p e = absurd (omega (arith, e))

-- of two numbers without a common divisor that balance two others, not both 0, the one is at most the other's partner
balanced : (x y a b m : ℕ) → ((d : ℕ) → d ∣ x → d ∣ y → d ≡ 1) → x * a ≡ y * b → (a ≡ 0 → b ≡ 0 → ⊥) → b ≤ m → x ≤ m
balanced x y a zero m prim e some h = by a some e
  where
    none : ℕ
    none = 0

    by : (a : ℕ) → (a ≡ 0 → none ≡ 0 → ⊥) → x * a ≡ y * 0 → x ≤ m
    by zero s f = absurd (s refl refl)
    by (suc a) s f = let z = zero_factor x (suc a) (omega arith) (omega (arith, f)) in omega (arith, z)
balanced x y a (suc b) m prim e some h =
    let d : x ∣ y * suc b = subst (λ t. x ∣ t) e (dvd-mul_right x a) in
    let l = le_of_dvd {m = x} {n = suc b} (omega arith) (gauss x y (suc b) prim d) in
    omega (arith, l, h)

apart_size : (n : ℕ) (x y : ℤ) → unsigned_abs x ≤ n → unsigned_abs y ≤ n → unsigned_abs (x -ℤ y) ≤ n + n
apart_size n x y h k = omega (arith, ints, h, k)

level : (p q ax ay bx by : ℤ) → p *ℤ ax +ℤ q *ℤ ay ≡ p *ℤ bx +ℤ q *ℤ by → p *ℤ (ax -ℤ bx) ≡ q *ℤ (by -ℤ ay)
level p q ax ay bx by e = same_from e (simp expand (omega (arith, ints)))

sizes : (p q u v : ℤ) → p *ℤ u ≡ q *ℤ v → unsigned_abs p * unsigned_abs u ≡ unsigned_abs q * unsigned_abs v
sizes p q u v e = sym (unsigned_abs-mul p u) ∙ ap unsigned_abs e ∙ unsigned_abs-mul q v

pub side_size : (S : List Spot) (dir : Dir) (n : ℕ) → ((s : Spot) → In s S → IsNearSpot n s) → Side S dir → IsSized (n + n) dir.x dir.y
side_size S dir n near side =
    let na = near side.a (In-from_contains S side.a side.a_in) in
    let nb = near side.b (In-from_contains S side.b side.b_in) in
    let e = sizes dir.x dir.y (side.a.x -ℤ side.b.x) (side.b.y -ℤ side.a.y) (level dir.x dir.y side.a.x side.a.y side.b.x side.b.y (side.at_a ∙ sym side.at_b)) in
    record {
      first = balanced (unsigned_abs dir.x) (unsigned_abs dir.y) (unsigned_abs (side.a.x -ℤ side.b.x)) (unsigned_abs (side.b.y -ℤ side.a.y)) (n + n) side.primitive e
          (λ p q. side.apart (same side.a side.b (zero_size side.a.x side.b.x p) (sym (zero_size side.b.y side.a.y q)))) (apart_size n side.b.y side.a.y nb.y na.y);
      second = balanced (unsigned_abs dir.y) (unsigned_abs dir.x) (unsigned_abs (side.b.y -ℤ side.a.y)) (unsigned_abs (side.a.x -ℤ side.b.x)) (n + n) (λ d h k. side.primitive d k h) (sym e)
          (λ q p. side.apart (same side.a side.b (zero_size side.a.x side.b.x p) (sym (zero_size side.b.y side.a.y q)))) (apart_size n side.a.x side.b.x na.x nb.x);
    }
  where
    zero_size : (a b : ℤ) → unsigned_abs (a -ℤ b) ≡ 0 → a ≡ b
    zero_size a b e = omega (arith, ints, e)

    spot : ℤ → ℤ → Spot
    spot x y = record { x = x; y = y }

    same : (a b : Spot) → a.x ≡ b.x → a.y ≡ b.y → a ≡ b
    same a b e f = ap₂ spot e f

-- ---- a contact's side
pub zone_near : (job : Job) (i z : ℕ) → i < length job.objects → z < length (object_at job i).zones → (s : Spot) → In s (zone_at job i z).corners → IsNearSpot 1_001_000 s
zone_near job i z l m s n = All-in (IsNearSpot 1_001_000) (zone_at job i z).corners s (sound_zone job i z l m).near n

pub part_of : (job : Job) (k : ℕ) → k < length job.printer.parts → IsSoundPart (part_at job k)
part_of job k l = All-get_or IsSoundPart job.printer.parts k no_part l job.printer.parts_are.sound

part_near : (job : Job) (k : ℕ) → k < length job.printer.parts → (s : Spot) → In s (part_at job k).corners → IsNearSpot 100_000 s
part_near job k l s n = All-in (IsNearSpot 100_000) (part_at job k).corners s (All-get_or IsSoundPart job.printer.parts k no_part l job.printer.parts_are.sound).near n

back_size : (n : ℕ) (dir : Dir) → IsSized n (back dir).x (back dir).y → IsSized n dir.x dir.y
back_size n dir h = record { first = turned dir.x h.first; second = turned dir.y h.second }
  where
    turned : (x : ℤ) → unsigned_abs (neg_ℤ x) ≤ n → unsigned_abs x ≤ n
    turned x h = omega (arith, ints, h)

weaker_size : (n m : ℕ) (x y : ℤ) → n ≤ m → IsSized n x y → IsSized m x y
weaker_size n m x y h s = record { first = omega (arith, h, s.first); second = omega (arith, h, s.second) }

pub contact_side_size : (job : Job) (c : Contact) (dir : Dir) → IsContact job c → Side (points_of job c) dir → IsSized 2_002_000 dir.x dir.y
contact_side_size job c dir is side = by (side_cases A B F dir side)
  where
    A : List Spot
    A = (zone_at job c.i c.zi).corners

    B : List Spot
    B = (zone_at job c.j c.zj).corners

    F : List Spot
    F = (part_at job c.part).corners

    by : AnySide A B F dir → IsSized 2_002_000 dir.x dir.y
    by (inl s) = side_size A dir 1_001_000 (zone_near job c.i c.zi is.i_in is.zi_in) s
    by (inr (inl s)) = back_size 2_002_000 dir (side_size B (back dir) 1_001_000 (zone_near job c.j c.zj is.j_in is.zj_in) s)
    by (inr (inr s)) = back_size 2_002_000 dir (weaker_size 200_000 2_002_000 (back dir).x (back dir).y (omega arith) (side_size F (back dir) 100_000 (part_near job c.part is.part_in) s))

-- ---- an object's extremes
pub extremes_near : (job : Job) (i : ℕ) → i < length job.objects → IsNearSpot 1_001_000 (object_at job i).low × IsNearSpot 1_001_000 (object_at job i).high
extremes_near job i l =
    let x = (sound_object job i l).extremes in
    let c = corners_some job i l in
    let S = corners_of (object_at job i).zones in (
      record { x = of (λ s. s.x) (object_at job i).low.x (least_at (λ s. s.x) S (object_at job i).low.x c x.west) (λ s h. h.x); y = of (λ s. s.y) (object_at job i).low.y (least_at (λ s. s.y) S (object_at job i).low.y c x.south) (λ s h. h.y) },
      record { x = of (λ s. s.x) (object_at job i).high.x (greatest_at (λ s. s.x) S (object_at job i).high.x c x.east) (λ s h. h.x); y = of (λ s. s.y) (object_at job i).high.y (greatest_at (λ s. s.y) S (object_at job i).high.y c x.north) (λ s h. h.y) },
    )
  where
    of : (f : Spot → ℤ) (g : ℤ) → Reaching (corners_of (object_at job i).zones) (λ s. f s ≡ g) → ((s : Spot) → IsNearSpot 1_001_000 s → unsigned_abs (f s) ≤ 1_001_000) → unsigned_abs g ≤ 1_001_000
    of f g r small =
        let z = corner_zone (object_at job i).zones r.0 r.1 in
        subst (λ t. unsigned_abs t ≤ 1_001_000) r.2 (small r.0 (zone_near job i z.0 l z.1 r.0 z.2))

-- ---- rows
abbrev IsEntry : ℤ → Type 0
IsEntry x = unsigned_abs x < 2 ^ 21

no_entries : (n : ℕ) → All IsEntry (replicate n (pos 0))
no_entries n = All-replicate IsEntry n (pos 0) (omega (arith, ints))

pub share_low : (size : ℤ) (grid e : ℕ) → pos 1 ≤ℤ size → 1 ≤ grid → pos 0 ≤ℤ share_of size grid e
share_low size grid e s g =
    let f = floor_is (size *ℤ pos e) (pos grid) (omega (arith, ints, g)) in
    let n : pos 0 ≤ℤ (size *ℤ pos e) = le_from (mul_le size {a = pos 0} {b = pos e} (omega (arith, ints, s)) (omega (arith, ints))) (simp expand (omega (arith, ints))) in
    least_quotient (pos grid) (pos 0) (share_of size grid e) (omega (arith, ints, g)) (below (size *ℤ pos e) (pos grid *ℤ share_of size grid e) (pos grid) f.high n)
  where
    below : (a b d : ℤ) → a <ℤ (b +ℤ d) → pos 0 ≤ℤ a → (pos grid *ℤ pos 0) <ℤ (b +ℤ d)
    below a b d h n = let z : pos grid *ℤ pos 0 ≡ pos 0 = simp expand in omega (arith, ints, h, n, z)

pub share_high : (size : ℤ) (grid e : ℕ) → pos 1 ≤ℤ size → 1 ≤ grid → e ≤ grid → share_of size grid e ≤ℤ size
share_high size grid e s g h =
    let f = floor_is (size *ℤ pos e) (pos grid) (omega (arith, ints, g)) in
    let n = mul_le size {a = pos e} {b = pos grid} (omega (arith, ints, s)) (omega (arith, ints, h)) in
    cancel_le (pos grid) (omega (arith, ints, g)) (le_from (add_le f.low n) (simp expand (omega (arith, ints))))

at_most_small : (job : Job) (v : ℕ) (bound : ℤ) → unsigned_abs bound < 2 ^ 44 → IsSmallRow (2 * length job.objects) (at_most job v bound)
at_most_small job v bound h = record {
  many = length-set (zeros job) v (neg_ℤ (pos 1)) ∙ length-replicate (2 * length job.objects) (pos 0);
  constant = h;
  entries = All-set IsEntry (zeros job) v (neg_ℤ (pos 1)) (omega (arith, ints)) (no_entries (2 * length job.objects));
}

abbrev IsNearObject : Object → Type 0
IsNearObject o = IsNearSpot 1_001_000 o.low × IsNearSpot 1_001_000 o.high

bound_size : (share size low high : ℤ) → pos 0 ≤ℤ share → share ≤ℤ size → size ≤ℤ pos 20_000 → unsigned_abs low ≤ 1_001_000 → unsigned_abs high ≤ 1_001_000 → unsigned_abs (share -ℤ (high -ℤ low)) < 2 ^ 44
bound_size share size low high a b c d e = omega (arith, ints, a, b, c, d, e)

bounds_small : (job : Job) (e : ℕ) → e ≤ job.printer.grid → (objects : List Object) (v : ℕ) → ((k : ℕ) → k < length objects → IsNearObject (get_or objects k no_object))
    → All (IsSmallRow (2 * length job.objects)) (bounds_of job e v objects)
bounds_small job e g [] v near = All-nil (IsSmallRow (2 * length job.objects))
bounds_small job e g (o ∷ objects) v near =
    let p = job.printer in
    let r = p.ranged in
    let n = near 0 (omega arith) in
    All-cons (IsSmallRow (2 * length job.objects)) (at_most job v (share_of p.width p.grid e -ℤ (o.high.x -ℤ o.low.x)))
    (at_most job (v + 1) (share_of p.depth p.grid e -ℤ (o.high.y -ℤ o.low.y)) ∷ bounds_of job e (v + 2) objects)
    (at_most_small job v (share_of p.width p.grid e -ℤ (o.high.x -ℤ o.low.x))
    (bound_size (share_of p.width p.grid e) p.width o.low.x o.high.x (share_low p.width p.grid e r.width_low r.grid_low) (share_high p.width p.grid e r.width_low r.grid_low g) r.width_high n.0.x n.1.x))
    (All-cons (IsSmallRow (2 * length job.objects)) (at_most job (v + 1) (share_of p.depth p.grid e -ℤ (o.high.y -ℤ o.low.y))) (bounds_of job e (v + 2) objects)
    (at_most_small job (v + 1) (share_of p.depth p.grid e -ℤ (o.high.y -ℤ o.low.y))
    (bound_size (share_of p.depth p.grid e) p.depth o.low.y o.high.y (share_low p.depth p.grid e r.depth_low r.grid_low) (share_high p.depth p.grid e r.depth_low r.grid_low g) r.depth_high n.0.y n.1.y))
    (bounds_small job e g objects (v + 2) (λ k l. near (suc k) (omega (arith, l)))))

-- ---- a side's row
product_size : (x y : ℤ) (m n : ℕ) → unsigned_abs x ≤ m → unsigned_abs y ≤ n → unsigned_abs (x *ℤ y) ≤ m * n
product_size x y m n h k = subst (λ t. t ≤ m * n) (sym (unsigned_abs-mul x y)) (mul-le-mul h k)

sum_size : (x y : ℤ) (m n : ℕ) → unsigned_abs x ≤ m → unsigned_abs y ≤ n → unsigned_abs (x +ℤ y) ≤ m + n
sum_size x y m n h k = omega (arith, ints, h, k)

three_apart : (x y z : ℤ) → unsigned_abs x ≤ 1_001_000 → unsigned_abs y ≤ 1_001_000 → unsigned_abs z ≤ 100_000 → unsigned_abs ((x -ℤ y) -ℤ z) ≤ 2_102_000
three_apart x y z h k l = omega (arith, ints, h, k, l)

member_near : (job : Job) (c : Contact) → IsContact job c → (s : Spot) → In s (points_of job c) → IsNearSpot 2_102_000 s
member_near job c is s i =
    let m = member_of (zone_at job c.i c.zi).corners (zone_at job c.j c.zj).corners (part_at job c.part).corners s i in
    let a = zone_near job c.i c.zi is.i_in is.zi_in m.a m.a_in in
    let b = zone_near job c.j c.zj is.j_in is.zj_in m.b m.b_in in
    let f = part_near job c.part is.part_in m.f m.f_in in
    subst (IsNearSpot 2_102_000) (sym m.is) (record { x = three_apart m.a.x m.b.x m.f.x a.x b.x f.x; y = three_apart m.a.y m.b.y m.f.y a.y b.y f.y })

along_size : (dir : Dir) (s : Spot) → IsSized 2_002_000 dir.x dir.y → IsNearSpot 2_102_000 s → unsigned_abs (along dir s) ≤ 2_002_000 * 2_102_000 + 2_002_000 * 2_102_000
along_size dir s d n =
    sum_size (dir.x *ℤ s.x) (dir.y *ℤ s.y) (2_002_000 * 2_102_000) (2_002_000 * 2_102_000) (product_size dir.x s.x 2_002_000 2_102_000 d.first n.x) (product_size dir.y s.y 2_002_000 2_102_000 d.second n.y)

constant_size : (x y ix iy jx jy g : ℤ) → IsSized 2_002_000 x y → unsigned_abs ix ≤ 1_001_000 → unsigned_abs iy ≤ 1_001_000 → unsigned_abs jx ≤ 1_001_000 → unsigned_abs jy ≤ 1_001_000
    → unsigned_abs g ≤ 2_002_000 * 2_102_000 + 2_002_000 * 2_102_000 → unsigned_abs ((x *ℤ (ix -ℤ jx) +ℤ y *ℤ (iy -ℤ jy)) -ℤ g) < 2 ^ 44
constant_size x y ix iy jx jy g d a b c e h =
    let p = product_size x (ix -ℤ jx) 2_002_000 2_002_000 d.first (apart_size 1_001_000 ix jx a c) in
    let q = product_size y (iy -ℤ jy) 2_002_000 2_002_000 d.second (apart_size 1_001_000 iy jy b e) in
    settle (x *ℤ (ix -ℤ jx)) (y *ℤ (iy -ℤ jy)) g p q h
  where
    settle : (p q g : ℤ) → unsigned_abs p ≤ 2_002_000 * 2_002_000 → unsigned_abs q ≤ 2_002_000 * 2_002_000 → unsigned_abs g ≤ 2_002_000 * 2_102_000 + 2_002_000 * 2_102_000 → unsigned_abs ((p +ℤ q) -ℤ g) < 2 ^ 44
    settle p q g h k l = omega (arith, ints, h, k, l)

entry_of : (x : ℤ) → unsigned_abs x ≤ 2_002_000 → IsEntry x × IsEntry (neg_ℤ x)
entry_of x h = (omega (arith, ints, h), omega (arith, ints, h))

pub side_row_small : (job : Job) (e : ℕ) (c : Contact) (dir : Dir) → IsContact job c → Side (points_of job c) dir → IsSmallRow (2 * length job.objects) (side_row job e c dir)
side_row_small job e c dir is side =
    let d = contact_side_size job c dir is side in
    let i = (extremes_near job c.i is.i_in).0 in
    let j = (extremes_near job c.j is.j_in).0 in
    let g = greatest_of dir (points_of job c) side.a (In-from_contains (points_of job c) side.a side.a_in) in
    let reached = subst (λ t. unsigned_abs t ≤ 2_002_000 * 2_102_000 + 2_002_000 * 2_102_000) g.reached (along_size dir g.at d (member_near job c is g.at g.member)) in
    let x = entry_of dir.x d.first in
    let y = entry_of dir.y d.second in
    let n = 2 * length job.objects in
    let one = set (zeros job) (2 * c.i) (neg_ℤ dir.x) in
    let two = set one (2 * c.i + 1) (neg_ℤ dir.y) in
    let three = set two (2 * c.j) dir.x in
    record {
      many = length-set three (2 * c.j + 1) dir.y ∙ length-set two (2 * c.j) dir.x ∙ length-set one (2 * c.i + 1) (neg_ℤ dir.y) ∙ length-set (zeros job) (2 * c.i) (neg_ℤ dir.x) ∙ length-replicate n (pos 0);
      constant = constant_size dir.x dir.y (object_at job c.i).low.x (object_at job c.i).low.y (object_at job c.j).low.x (object_at job c.j).low.y (greatest_along dir (points_of job c)) d i.x i.y j.x j.y reached;
      entries = All-set IsEntry three (2 * c.j + 1) dir.y y.0 (All-set IsEntry two (2 * c.j) dir.x x.0 (All-set IsEntry one (2 * c.i + 1) (neg_ℤ dir.y) y.1 (All-set IsEntry (zeros job) (2 * c.i) (neg_ℤ dir.x) x.1 (no_entries n))));
    }

-- each side on the path is one of a contact of the job
abbrev AreSidesOf : Job → List Choice → Type 0
AreSidesOf job path = (contact : Contact) (dir : Dir) → In (Choices.Side contact dir) path → IsContact job contact × Side (points_of job contact) dir

sides_small : (job : Job) (e : ℕ) (path : List Choice) → AreSidesOf job path → All (IsSmallRow (2 * length job.objects)) (side_rows job e path)
sides_small job e [] are = All-nil (IsSmallRow (2 * length job.objects))
sides_small job e (Choices.Before i j ∷ path) are = sides_small job e path (λ c d i. are c d (inr i))
sides_small job e (Choices.Side c d ∷ path) are =
    let here = are c d (inl refl) in
    All-cons (IsSmallRow (2 * length job.objects)) (side_row job e c d) (side_rows job e path) (side_row_small job e c d here.0 here.1) (sides_small job e path (λ c d i. are c d (inr i)))

pub small_rows : (job : Job) (e : ℕ) (path : List Choice) → e ≤ job.printer.grid → IsPath job path → All (IsSmallRow (2 * length job.objects)) (system job e path)
small_rows job e path g is =
    All-append (IsSmallRow (2 * length job.objects)) (bounds_of job e 0 job.objects) (side_rows job e path) (bounds_small job e g job.objects 0 (λ k l. extremes_near job k l)) (sides_small job e path of)
  where
    of : AreSidesOf job path
    of contact dir i = let s = in_split path (Choices.Side contact dir) i in let m = is s.0 s.1 contact dir s.2 in (m.0, m.1)

-- ---- as a list
pub listed_side_size : (spots : List Spot) (dir : Dir) (n : ℕ) → All (IsNearSpot n) spots → Side spots dir → IsSized (n + n) dir.x dir.y
listed_side_size spots dir n near side = side_size spots dir n (λ s i. All-in (IsNearSpot n) spots s near i) side
