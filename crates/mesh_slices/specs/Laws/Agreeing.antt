-- Scenes that agree have the same valid plans.
--
--   lies_in_back       what lies within a list that lies in the region lies there
--   overlap_back       overlapping is a matter of inner points
--   collides_back      and so is colliding
--   agree_back         agreement goes both ways
--   valid_back         a plan that is valid for one scene is valid for one that agrees
--   same_plans         the same plans are valid
--   same_least         and the same extents are least
use Rattle.std.proofs.Common.{◌≡◌, ◌<◌, ℕ, List, [], ◌∷◌, All, refl, sym, subst, arith, ℤ, pos, neg_ℤ, ◌+ℤ◌, ◌-ℤ◌, ◌*ℤ◌, ◌≤ℤ◌, inl, inr}
use Rattle.std.specs.Prelude.{◌↔◌, MatchOption, ◌≤◌, ◌+◌}
use Rattle.std.specs.List.{AllZip}
use Rattle.std.proofs.lemmas.Int.{ints}
use Rattle.integer_laws.specs.Laws.Ring.{expand}
use Rattle.integer_laws.specs.Laws.Order.{le_from}
use Rattle.integer_laws.specs.Members.{In}
use Rattle.integer_laws.specs.Laws.Members.{All-in, All-from_in, In-from_contains, Contains-from_in}
use Rattle.seq_model.specs.declared.plan.Place.{Place}
use Rattle.seq_model.specs.declared.plan.Plan.{Plan}
use Rattle.seq_model.specs.declared.plate.Region.{Region}
use Rattle.seq_model.specs.declared.printer.Part.{Part}
use Rattle.seq_model.specs.declared.printer.Spot.{Spot}
use Rattle.seq_model.specs.Outlines.{Within}
use Rattle.seq_model.specs.Plates.{region_of}
use Rattle.seq_model.specs.Points.{Point, at_spot}
use Rattle.seq_model.specs.Scenes.{Scene, LiesIn, Overlap, Collides, Meets, Valid, Least}
use Rattle.outline_laws.specs.Laws.Means.{within_at_most}
use Rattle.mesh_slices.specs.Agreement.{SameOutline, SamePart, Agree}

-- ---- outlines
pub outline_back : {A B : List Spot} → SameOutline A B → SameOutline B A
outline_back o = record { inner = λ q. ((o.inner q).1, (o.inner q).0); within_second = o.within_first; within_first = o.within_second }

-- a bound of a spot along one axis, as a height
bound : (x y g : ℤ) (S : List Spot) (s : Spot) → ((t : Spot) → In t S → (x *ℤ t.x +ℤ y *ℤ t.y) ≤ℤ g) → Within S (at_spot s) → (x *ℤ s.x +ℤ y *ℤ s.y) ≤ℤ g
bound x y g S s most w = plain _ _ (within_at_most x y g S (at_spot s) most w)
  where
    plain : (a b : ℤ) → a ≤ℤ (b *ℤ pos 1) → a ≤ℤ b
    plain a b h = omega (arith, ints)

pub lies_in_back : (region : Region) (scale : ℤ) (place : Place) (S : List Spot) (s : Spot) → All (LiesIn region scale place) S → Within S (at_spot s) → LiesIn region scale place s
lies_in_back region scale place S s all w =
    record {
      west = west_is scale s.x s.y place.x (scale *ℤ region.low.x) (bound (neg_ℤ scale) (pos 0) (place.x -ℤ scale *ℤ region.low.x) S s (λ t i. west_of scale t.x t.y place.x _ (each t i).west) w);
      east = east_is scale s.x s.y place.x (scale *ℤ (region.low.x +ℤ region.w)) (bound scale (pos 0) (scale *ℤ (region.low.x +ℤ region.w) -ℤ place.x) S s (λ t i. east_of scale t.x t.y place.x _ (each t i).east) w);
      south = south_is scale s.x s.y place.y (scale *ℤ region.low.y) (bound (pos 0) (neg_ℤ scale) (place.y -ℤ scale *ℤ region.low.y) S s (λ t i. south_of scale t.x t.y place.y _ (each t i).south) w);
      north = north_is scale s.x s.y place.y (scale *ℤ (region.low.y +ℤ region.h)) (bound (pos 0) scale (scale *ℤ (region.low.y +ℤ region.h) -ℤ place.y) S s (λ t i. north_of scale t.x t.y place.y _ (each t i).north) w);
    }
  where
    each : (t : Spot) → In t S → LiesIn region scale place t
    each t i = All-in (LiesIn region scale place) S t all i

    west_of : (n x y p l : ℤ) → l ≤ℤ (n *ℤ x +ℤ p) → (neg_ℤ n *ℤ x +ℤ pos 0 *ℤ y) ≤ℤ (p -ℤ l)
    west_of n x y p l h = le_from h (simp expand (omega (arith, ints)))

    west_is : (n x y p l : ℤ) → (neg_ℤ n *ℤ x +ℤ pos 0 *ℤ y) ≤ℤ (p -ℤ l) → l ≤ℤ (n *ℤ x +ℤ p)
    west_is n x y p l h = le_from h (simp expand (omega (arith, ints)))

    east_of : (n x y p l : ℤ) → (n *ℤ x +ℤ p) ≤ℤ l → (n *ℤ x +ℤ pos 0 *ℤ y) ≤ℤ (l -ℤ p)
    east_of n x y p l h = le_from h (simp expand (omega (arith, ints)))

    east_is : (n x y p l : ℤ) → (n *ℤ x +ℤ pos 0 *ℤ y) ≤ℤ (l -ℤ p) → (n *ℤ x +ℤ p) ≤ℤ l
    east_is n x y p l h = le_from h (simp expand (omega (arith, ints)))

    south_of : (n x y p l : ℤ) → l ≤ℤ (n *ℤ y +ℤ p) → (pos 0 *ℤ x +ℤ neg_ℤ n *ℤ y) ≤ℤ (p -ℤ l)
    south_of n x y p l h = le_from h (simp expand (omega (arith, ints)))

    south_is : (n x y p l : ℤ) → (pos 0 *ℤ x +ℤ neg_ℤ n *ℤ y) ≤ℤ (p -ℤ l) → l ≤ℤ (n *ℤ y +ℤ p)
    south_is n x y p l h = le_from h (simp expand (omega (arith, ints)))

    north_of : (n x y p l : ℤ) → (n *ℤ y +ℤ p) ≤ℤ l → (pos 0 *ℤ x +ℤ n *ℤ y) ≤ℤ (l -ℤ p)
    north_of n x y p l h = le_from h (simp expand (omega (arith, ints)))

    north_is : (n x y p l : ℤ) → (pos 0 *ℤ x +ℤ n *ℤ y) ≤ℤ (l -ℤ p) → (n *ℤ y +ℤ p) ≤ℤ l
    north_is n x y p l h = le_from h (simp expand (omega (arith, ints)))

pub all_lie_in : (region : Region) (scale : ℤ) (place : Place) (S T : List Spot) → SameOutline S T → All (LiesIn region scale place) S → All (LiesIn region scale place) T
all_lie_in region scale place S T o all = All-from_in (LiesIn region scale place) T (λ t i. lies_in_back region scale place S t all (All-in (λ s. Within S (at_spot s)) T t o.within_first i))

-- ---- parts
record Partner (ps : List Part) (q : Part) : Type 0 where
  pub part : Part
  pub member : In part ps
  pub same : SamePart part q

partner : (ps qs : List Part) → AllZip SamePart ps qs → (q : Part) → In q qs → Partner ps q
partner [] [] z q i = absurd i
partner [] (r ∷ qs) z q i = absurd z
partner (p ∷ ps) [] z q i = absurd z
partner (p ∷ ps) (r ∷ qs) z q (inl e) = record { part = p; member = inl refl; same = subst (SamePart p) (sym e) z.0 }
partner (p ∷ ps) (r ∷ qs) z q (inr i) = let r = partner ps qs z.1 q i in record { part = r.part; member = inr r.member; same = r.same }

meets_back : {p q : Part} (b c : ℕ) → SamePart p q → Meets q b c → Meets p b c
meets_back {p} {q} b c s m = record {
  from_low = subst (λ l. b + l ≤ c) (sym s.lo) m.from_low;
  to_high = subst (λ h. MatchOption h (Unit {0}) (λ hi. c ≤ b + hi)) (sym s.hi) m.to_high;
}

pub parts_back : (ps qs : List Part) → AllZip SamePart ps qs → AllZip SamePart qs ps
parts_back [] [] z = tt
parts_back [] (q ∷ qs) z = absurd z
parts_back (p ∷ ps) [] z = absurd z
parts_back (p ∷ ps) (q ∷ qs) z = (part_back z.0, parts_back ps qs z.1)
  where
    part_back : {p q : Part} → SamePart p q → SamePart q p
    part_back s = record { lo = sym s.lo; hi = sym s.hi; outline = outline_back s.outline }

-- ---- collisions
pub overlap_back : {A B F A2 B2 F2 : List Spot} (p r : Point) → SameOutline A A2 → SameOutline B B2 → SameOutline F F2 → Overlap A2 B2 F2 p r → Overlap A B F p r
overlap_back p r a b f o = record {
  point = o.point;
  is_point = o.is_point;
  is_place = o.is_place;
  of_later = o.of_later;
  of_part = o.of_part;
  earlier = (a.inner _).1 o.earlier;
  later = (b.inner _).1 o.later;
  moving = (f.inner _).1 o.moving;
  sum = o.sum;
}

pub collides_back : (s t : Scene) → Agree s t → (i : ℕ) (p : Point) (j : ℕ) (r : Point) → i < s.objects → j < s.objects → Collides t i p j r → Collides s i p j r
collides_back s t a i p j r known_i known_j c =
    let of = partner s.parts t.parts a.parts c.part (In-from_contains t.parts c.part c.part_of_scene) in
    let b_in = subst (λ n. c.b < n) (sym (a.bands j known_j)) c.band_of_later in
    let c_in = subst (λ n. c.c < n) (sym (a.bands i known_i)) c.band_of_earlier in
    record {
      b = c.b;
      c = c.c;
      part = of.part;
      band_of_later = b_in;
      band_of_earlier = c_in;
      part_of_scene = Contains-from_in s.parts of.part of.member;
      meets = meets_back c.b c.c of.same c.meets;
      overlap = overlap_back p r (a.outlines i c.c known_i c_in) (a.outlines j c.b known_j b_in) of.same.outline c.overlap;
    }

-- ---- scenes
pub agree_back : (s t : Scene) → Agree s t → Agree t s
agree_back s t a = record {
  objects = sym a.objects;
  bands = λ o h. sym (a.bands o (known o h));
  outlines = λ o b h k. outline_back (a.outlines o b (known o h) (subst (λ n. b < n) (sym (a.bands o (known o h))) k));
  parts = parts_back s.parts t.parts a.parts;
  width = sym a.width;
  depth = sym a.depth;
  grid = sym a.grid;
}
  where
    known : (o : ℕ) → o < t.objects → o < s.objects
    known o h = subst (λ n. o < n) (sym a.objects) h

pub same_region : (s t : Scene) (e : ℕ) → Agree s t → region_of s.width s.depth s.grid e ≡ region_of t.width t.depth t.grid e
same_region s t e a = rw (a.width, a.depth, a.grid) refl

pub valid_back : (s t : Scene) → Agree s t → (e : ℕ) (plan : Plan) → Valid s e plan → Valid t e plan
valid_back s t a e plan v = record {
  from_one = v.from_one;
  to_grid = subst (λ n. e ≤ n) a.grid v.to_grid;
  scale = v.scale;
  known = subst (λ n. All (λ (place : Place). place.object < n) plan.places) a.objects v.known;
  once = λ o h. v.once o (subst (λ n. o < n) (sym a.objects) h);
  inside = All-from_in (λ (place : Place). (b : ℕ) → b < t.bands place.object → All (LiesIn (region_of t.width t.depth t.grid e) plan.scale place) (t.spots place.object b)) plan.places (λ place i b h. inside place (known place i) b h (within place i));
  apart = λ i j d less long c. v.apart i j d less long (collides_back s t a _ _ _ _ (v.known i d (earlier less long)) (v.known j d long) c);
}
  where
    earlier : {i j n : ℕ} → i < j → j < n → i < n
    earlier h k = omega arith

    known : (place : Place) → In place plan.places → place.object < s.objects
    known place i = All-in (λ (p : Place). p.object < s.objects) plan.places place v.known i

    within : (place : Place) → In place plan.places → (b : ℕ) → b < s.bands place.object → All (LiesIn (region_of s.width s.depth s.grid e) plan.scale place) (s.spots place.object b)
    within place i = All-in (λ (p : Place). (b : ℕ) → b < s.bands p.object → All (LiesIn (region_of s.width s.depth s.grid e) plan.scale p) (s.spots p.object b)) plan.places place v.inside i

    inside : (place : Place) → place.object < s.objects → (b : ℕ) → b < t.bands place.object → ((c : ℕ) → c < s.bands place.object → All (LiesIn (region_of s.width s.depth s.grid e) plan.scale place) (s.spots place.object c))
        → All (LiesIn (region_of t.width t.depth t.grid e) plan.scale place) (t.spots place.object b)
    inside place h b k all =
        let m = subst (λ n. b < n) (sym (a.bands place.object h)) k in
        subst (λ r. All (LiesIn r plan.scale place) (t.spots place.object b)) (same_region s t e a)
        (all_lie_in (region_of s.width s.depth s.grid e) plan.scale place (s.spots place.object b) (t.spots place.object b) (a.outlines place.object b h m) (all b m))

pub same_plans : (s t : Scene) → Agree s t → (e : ℕ) (plan : Plan) → Valid s e plan ↔ Valid t e plan
same_plans s t a e plan = (valid_back s t a e plan, valid_back t s (agree_back s t a) e plan)

least_back : (s t : Scene) → Agree s t → (e : ℕ) → Least s e → Least t e
least_back s t a e l = record {
  plan = l.plan;
  valid = valid_back s t a e l.plan l.valid;
  none = λ f h q v. l.none f h q (valid_back t s (agree_back s t a) f q v);
}

pub same_least : (s t : Scene) → Agree s t → (e : ℕ) → Least s e ↔ Least t e
same_least s t a e = (least_back s t a e, least_back t s (agree_back s t a) e)
