-- A point over another denominator is the same point, and what is said of the one holds of the other.
--
--   same_turned, same_chain       to be the same point goes both ways, and on from point to point
--   mean_of_same                  a mean is of a point, over whatever denominator
--   minus_is_point, minus_same    a point less a place is a point, and the same one less the same place
--   overlap_of_same               so what overlaps does at the same places over other denominators
--   collides_at_same              and what collides does
--   same_counts                   so each object stands in both as often
--   lies_at_same                  a moved spot lies in a region over the one scale where it does over the other
--   collides_at_places            what collides at two places does at the same ones over another scale
--   valid_at_same_places          and a plan over another scale is valid where this one is
use Rattle.std.proofs.Common.{◌≡◌, ℕ, ◌+◌, ◌<◌, List, [], ◌∷◌, length, get_or, sym, ap, subst, ◌∙◌, refl, arith, ℤ, pos, ◌+ℤ◌, ◌-ℤ◌, ◌*ℤ◌, ◌≤ℤ◌, ◌<ℤ◌, All}
use Rattle.std.proofs.lemmas.Int.{ints}
use Rattle.std.proofs.lemmas.List.Elements.{AllZip-get_or, length_all_zip}
use Rattle.std.proofs.lemmas.List.Sums.{sum_by-cons}
use Rattle.std.specs.List.{AllZip}
use Rattle.std.specs.Prelude.{count_by, nat_eq, cond}
use Rattle.integer_laws.specs.Laws.Order.{one_le, add_le, mul_le, mul_same, cancel_le, cancel_same, same_from, add_same, le_from, le_of_same, mul_positive}
use Rattle.integer_laws.specs.Laws.Ring.{expand}
use Rattle.integer_laws.specs.Weights.{weigh, total}
use Rattle.seq_model.specs.Outlines.{IsMean}
use Rattle.seq_model.specs.Plates.{region_of}
use Rattle.seq_model.specs.Points.{Point, IsPoint, SamePoint, plus, minus, place_point}
use Rattle.seq_model.specs.Scenes.{Scene, Overlap, Collides, LiesIn, Valid}
use Rattle.seq_model.specs.declared.plan.Place.{Place}
use Rattle.seq_model.specs.declared.plan.Plan.{Plan}
use Rattle.seq_model.specs.declared.plate.Region.{Region}
use Rattle.seq_model.specs.declared.printer.Spot.{Spot}
use Rattle.model_laws.specs.SamePoints.{SamePlace, SamePlaces}

-- ---- the same point
pub same_turned : (p q : Point) → SamePoint p q → SamePoint q p
same_turned p q s = record { x = sym s.x; y = sym s.y }

above_zero : {a : ℤ} → pos 1 ≤ℤ a → pos 0 <ℤ a
above_zero h = omega (arith, ints)

chain : (a d b e c f : ℤ) → pos 1 ≤ℤ e → a *ℤ e ≡ b *ℤ d → b *ℤ f ≡ c *ℤ e → a *ℤ f ≡ c *ℤ d
chain a d b e c f one h k = cancel_same e (above_zero one) (same_from (add_same (mul_same f h) (mul_same d k)) (simp expand (omega (arith, ints))))

pub same_chain : (p q r : Point) → IsPoint q → SamePoint p q → SamePoint q r → SamePoint p r
same_chain p q r is s t = record { x = chain p.x p.d q.x q.d r.x r.d is.positive s.x t.x; y = chain p.y p.d q.y q.d r.y r.d is.positive s.y t.y }

-- ---- means
mean_number : (d x e y v t : ℤ) → pos 1 ≤ℤ d → x *ℤ e ≡ y *ℤ d → d *ℤ v ≡ x *ℤ t → e *ℤ v ≡ y *ℤ t
mean_number d x e y v t one s m = cancel_same d (above_zero one) (same_from (add_same (mul_same e m) (mul_same t s)) (simp expand (omega (arith, ints))))

pub mean_of_same : (least : ℤ) (S : List Spot) (p q : Point) → IsPoint q → SamePoint p q → IsMean least S p → IsMean least S q
mean_of_same least S p q is s m = record {
  point = is;
  w = m.w;
  weights = m.weights;
  some = m.some;
  x = mean_number p.d p.x q.d q.x (weigh (λ t. t.x) S m.w) (total S m.w) m.point.positive s.x m.x;
  y = mean_number p.d p.y q.d q.y (weigh (λ t. t.y) S m.w) (total S m.w) m.point.positive s.y m.y;
}

-- ---- a point less a place
times_positive : (d e : ℤ) → pos 1 ≤ℤ d → pos 1 ≤ℤ e → pos 1 ≤ℤ (d *ℤ e)
times_positive d e p q = one_le (mul_positive d e (above_zero p) (above_zero q))

pub minus_is_point : (point p : Point) → IsPoint point → IsPoint p → IsPoint (minus point p)
minus_is_point point p is at = record { positive = times_positive point.d p.d is.positive at.positive }

minus_number : (t c x d y e : ℤ) → x *ℤ e ≡ y *ℤ d → (t *ℤ d -ℤ x *ℤ c) *ℤ (c *ℤ e) ≡ (t *ℤ e -ℤ y *ℤ c) *ℤ (c *ℤ d)
minus_number t c x d y e s = same_from (mul_same (c *ℤ c) (sym s)) (simp expand (omega (arith, ints)))

pub minus_same : (point p q : Point) → SamePoint p q → SamePoint (minus point p) (minus point q)
minus_same point p q s = record { x = minus_number point.x point.d p.x p.d q.x q.d s.x; y = minus_number point.y point.d p.y p.d q.y q.d s.y }

-- ---- collisions
pub overlap_of_same : (A B F : List Spot) (p r p' r' : Point) → Overlap A B F p r → IsPoint p' → IsPoint r' → SamePoint p p' → SamePoint r r' → Overlap A B F p' r'
overlap_of_same A B F p r p' r' o is_p is_r same_p same_r = record {
  point = o.point;
  is_point = o.is_point;
  is_place = is_r;
  of_later = o.of_later;
  of_part = o.of_part;
  earlier = mean_of_same (pos 1) A (minus o.point p) (minus o.point p') (minus_is_point o.point p' o.is_point is_p) (minus_same o.point p p' same_p) o.earlier;
  later = o.later;
  moving = o.moving;
  sum = same_chain (minus o.point r') (minus o.point r) (plus o.of_later o.of_part) (minus_is_point o.point r o.is_point o.is_place) (same_turned (minus o.point r) (minus o.point r') (minus_same o.point r r' same_r)) o.sum;
}

pub collides_at_same : (scene : Scene) (i j : ℕ) (p r p' r' : Point) → Collides scene i p j r → IsPoint p' → IsPoint r' → SamePoint p p' → SamePoint r r' → Collides scene i p' j r'
collides_at_same scene i j p r p' r' k is_p is_r same_p same_r = record {
  b = k.b;
  c = k.c;
  part = k.part;
  band_of_later = k.band_of_later;
  band_of_earlier = k.band_of_earlier;
  part_of_scene = k.part_of_scene;
  meets = k.meets;
  overlap = overlap_of_same (scene.spots i k.c) (scene.spots j k.b) k.part.corners p r p' r' k.overlap is_p is_r same_p same_r;
}

-- ---- plans
same_counts : (D E : ℤ) (o : ℕ) (ps qs : List Place) → AllZip (SamePlace D E) ps qs → count_by (λ (place : Place). nat_eq place.object o) ps ≡ count_by (λ (place : Place). nat_eq place.object o) qs
same_counts D E o [] [] s = refl
same_counts D E o [] (q ∷ qs) s = absurd s
same_counts D E o (p ∷ ps) [] s = absurd s
same_counts D E o (p ∷ ps) (q ∷ qs) s =
    sum_by-cons (λ (place : Place). cond (nat_eq place.object o) 1 0) p ps
    ∙ ap (λ t. cond (nat_eq t o) 1 0 + count_by (λ (place : Place). nat_eq place.object o) ps) s.0.object
    ∙ ap (λ t. cond (nat_eq q.object o) 1 0 + t) (same_counts D E o ps qs s.1)
    ∙ sym (sum_by-cons (λ (place : Place). cond (nat_eq place.object o) 1 0) q qs)

-- a number of a region, times either scale, is on the same side of a spot's
low_number : (D E low s x y : ℤ) → pos 1 ≤ℤ D → pos 0 ≤ℤ E → x *ℤ E ≡ y *ℤ D → (D *ℤ low) ≤ℤ (D *ℤ s +ℤ x) → (E *ℤ low) ≤ℤ (E *ℤ s +ℤ y)
low_number D E low s x y one e same h = cancel_le D (above_zero one) (le_from (add_le (mul_le E e h) (le_of_same same)) (simp expand (omega (arith, ints))))

high_number : (D E high s x y : ℤ) → pos 1 ≤ℤ D → pos 0 ≤ℤ E → x *ℤ E ≡ y *ℤ D → (D *ℤ s +ℤ x) ≤ℤ (D *ℤ high) → (E *ℤ s +ℤ y) ≤ℤ (E *ℤ high)
high_number D E high s x y one e same h = cancel_le D (above_zero one) (le_from (add_le (mul_le E e h) (le_of_same (sym same))) (simp expand (omega (arith, ints))))

pub lies_at_same : (region : Region) (D E : ℤ) (p q : Place) (s : Spot) → pos 1 ≤ℤ D → pos 1 ≤ℤ E → SamePoint (place_point D p) (place_point E q) → LiesIn region D p s → LiesIn region E q s
lies_at_same region D E p q s d e same l =
    let not_negative : pos 0 ≤ℤ E = omega (arith, ints, e) in
    record {
      west = low_number D E region.low.x s.x p.x q.x d not_negative same.x l.west;
      east = high_number D E (region.low.x +ℤ region.w) s.x p.x q.x d not_negative same.x l.east;
      south = low_number D E region.low.y s.y p.y q.y d not_negative same.y l.south;
      north = high_number D E (region.low.y +ℤ region.h) s.y p.y q.y d not_negative same.y l.north;
    }

-- the objects of two places that collide over the scale E do at the same places over D
pub collides_at_places : (scene : Scene) (D E : ℤ) (p r p' r' : Place) → pos 1 ≤ℤ D → SamePlace D E p p' → SamePlace D E r r'
    → Collides scene p'.object (place_point E p') r'.object (place_point E r') → Collides scene p.object (place_point D p) r.object (place_point D r)
collides_at_places scene D E p r p' r' one first second k =
    let at_p = place_point D p in
    let at_r = place_point D r in
    let at_p' = place_point E p' in
    let at_r' = place_point E r' in
    let same_p = same_turned at_p at_p' first.point in
    let same_r = same_turned at_r at_r' second.point in
    let moved = collides_at_same scene p'.object r'.object at_p' at_r' at_p at_r k (record { positive = one }) (record { positive = one }) same_p same_r in
    subst (λ i. Collides scene i at_p r.object at_r) (sym first.object) (subst (λ j. Collides scene p'.object at_p j at_r) (sym second.object) moved)

pub valid_at_same_places : (scene : Scene) (e : ℕ) (plan other : Plan) → pos 1 ≤ℤ other.scale → SamePlaces plan other → Valid scene e plan → Valid scene e other
valid_at_same_places scene e plan other one same v = record {
  from_one = v.from_one;
  to_grid = v.to_grid;
  scale = one;
  known = λ n q l. subst (λ o. o < scene.objects) (at n q l).object (v.known n q (below n l));
  once = λ o l. sym (same_counts plan.scale other.scale o plan.places other.places same) ∙ v.once o l;
  inside = λ n q l. subst (λ o. (b : ℕ) → b < scene.bands o → All (LiesIn region other.scale (get_or other.places n q)) (scene.spots o b)) (at n q l).object (lie n q l);
  apart = λ i j q l m k. v.apart i j q l (below j m)
      (collides_at_places scene plan.scale other.scale (get_or plan.places i q) (get_or plan.places j q) (get_or other.places i q) (get_or other.places j q) v.scale
      (at i q (omega (arith, l, m))) (at j q m) k);
}
  where
    region : Region
    region = region_of scene.width scene.depth scene.grid e

    below : (n : ℕ) → n < length other.places → n < length plan.places
    below n l = let many = length_all_zip (SamePlace plan.scale other.scale) plan.places other.places same in omega (arith, l, many)

    at : (n : ℕ) (q : Place) → n < length other.places → SamePlace plan.scale other.scale (get_or plan.places n q) (get_or other.places n q)
    at n q l = AllZip-get_or (SamePlace plan.scale other.scale) plan.places other.places n q q same (below n l)

    lie : (n : ℕ) (q : Place) → n < length other.places → (b : ℕ) → b < scene.bands (get_or plan.places n q).object
        → All (LiesIn region other.scale (get_or other.places n q)) (scene.spots (get_or plan.places n q).object b)
    lie n q l b m k s h =
        let spot = get_or (scene.spots (get_or plan.places n q).object b) k s in
        lies_at_same region plan.scale other.scale (get_or plan.places n q) (get_or other.places n q) spot v.scale one (at n q l).point (v.inside n q (below n l) b m k s h)
