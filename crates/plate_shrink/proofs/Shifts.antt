-- A plan that is moved by whole grains: what collides there collides before.
--
--   moved_by s x y p     the place p over the scale s, moved
--   valid_moved          a valid plan that is moved into the region of another extent is valid there
use Rattle.std.proofs.Common.{◌≡◌, ℕ, ◌+◌, ◌<◌, ◌≤◌, ℤ, ◌+ℤ◌, ◌-ℤ◌, ◌*ℤ◌, cond, fold, List, [], ◌∷◌, length, get_or, map, refl, sym, ap, ◌∙◌, subst, arith}
use Rattle.std.proofs.lemmas.Int.{ints}
use Rattle.std.proofs.lemmas.List.{get_or-map, length-map}
use Rattle.std.proofs.lemmas.List.Elements.{All-map}
use Rattle.std.specs.List.{count_by}
use Rattle.std.specs.Prelude.{nat_eq}
use Rattle.integer_laws.specs.Laws.Ring.{expand}
use Rattle.seq_model.specs.Outlines.{Inner}
use Rattle.seq_model.specs.Points.{Point, SamePoint, minus, place_point, plus}
use Rattle.seq_model.specs.Scenes.{Collides, In, Overlap, Scene, Valid}
use Rattle.seq_model.specs.declared.plan.Place.{Place}
use Rattle.seq_model.specs.declared.plan.Plan.{Plan}
use Rattle.seq_model.specs.declared.printer.Spot.{Spot}

abbrev pub moved_by : ℤ → ℤ → ℤ → Place → Place
moved_by s x y p = record { object = p.object; x = p.x +ℤ s *ℤ x; y = p.y +ℤ s *ℤ y }

abbrev point : ℤ → ℤ → ℤ → Point
point x y d = record { x = x; y = y; d = d }

-- a point, moved back as far
abbrev back : ℤ → ℤ → Point → Point
back x y q = point (q.x -ℤ x *ℤ q.d) (q.y -ℤ y *ℤ q.d) q.d

same_number : (q d p s k : ℤ) → (q -ℤ k *ℤ d) *ℤ s -ℤ p *ℤ d ≡ q *ℤ s -ℤ (p +ℤ s *ℤ k) *ℤ d
same_number q d p s k = simp expand (omega (arith, ints))

same_minus : (s x y : ℤ) (q : Point) (p : Place) → minus (back x y q) (place_point s p) ≡ minus q (place_point s (moved_by s x y p))
same_minus s x y q p =
    ap (λ t. point t ((q.y -ℤ y *ℤ q.d) *ℤ s -ℤ p.y *ℤ q.d) (q.d *ℤ s)) (same_number q.x q.d p.x s x)
    ∙ ap (λ t. point (q.x *ℤ s -ℤ (p.x +ℤ s *ℤ x) *ℤ q.d) t (q.d *ℤ s)) (same_number q.y q.d p.y s y)

overlap_back : (s x y : ℤ) (A B F : List Spot) (p r : Place) → Overlap A B F (place_point s (moved_by s x y p)) (place_point s (moved_by s x y r)) → Overlap A B F (place_point s p) (place_point s r)
overlap_back s x y A B F p r o = record {
  point = back x y o.point;
  is_point = record { positive = o.is_point.positive };
  is_place = record { positive = o.is_place.positive };
  of_later = o.of_later;
  of_part = o.of_part;
  earlier = subst (Inner A) (sym (same_minus s x y o.point p)) o.earlier;
  later = o.later;
  moving = o.moving;
  sum = subst (λ m. SamePoint m (plus o.of_later o.of_part)) (sym (same_minus s x y o.point r)) o.sum;
}

collides_back : (scene : Scene) (s x y : ℤ) (p r : Place) (i j : ℕ) → Collides scene i (place_point s (moved_by s x y p)) j (place_point s (moved_by s x y r)) → Collides scene i (place_point s p) j (place_point s r)
collides_back scene s x y p r i j c = record {
  b = c.b;
  c = c.c;
  part = c.part;
  band_of_later = c.band_of_later;
  band_of_earlier = c.band_of_earlier;
  part_of_scene = c.part_of_scene;
  meets = c.meets;
  overlap = overlap_back s x y (scene.spots i c.c) (scene.spots j c.b) c.part.corners p r c.overlap;
}

counted_from : (s x y : ℤ) (o n : ℕ) (places : List Place) → fold (λ k (p : Place). k + cond (nat_eq p.object o) 1 0) n (map (moved_by s x y) places) ≡ fold (λ k (p : Place). k + cond (nat_eq p.object o) 1 0) n places
counted_from s x y o n [] = refl
counted_from s x y o n (p ∷ places) = counted_from s x y o (n + cond (nat_eq p.object o) 1 0) places

as_often : (s x y : ℤ) (o : ℕ) (places : List Place) → count_by (λ (p : Place). nat_eq p.object o) (map (moved_by s x y) places) ≡ count_by (λ (p : Place). nat_eq p.object o) places
as_often s x y o places = counted_from s x y o 0 places

abbrev pub plan_moved : ℤ → ℤ → Plan → Plan
plan_moved x y plan = record { scale = plan.scale; places = map (moved_by plan.scale x y) plan.places }

pub valid_moved : (scene : Scene) (e f : ℕ) (x y : ℤ) (plan : Plan) → Valid scene e plan → 1 ≤ f → f ≤ scene.grid → In scene f (plan_moved x y plan) → Valid scene f (plan_moved x y plan)
valid_moved scene e f x y plan v one grid inside = record {
  from_one = one;
  to_grid = grid;
  scale = v.scale;
  known = All-map (λ (p : Place). p.object < scene.objects) (moved_by plan.scale x y) plan.places v.known;
  once = λ o h. as_often plan.scale x y o plan.places ∙ v.once o h;
  inside = inside;
  apart = λ i j d less within hits.
      (let s = plan.scale in
      let there : j < length plan.places = omega (arith, within, length-map plan.places (moved_by s x y)) in
      let p : get_or (map (moved_by s x y) plan.places) i d ≡ moved_by s x y (get_or plan.places i d) = get_or-map (moved_by s x y) plan.places i d d (omega (arith, less, there)) in
      let r : get_or (map (moved_by s x y) plan.places) j d ≡ moved_by s x y (get_or plan.places j d) = get_or-map (moved_by s x y) plan.places j d d there in
      let hit = subst (λ (b : Place). Collides scene (moved_by s x y (get_or plan.places i d)).object (place_point s (moved_by s x y (get_or plan.places i d))) b.object (place_point s b)) r
      (subst (λ (a : Place). Collides scene a.object (place_point s a) (get_or (map (moved_by s x y) plan.places) j d).object (place_point s (get_or (map (moved_by s x y) plan.places) j d))) p hits) in
      v.apart i j d less there (collides_back scene s x y (get_or plan.places i d) (get_or plan.places j d) (get_or plan.places i d).object (get_or plan.places j d).object hit));
}
