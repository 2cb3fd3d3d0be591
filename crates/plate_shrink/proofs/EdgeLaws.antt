-- The regions that the edges of a plan fit.
--
--   LiesAt job e x y a    moved by whole grains, these edges lie in the region of the extent
--   lies_of_valid         where a plan that is moved is valid, its edges lie so
--   valid_of_lies         and where they do, a valid plan that is moved is valid
--   lies_by_narrow        edges that are no farther apart than those of a region are moved into it
use Rattle.std.proofs.Common.{◌≡◌, ℕ, ◌<◌, ◌≤◌, ℤ, pos, ◌+ℤ◌, ◌-ℤ◌, ◌*ℤ◌, ◌≤ℤ◌, ◌<ℤ◌, List, [], ◌∷◌, length, map, All, refl, sym, ap, ◌∙◌, subst, arith}
use Rattle.std.proofs.lemmas.Int.{ints, clamps}
use Rattle.std.proofs.lemmas.List.Elements.{All-cons, All-contains, All-head, All-nil, All-tail}
use Rattle.integer_laws.specs.Laws.Order.{add_le, add_lt_le, cancel_lt, le_from, lt_from, mul_le}
use Rattle.integer_laws.specs.Laws.Quotients.{ceil_is, floor_is}
use Rattle.integer_laws.specs.Laws.Ring.{expand}
use Rattle.integer_laws.specs.Quotients.{IsCeil, IsFloor, ceil, floor}
use Rattle.plan_laws.specs.Audits.{BoxOf}
use Rattle.plan_laws.specs.Inside.{IsInside, region_at}
use Rattle.plan_laws.specs.Laws.Audits.{box_by_in, in_by_box}
use Rattle.seq_model.specs.Jobs.{object_at, scene_of_job}
use Rattle.seq_model.specs.Scenes.{In, Valid}
use Rattle.seq_model.specs.declared.job.Job.{Job}
use Rattle.seq_model.specs.declared.plan.Place.{Place}
use Rattle.seq_model.specs.declared.plan.Plan.{Plan}
use Rattle.plate_shrink.specs.Edges.{AreNarrow, IsSpanOf, edges_of, edges_with, joined}
use Rattle.plate_shrink.specs.declared.fitting.Edges.{Edges}
use Rattle.plate_shrink.proofs.Shifts.{moved_by, plan_moved, valid_moved}

pub record LiesAt (job : Job) (e : ℕ) (x y : ℤ) (a : Edges) : Type 0 where
  pub west : (region_at job e).low.x ≤ℤ (a.west +ℤ x)
  pub east : (a.east +ℤ x) ≤ℤ ((region_at job e).low.x +ℤ (region_at job e).w)
  pub south : (region_at job e).low.y ≤ℤ (a.south +ℤ y)
  pub north : (a.north +ℤ y) ≤ℤ ((region_at job e).low.y +ℤ (region_at job e).h)

-- ---- one number
low_to : (s r l p k q : ℤ) → pos 1 ≤ℤ s → IsFloor p s q → (s *ℤ r) ≤ℤ (s *ℤ l +ℤ (p +ℤ s *ℤ k)) → r ≤ℤ ((l +ℤ q) +ℤ k)
low_to s r l p k q one f h =
    let positive : pos 0 <ℤ s = omega (arith, ints, one) in
    let below : r <ℤ (((l +ℤ q) +ℤ k) +ℤ pos 1) = cancel_lt s positive (lt_from (add_lt_le f.high h) (simp expand (omega (arith, ints)))) in
    omega (arith, ints, below)

low_from : (s r l p k q : ℤ) → pos 1 ≤ℤ s → IsFloor p s q → r ≤ℤ ((l +ℤ q) +ℤ k) → (s *ℤ r) ≤ℤ (s *ℤ l +ℤ (p +ℤ s *ℤ k))
low_from s r l p k q one f h =
    let nonneg : pos 0 ≤ℤ s = omega (arith, ints, one) in
    le_from (add_le (mul_le s nonneg h) f.low) (simp expand (omega (arith, ints)))

high_to : (s r l p k q : ℤ) → pos 1 ≤ℤ s → IsCeil p s q → (s *ℤ l +ℤ (p +ℤ s *ℤ k)) ≤ℤ (s *ℤ r) → ((l +ℤ q) +ℤ k) ≤ℤ r
high_to s r l p k q one f h =
    let positive : pos 0 <ℤ s = omega (arith, ints, one) in
    let below : ((l +ℤ q) +ℤ k) <ℤ (r +ℤ pos 1) = cancel_lt s positive (lt_from (add_lt_le f.low h) (simp expand (omega (arith, ints)))) in
    omega (arith, ints, below)

high_from : (s r l p k q : ℤ) → pos 1 ≤ℤ s → IsCeil p s q → ((l +ℤ q) +ℤ k) ≤ℤ r → (s *ℤ l +ℤ (p +ℤ s *ℤ k)) ≤ℤ (s *ℤ r)
high_from s r l p k q one f h =
    let nonneg : pos 0 ≤ℤ s = omega (arith, ints, one) in
    le_from (add_le (mul_le s nonneg h) f.high) (simp expand (omega (arith, ints)))

-- ---- one place
module _ (job : Job) (e : ℕ) (s x y : ℤ) (one : pos 1 ≤ℤ s) where
  positive : pos 0 <ℤ s
  positive = omega (arith, ints, one)

  pub lies_by_box : (p : Place) → BoxOf job e s (moved_by s x y p) → LiesAt job e x y (edges_of job s p)
  lies_by_box p b = record {
    west = low_to s (region_at job e).low.x (object_at job p.object).low.x p.x x (floor p.x s) one (floor_is p.x s positive) b.west;
    east = high_to s ((region_at job e).low.x +ℤ (region_at job e).w) (object_at job p.object).high.x p.x x (ceil p.x s) one (ceil_is p.x s positive) b.east;
    south = low_to s (region_at job e).low.y (object_at job p.object).low.y p.y y (floor p.y s) one (floor_is p.y s positive) b.south;
    north = high_to s ((region_at job e).low.y +ℤ (region_at job e).h) (object_at job p.object).high.y p.y y (ceil p.y s) one (ceil_is p.y s positive) b.north;
  }

  pub box_by_lies : (p : Place) → LiesAt job e x y (edges_of job s p) → BoxOf job e s (moved_by s x y p)
  box_by_lies p l = record {
    west = low_from s (region_at job e).low.x (object_at job p.object).low.x p.x x (floor p.x s) one (floor_is p.x s positive) l.west;
    east = high_from s ((region_at job e).low.x +ℤ (region_at job e).w) (object_at job p.object).high.x p.x x (ceil p.x s) one (ceil_is p.x s positive) l.east;
    south = low_from s (region_at job e).low.y (object_at job p.object).low.y p.y y (floor p.y s) one (floor_is p.y s positive) l.south;
    north = high_from s ((region_at job e).low.y +ℤ (region_at job e).h) (object_at job p.object).high.y p.y y (ceil p.y s) one (ceil_is p.y s positive) l.north;
  }

-- ---- many places
module _ (job : Job) (e : ℕ) (x y : ℤ) where
  lies_joined : (a b : Edges) → LiesAt job e x y a → LiesAt job e x y b → LiesAt job e x y (joined a b)
  lies_joined a b p q = record {
    west = omega (arith, ints, clamps, p.west, q.west);
    east = omega (arith, ints, clamps, p.east, q.east);
    south = omega (arith, ints, clamps, p.south, q.south);
    north = omega (arith, ints, clamps, p.north, q.north);
  }

  lies_first : (a b : Edges) → LiesAt job e x y (joined a b) → LiesAt job e x y a × LiesAt job e x y b
  lies_first a b l = (
    record { west = omega (arith, ints, clamps, l.west); east = omega (arith, ints, clamps, l.east); south = omega (arith, ints, clamps, l.south); north = omega (arith, ints, clamps, l.north) },
    record { west = omega (arith, ints, clamps, l.west); east = omega (arith, ints, clamps, l.east); south = omega (arith, ints, clamps, l.south); north = omega (arith, ints, clamps, l.north) },
  )

  pub lies_with : (s : ℤ) (all : Edges) (places : List Place) → LiesAt job e x y all → All (λ p. LiesAt job e x y (edges_of job s p)) places → LiesAt job e x y (edges_with job s all places)
  lies_with s all [] l each = l
  lies_with s all (p ∷ places) l each =
      let P = λ (q : Place). LiesAt job e x y (edges_of job s q) in
      lies_with s (joined all (edges_of job s p)) places (lies_joined all (edges_of job s p) l (All-head P p places each)) (All-tail P p places each)

  pub each_lies : (s : ℤ) (all : Edges) (places : List Place) → LiesAt job e x y (edges_with job s all places) → LiesAt job e x y all × All (λ p. LiesAt job e x y (edges_of job s p)) places
  each_lies s all [] l = (l, All-nil (λ (p : Place). LiesAt job e x y (edges_of job s p)))
  each_lies s all (p ∷ places) l =
      let more = each_lies s (joined all (edges_of job s p)) places l in
      let one = lies_first all (edges_of job s p) more.0 in
      (one.0, All-cons (λ (q : Place). LiesAt job e x y (edges_of job s q)) p places one.1 more.1)

  pub narrow_by_lies : (a : Edges) → LiesAt job e x y a → AreNarrow job e a
  narrow_by_lies a l = record { width = omega (arith, ints, l.west, l.east); depth = omega (arith, ints, l.south, l.north) }

pub lies_by_narrow : (job : Job) (e : ℕ) (a : Edges) → AreNarrow job e a → LiesAt job e ((region_at job e).low.x -ℤ a.west) ((region_at job e).low.y -ℤ a.south) a
lies_by_narrow job e a n = record { west = omega (arith, ints); east = omega (arith, ints, n.width); south = omega (arith, ints); north = omega (arith, ints, n.depth) }

-- ---- a plan
inside_moved : (job : Job) (e : ℕ) (x y : ℤ) (plan : Plan) → pos 1 ≤ℤ plan.scale → All (λ (p : Place). p.object < length job.objects) plan.places
    → All (λ (p : Place). LiesAt job e x y (edges_of job plan.scale p)) plan.places → In (scene_of_job job) e (plan_moved x y plan)
inside_moved job e x y plan one known each = inside_of plan.places known each
  where
    inside_of : (places : List Place) → All (λ (p : Place). p.object < length job.objects) places → All (λ (p : Place). LiesAt job e x y (edges_of job plan.scale p)) places → All (IsInside job e plan.scale) (map (moved_by plan.scale x y) places)
    inside_of [] known each = All-nil (IsInside job e plan.scale)
    inside_of (p ∷ places) known each =
        let here = All-head (λ (q : Place). LiesAt job e x y (edges_of job plan.scale q)) p places each in
        let is = All-head (λ (q : Place). q.object < length job.objects) p places known in
        All-cons (IsInside job e plan.scale) (moved_by plan.scale x y p) (map (moved_by plan.scale x y) places)
        (in_by_box job e plan.scale (moved_by plan.scale x y p) one is (box_by_lies job e plan.scale x y one p here))
        (inside_of places (All-tail (λ (q : Place). q.object < length job.objects) p places known) (All-tail (λ (q : Place). LiesAt job e x y (edges_of job plan.scale q)) p places each))

each_moved : (job : Job) (e : ℕ) (x y s : ℤ) (places : List Place) → pos 1 ≤ℤ s → All (λ (p : Place). p.object < length job.objects) places
    → All (IsInside job e s) (map (moved_by s x y) places) → All (λ (p : Place). LiesAt job e x y (edges_of job s p)) places
each_moved job e x y s [] one known inside = All-nil (λ (p : Place). LiesAt job e x y (edges_of job s p))
each_moved job e x y s (p ∷ places) one known inside =
    let is = All-head (λ (q : Place). q.object < length job.objects) p places known in
    let here = All-head (IsInside job e s) (moved_by s x y p) (map (moved_by s x y) places) inside in
    All-cons (λ (q : Place). LiesAt job e x y (edges_of job s q)) p places (lies_by_box job e s x y one p (box_by_in job e s (moved_by s x y p) is here))
    (each_moved job e x y s places one (All-tail (λ (q : Place). q.object < length job.objects) p places known) (All-tail (IsInside job e s) (moved_by s x y p) (map (moved_by s x y) places) inside))

-- known of a plan is known of a plan that is moved
known_before : (job : Job) (s x y : ℤ) (places : List Place) → All (λ (p : Place). p.object < length job.objects) (map (moved_by s x y) places) → All (λ (p : Place). p.object < length job.objects) places
known_before job s x y [] all = All-nil (λ (p : Place). p.object < length job.objects)
known_before job s x y (p ∷ places) all =
    let K = λ (q : Place). q.object < length job.objects in
    All-cons K p places (All-head K (moved_by s x y p) (map (moved_by s x y) places) all) (known_before job s x y places (All-tail K (moved_by s x y p) (map (moved_by s x y) places) all))

-- where a plan that is moved so lies in a region, its edges do
pub lies_of_valid : (job : Job) (e : ℕ) (x y : ℤ) (plan : Plan) (a : Edges) → IsSpanOf job plan a → pos 1 ≤ℤ plan.scale → Valid (scene_of_job job) e (plan_moved x y plan) → LiesAt job e x y a
lies_of_valid job e x y plan a span one v =
    let L = λ (p : Place). LiesAt job e x y (edges_of job plan.scale p) in
    let each : All L plan.places = each_moved job e x y plan.scale plan.places one (known_before job plan.scale x y plan.places v.known) v.inside in
    subst (LiesAt job e x y) (sym span.are) (lies_with job e x y plan.scale (edges_of job plan.scale span.first) plan.places (All-contains L plan.places span.first each span.member) each)

-- and where its edges do, a valid plan is valid there
pub valid_of_lies : (job : Job) (e f : ℕ) (x y : ℤ) (plan : Plan) (a : Edges) → IsSpanOf job plan a → Valid (scene_of_job job) e plan → 1 ≤ f → f ≤ job.printer.grid → LiesAt job f x y a → Valid (scene_of_job job) f (plan_moved x y plan)
valid_of_lies job e f x y plan a span v one grid l =
    let L = λ (p : Place). LiesAt job f x y (edges_of job plan.scale p) in
    let both = each_lies job f x y plan.scale (edges_of job plan.scale span.first) plan.places (subst (LiesAt job f x y) span.are l) in
    valid_moved (scene_of_job job) e f x y plan v one grid (inside_moved job f x y plan v.scale v.known both.1)

-- ---- moved by nothing
zero_moved : (s : ℤ) (places : List Place) → map (moved_by s (pos 0) (pos 0)) places ≡ places
zero_moved s [] = refl
zero_moved s (p ∷ places) =
    let same_x : p.x +ℤ s *ℤ pos 0 ≡ p.x = simp expand (omega (arith, ints)) in
    let same_y : p.y +ℤ s *ℤ pos 0 ≡ p.y = simp expand (omega (arith, ints)) in
    let here : moved_by s (pos 0) (pos 0) p ≡ p = ap (λ t. place p.object t (p.y +ℤ s *ℤ pos 0)) same_x ∙ ap (λ t. place p.object p.x t) same_y in
    ap (λ q. q ∷ map (moved_by s (pos 0) (pos 0)) places) here ∙ ap (λ qs. p ∷ qs) (zero_moved s places)
  where
    place : ℕ → ℤ → ℤ → Place
    place o x y = record { object = o; x = x; y = y }

pub not_moved : (plan : Plan) → plan_moved (pos 0) (pos 0) plan ≡ plan
not_moved plan = ap (λ qs. with_places qs) (zero_moved plan.scale plan.places)
  where
    with_places : List Place → Plan
    with_places qs = record { scale = plan.scale; places = qs }

-- a valid plan lies in the region of its extent, so it is narrow there
pub lies_there : (job : Job) (e : ℕ) (plan : Plan) (a : Edges) → IsSpanOf job plan a → Valid (scene_of_job job) e plan → LiesAt job e (pos 0) (pos 0) a
lies_there job e plan a span v = lies_of_valid job e (pos 0) (pos 0) plan a span v.scale (subst (Valid (scene_of_job job) e) (sym (not_moved plan)) v)
