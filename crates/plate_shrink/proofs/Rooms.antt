-- How far a plan is moved, and how great its numbers get.
--
--   on_plate          every region lies on the plate
--   spread            a plan's edges don't cross
--   shift_near        the move into the region of another extent is a short one
--   valid_room        the numbers of a valid plan are below 2^90 in size
--   moved_found       a plan that was found is found again where it is moved into a region that it fits
--   no_lower          and at no extent whose region is too small
use Rattle.std.proofs.Common.{◌≡◌, ℕ, ◌^◌, ◌<◌, ◌≤◌, ℤ, pos, neg_ℤ, ◌+ℤ◌, ◌-ℤ◌, ◌*ℤ◌, ◌≤ℤ◌, ◌<ℤ◌, unsigned_abs, List, [], ◌∷◌, length, get_or, All, sym, ap, ◌∙◌, subst, arith}
use Rattle.std.proofs.lemmas.Int.{ints, clamps}
use Rattle.std.proofs.lemmas.List.Elements.{All-contains, All-from_get_or, All-get_or}
use Rattle.integer_laws.specs.Laws.Order.{add_le, le_from, mul_le}
use Rattle.integer_laws.specs.Laws.Quotients.{floor_is, floor_le_ceil, floor_unique}
use Rattle.integer_laws.specs.Laws.Ring.{expand}
use Rattle.model_laws.specs.Laws.Nested.{nested}
use Rattle.plan_laws.specs.Audits.{BoxOf}
use Rattle.plan_laws.specs.Inside.{IsInside, region_at}
use Rattle.plan_laws.specs.Laws.Audits.{box_by_in}
use Rattle.plan_laws.specs.Laws.ObjectSpans.{object_spans}
use Rattle.search_laws.specs.Laws.RowSizes.{extremes_near}
use Rattle.seq_model.specs.Jobs.{object_at, scene_of_job, no_place}
use Rattle.seq_model.specs.Plates.{half_left, share_of}
use Rattle.seq_model.specs.Scenes.{Between, Valid}
use Rattle.seq_model.specs.declared.job.Job.{Job}
use Rattle.seq_model.specs.declared.plan.Place.{Place}
use Rattle.seq_model.specs.declared.plan.Plan.{Plan}
use Rattle.seq_model.specs.declared.plate.Region.{Region}
use Rattle.node_looks.specs.Looks.{IsFound}
use Rattle.plan_audit.specs.Places.{IsRoomy}
use Rattle.plate_shrink.proofs.EdgeLaws.{lies_by_narrow, lies_of_valid, lies_there, narrow_by_lies, valid_of_lies}
use Rattle.plate_shrink.proofs.Moves.{found_again}
use Rattle.plate_shrink.specs.Edges.{AreNarrow, IsSpanOf, edges_of, edges_with, joined, shift_of}
use Rattle.plate_shrink.specs.Fitting.{FitsNoLower, IsSmallShift, plan_by}
use Rattle.plate_shrink.specs.declared.fitting.Edges.{Edges}
use Rattle.plate_shrink.specs.declared.fitting.Shift.{Shift}

-- ---- regions
share_whole : (size : ℤ) (grid : ℕ) → 1 ≤ grid → share_of size grid grid ≡ size
share_whole size grid g =
    sym (floor_unique (size *ℤ pos grid) (pos grid) size (omega (arith, ints, g)) (record { low = low; high = high }))
  where
    low : (pos grid *ℤ size) ≤ℤ (size *ℤ pos grid)
    low = (let same : pos grid *ℤ size ≡ size *ℤ pos grid = simp expand (omega (arith, ints)) in omega (arith, ints, same))

    high : (size *ℤ pos grid) <ℤ (pos grid *ℤ size +ℤ pos grid)
    high = (let same : pos grid *ℤ size ≡ size *ℤ pos grid = simp expand (omega (arith, ints)) in omega (arith, ints, same, g))

half_whole : (size share : ℤ) → share ≡ size → half_left size share ≡ pos 0
half_whole size share e = (let f = floor_is (size -ℤ share) (pos 2) (omega (arith, ints)) in let a = f.low in let b = f.high in omega (arith, ints, e, a, b))

-- every region lies on the plate, which is 20,000 grains wide and deep at most
record IsOnPlate (region : Region) : Type 0 where
  west : pos 0 ≤ℤ region.low.x
  east : (region.low.x +ℤ region.w) ≤ℤ pos 20_000
  south : pos 0 ≤ℤ region.low.y
  north : (region.low.y +ℤ region.h) ≤ℤ pos 20_000

on_plate : (job : Job) (e : ℕ) → e ≤ job.printer.grid → IsOnPlate (region_at job e)
on_plate job e h =
    let p = job.printer in
    let r = p.ranged in
    let n = nested p.width p.depth p.grid e p.grid r.width_low r.depth_low r.grid_low h in
    let w = share_whole p.width p.grid r.grid_low in
    let d = share_whole p.depth p.grid r.grid_low in
    let x = half_whole p.width (share_of p.width p.grid p.grid) w in
    let y = half_whole p.depth (share_of p.depth p.grid p.grid) d in
    let wide = r.width_high in
    let deep = r.depth_high in
    record {
      west = omega (arith, ints, n.west, x);
      east = omega (arith, ints, n.east, x, w, wide);
      south = omega (arith, ints, n.south, y);
      north = omega (arith, ints, n.north, y, d, deep);
    }

-- ---- edges
record IsSpread (a : Edges) : Type 0 where
  x : a.west ≤ℤ a.east
  y : a.south ≤ℤ a.north

spread_joined : (a b : Edges) → IsSpread a → IsSpread (joined a b)
spread_joined a b s = record { x = omega (arith, ints, clamps, s.x); y = omega (arith, ints, clamps, s.y) }

spread_with : (job : Job) (s : ℤ) (all : Edges) (places : List Place) → IsSpread all → IsSpread (edges_with job s all places)
spread_with job s all [] h = h
spread_with job s all (p ∷ places) h = spread_with job s (joined all (edges_of job s p)) places (spread_joined all (edges_of job s p) h)

spread_of : (job : Job) (s : ℤ) (p : Place) → pos 1 ≤ℤ s → p.object < length job.objects → IsSpread (edges_of job s p)
spread_of job s p one known =
    let spans = object_spans job p.object known in
    let o = object_at job p.object in
    let spots = (scene_of_job job).spots p.object in
    let west = All-contains (Between o.low o.high) (spots spans.west.band) spans.west.spot (spans.holds spans.west.band spans.west.below_count) spans.west.member in
    let south = All-contains (Between o.low o.high) (spots spans.south.band) spans.south.spot (spans.holds spans.south.band spans.south.below_count) spans.south.member in
    let across = west.east in
    let along = south.north in
    let x = floor_le_ceil p.x s (omega (arith, ints, one)) in
    let y = floor_le_ceil p.y s (omega (arith, ints, one)) in
    record { x = omega (arith, ints, across, spans.west.so, x); y = omega (arith, ints, along, spans.south.so, y) }

spread : (job : Job) (plan : Plan) (a : Edges) → pos 1 ≤ℤ plan.scale → All (λ (p : Place). p.object < length job.objects) plan.places → IsSpanOf job plan a → IsSpread a
spread job plan a one known span =
    let first = All-contains (λ (p : Place). p.object < length job.objects) plan.places span.first known span.member in
    subst IsSpread (sym span.are) (spread_with job plan.scale (edges_of job plan.scale span.first) plan.places (spread_of job plan.scale span.first one first))

-- a valid plan's edges lie on the plate, and so they do where they are moved to
pub shift_near : (job : Job) (e f : ℕ) (plan : Plan) (a : Edges) → e ≤ job.printer.grid → f ≤ job.printer.grid → Valid (scene_of_job job) e plan → IsSpanOf job plan a → AreNarrow job f a
    → IsSmallShift (shift_of a (region_at job f).low)
shift_near job e f plan a e_in f_in v span narrow =
    let here = lies_there job e plan a span v in
    let there = lies_by_narrow job f a narrow in
    let on = on_plate job e e_in in
    let at = on_plate job f f_in in
    let s = spread job plan a v.scale v.known span in
    record {
      x = omega (arith, ints, here.west, here.east, there.east, on.west, on.east, at.west, at.east, s.x);
      y = omega (arith, ints, here.south, here.north, there.north, on.south, on.north, at.south, at.north, s.y);
    }

-- ---- places
room : (s l h x r t : ℤ) → pos 1 ≤ℤ s → s <ℤ pos (2 ^ 62) → pos 0 ≤ℤ r → t ≤ℤ pos 20_000 → unsigned_abs l ≤ 1_001_000 → unsigned_abs h ≤ 1_001_000
    → (s *ℤ r) ≤ℤ (s *ℤ l +ℤ x) → (s *ℤ h +ℤ x) ≤ℤ (s *ℤ t) → unsigned_abs x < 2 ^ 90
room s l h x r t one small r_low t_high l_near h_near west east =
    let nonneg : pos 0 ≤ℤ s = omega (arith, ints, one) in
    let low = mul_le s {a = neg_ℤ (pos 2_000_000)} {b = r -ℤ l} nonneg (omega (arith, ints, r_low, l_near)) in
    let high = mul_le s {a = t -ℤ h} {b = pos 2_000_000} nonneg (omega (arith, ints, t_high, h_near)) in
    let below : (s *ℤ neg_ℤ (pos 2_000_000)) ≤ℤ x = le_from (add_le low west) (simp expand (omega (arith, ints))) in
    let above : x ≤ℤ (s *ℤ pos 2_000_000) = le_from (add_le high east) (simp expand (omega (arith, ints))) in
    omega (arith, ints, below, above, one, small)

place_room : (job : Job) (e : ℕ) (s : ℤ) (p : Place) → e ≤ job.printer.grid → pos 1 ≤ℤ s → s <ℤ pos (2 ^ 62) → p.object < length job.objects → BoxOf job e s p → IsRoomy p
place_room job e s p e_in one small known b =
    let on = on_plate job e e_in in
    let near = extremes_near job p.object known in
    let o = object_at job p.object in
    let r = region_at job e in
    record {
      x = room s o.low.x o.high.x p.x r.low.x (r.low.x +ℤ r.w) one small on.west on.east near.0.x near.1.x b.west b.east;
      y = room s o.low.y o.high.y p.y r.low.y (r.low.y +ℤ r.h) one small on.south on.north near.0.y near.1.y b.south b.north;
    }

pub valid_room : (job : Job) (e : ℕ) (plan : Plan) → Valid (scene_of_job job) e plan → plan.scale <ℤ pos (2 ^ 62) → All IsRoomy plan.places
valid_room job e plan v small = All-from_get_or IsRoomy plan.places no_place
    (λ k l.
    (let known = All-get_or (λ (p : Place). p.object < length job.objects) plan.places k no_place l v.known in
    let inside = All-get_or (IsInside job e plan.scale) plan.places k no_place l v.inside in
    place_room job e plan.scale (get_or plan.places k no_place) v.to_grid v.scale small known (box_by_in job e plan.scale (get_or plan.places k no_place) known inside)))

-- ---- the plan that is answered
pub moved_found : (job : Job) (e f : ℕ) (plan moved : Plan) (a : Edges) (shift : Shift) → e ≤ job.printer.grid → 1 ≤ f → f ≤ e → IsFound job e plan → IsSpanOf job plan a → AreNarrow job f a
    → shift ≡ shift_of a (region_at job f).low → moved ≡ plan_by shift plan → IsFound job f moved
moved_found job e f plan moved a shift grid one below found span narrow is made =
    let s = shift_of a (region_at job f).low in
    let f_in : f ≤ job.printer.grid = omega (arith, below, grid) in
    let valid : Valid (scene_of_job job) f (plan_by s plan) = valid_of_lies job e f s.x s.y plan a span found.valid one f_in (lies_by_narrow job f a narrow) in
    let made_by : moved ≡ plan_by s plan = made ∙ ap (λ (t : Shift). plan_by t plan) is in
    let there : Valid (scene_of_job job) f moved = subst (Valid (scene_of_job job) f) (sym made_by) valid in
    let roomy : All IsRoomy (plan_by s plan).places = valid_room job f (plan_by s plan) valid found.scale_high in
    found_again job e f s plan moved found made_by there (subst (λ (p : Plan). All IsRoomy p.places) (sym made_by) roomy)

pub no_lower : (job : Job) (f : ℕ) (plan : Plan) (a : Edges) → IsSpanOf job plan a → pos 1 ≤ℤ plan.scale → ((g : ℕ) → 1 ≤ g → g < f → AreNarrow job g a → ⊥) → FitsNoLower job plan f
no_lower job f plan a span one none = record {
  none = λ g below shift v. none g v.from_one below (narrow_by_lies job g shift.x shift.y a (lies_of_valid job g shift.x shift.y plan a span one v));
}

pub narrow_there : (job : Job) (e : ℕ) (plan : Plan) (a : Edges) → IsSpanOf job plan a → Valid (scene_of_job job) e plan → AreNarrow job e a
narrow_there job e plan a span v = narrow_by_lies job e (pos 0) (pos 0) a (lies_there job e plan a span v)
