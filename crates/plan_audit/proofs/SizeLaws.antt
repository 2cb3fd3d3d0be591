-- How great the numbers of a region and of an object's extremes are.
--
--   share_low, share_high    a share of a size lies from 0 to the size
--   region_small             a region's corner and size are at most 40,000 grains
--   extremes_near            an object's extremes are at most 1,001,000 grains in size
use Rattle.std.proofs.Common.{◌≡◌, ℕ, ◌<◌, ◌≤◌, length, subst, arith, ℤ, pos, ◌+ℤ◌, ◌-ℤ◌, ◌*ℤ◌, ◌≤ℤ◌, ◌<ℤ◌, unsigned_abs}
use Rattle.std.proofs.lemmas.Int.{ints}
use Rattle.integer_laws.specs.Members.{In}
use Rattle.integer_laws.specs.Laws.Members.{All-in}
use Rattle.integer_laws.specs.Laws.Order.{cancel_le, mul_le, le_from, add_le}
use Rattle.integer_laws.specs.Laws.Quotients.{floor_is, least_quotient}
use Rattle.integer_laws.specs.Laws.Ring.{expand}
use Rattle.model_laws.specs.Laws.Collisions.{sound_object, sound_zone}
use Rattle.plan_laws.specs.Inside.{region_at}
use Rattle.plan_laws.specs.Laws.ObjectSpans.{corners_some, corner_zone, least_at, greatest_at, Reaching}
use Rattle.seq_model.specs.Bounds.{IsNearSpot}
use Rattle.seq_model.specs.Jobs.{object_at, zone_at}
use Rattle.seq_model.specs.Plates.{share_of, half_left}
use Rattle.seq_model.specs.Soundness.{corners_of}
use Rattle.seq_model.specs.declared.job.Job.{Job}
use Rattle.seq_model.specs.declared.plate.Region.{Region}
use Rattle.seq_model.specs.declared.printer.Spot.{Spot}

-- ---- objects
pub zone_near : (job : Job) (i z : ℕ) → i < length job.objects → z < length (object_at job i).zones → (s : Spot) → In s (zone_at job i z).corners → IsNearSpot 1_001_000 s
zone_near job i z l m s n = All-in (IsNearSpot 1_001_000) (zone_at job i z).corners s (sound_zone job i z l m).near n

pub extremes_near : (job : Job) (i : ℕ) → i < length job.objects → IsNearSpot 1_001_000 (object_at job i).low × IsNearSpot 1_001_000 (object_at job i).high
extremes_near job i l =
    let x = (sound_object job i l).extremes in
    let c = corners_some job i l in
    let S = corners_of (object_at job i).zones in (
      record { x = of (λ s. s.x) (object_at job i).low.x (least_at (λ s. s.x) S (object_at job i).low.x c x.west) (λ s h. h.x); y = of (λ s. s.y) (object_at job i).low.y (least_at (λ s. s.y) S (object_at job i).low.y c x.south) (λ s h. h.y) },
      record { x = of (λ s. s.x) (object_at job i).high.x (greatest_at (λ s. s.x) S (object_at job i).high.x c x.east) (λ s h. h.x); y = of (λ s. s.y) (object_at job i).high.y (greatest_at (λ s. s.y) S (object_at job i).high.y c x.north) (λ s h. h.y) },
    )
  where
    of : (f : Spot → ℤ) (g : ℤ) → Reaching (corners_of (object_at job i).zones) (λ s. f s ≡ g) → ((s : Spot) → IsNearSpot 1_001_000 s → unsigned_abs (f s) ≤ 1_001_000) → unsigned_abs g ≤ 1_001_000
    of f g r small =
        let z = corner_zone (object_at job i).zones r.0 r.1 in
        subst (λ t. unsigned_abs t ≤ 1_001_000) r.2 (small r.0 (zone_near job i z.0 l z.1 r.0 z.2))

-- ---- regions
pub share_low : (size : ℤ) (grid e : ℕ) → pos 1 ≤ℤ size → 1 ≤ grid → pos 0 ≤ℤ share_of size grid e
share_low size grid e s g =
    let f = floor_is (size *ℤ pos e) (pos grid) (omega (arith, ints, g)) in
    let n : pos 0 ≤ℤ (size *ℤ pos e) = le_from (mul_le size {a = pos 0} {b = pos e} (omega (arith, ints, s)) (omega (arith, ints))) (simp expand (omega (arith, ints))) in
    least_quotient (pos grid) (pos 0) (share_of size grid e) (omega (arith, ints, g)) (below (size *ℤ pos e) (pos grid *ℤ share_of size grid e) (pos grid) f.high n)
  where
    below : (a b d : ℤ) → a <ℤ (b +ℤ d) → pos 0 ≤ℤ a → (pos grid *ℤ pos 0) <ℤ (b +ℤ d)
    below a b d h n = let z : pos grid *ℤ pos 0 ≡ pos 0 = simp expand in omega (arith, ints, h, n, z)

pub share_high : (size : ℤ) (grid e : ℕ) → pos 1 ≤ℤ size → 1 ≤ grid → e ≤ grid → share_of size grid e ≤ℤ size
share_high size grid e s g h =
    let f = floor_is (size *ℤ pos e) (pos grid) (omega (arith, ints, g)) in
    let n = mul_le size {a = pos e} {b = pos grid} (omega (arith, ints, s)) (omega (arith, ints, h)) in
    cancel_le (pos grid) (omega (arith, ints, g)) (le_from (add_le f.low n) (simp expand (omega (arith, ints))))

half_near : (size share : ℤ) → pos 0 ≤ℤ share → share ≤ℤ size → size ≤ℤ pos 20_000 → unsigned_abs (half_left size share) ≤ 40_000
half_near size share low high most =
    let f = floor_is (size -ℤ share) (pos 2) (omega (arith, ints)) in
    let a = f.low in
    let b = f.high in
    omega (arith, ints, low, high, most, a, b)

pub record IsSmallRegion (region : Region) : Type 0 where
  pub low : IsNearSpot 40_000 region.low
  pub wide : (pos 0 ≤ℤ region.w) × (region.w ≤ℤ pos 40_000)
  pub deep : (pos 0 ≤ℤ region.h) × (region.h ≤ℤ pos 40_000)

pub region_small : (job : Job) (e : ℕ) → e ≤ job.printer.grid → IsSmallRegion (region_at job e)
region_small job e h =
    let r = job.printer.ranged in
    let p = job.printer in
    let wl = share_low p.width p.grid e r.width_low r.grid_low in
    let wh = share_high p.width p.grid e r.width_low r.grid_low h in
    let dl = share_low p.depth p.grid e r.depth_low r.grid_low in
    let dh = share_high p.depth p.grid e r.depth_low r.grid_low h in
    let wm = r.width_high in
    let dm = r.depth_high in
    record {
      low = record { x = half_near p.width (share_of p.width p.grid e) wl wh wm; y = half_near p.depth (share_of p.depth p.grid e) dl dh dm };
      wide = (wl, omega (arith, ints, wh, wm));
      deep = (dl, omega (arith, ints, dh, dm));
    }

-- ---- the test of a box
