-- How near the corner of a region is, and which object has which number.
use Rattle.std.proofs.Common.{◌≡◌, ℕ, ◌<◌, ◌≤◌, List, length, get_or, sym, subst, ap, ◌∙◌, arith, ℤ, pos, ◌-ℤ◌, ◌≤ℤ◌, unsigned_abs}
use Rattle.std.proofs.lemmas.Int.{ints}
use Rattle.std.proofs.lemmas.List.{get_or_default}
use Rattle.integer_laws.specs.Laws.Quotients.{floor_is}
use Rattle.plan_laws.specs.Inside.{region_at}
use Rattle.search_laws.specs.Laws.RowSizes.{extremes_near, share_low, share_high}
use Rattle.seq_model.specs.Bounds.{IsNearSpot}
use Rattle.seq_model.specs.Jobs.{no_object, object_at}
use Rattle.seq_model.specs.Plates.{share_of, half_left}
use Rattle.seq_model.specs.declared.job.Job.{Job}
use Rattle.seq_model.specs.declared.job.Object.{Object}

half_near : (size share : ℤ) → pos 0 ≤ℤ share → share ≤ℤ size → size ≤ℤ pos 20_000 → unsigned_abs (half_left size share) ≤ 40_000
half_near size share low high most =
    let f = floor_is (size -ℤ share) (pos 2) (omega (arith, ints)) in
    let a = f.low in
    let b = f.high in
    omega (arith, ints, low, high, most, a, b)

pub corner_near : (job : Job) (e : ℕ) → e ≤ job.printer.grid → IsNearSpot 40_000 (region_at job e).low
corner_near job e h =
    let r = job.printer.ranged in
    let p = job.printer in
    record {
      x = half_near p.width (share_of p.width p.grid e) (share_low p.width p.grid e r.width_low r.grid_low) (share_high p.width p.grid e r.width_low r.grid_low h) r.width_high;
      y = half_near p.depth (share_of p.depth p.grid e) (share_low p.depth p.grid e r.depth_low r.grid_low) (share_high p.depth p.grid e r.depth_low r.grid_low h) r.depth_high;
    }

-- an object that was read from the list is the one of its number
pub object_is : (job : Job) (i : ℕ) (objects : List Object) (o : Object) → i < length job.objects → objects ≡ job.objects → o ≡ get_or objects i o → o ≡ object_at job i
object_is job i objects o l e is = is ∙ ap (λ xs. get_or xs i o) e ∙ sym (get_or_default job.objects i no_object o l)

pub low_near : (job : Job) (i : ℕ) (o : Object) → i < length job.objects → o ≡ object_at job i → IsNearSpot 1_001_000 o.low
low_near job i o l e = subst (λ (x : Object). IsNearSpot 1_001_000 x.low) (sym e) (extremes_near job i l).0

pub high_near : (job : Job) (i : ℕ) (o : Object) → i < length job.objects → o ≡ object_at job i → IsNearSpot 1_001_000 o.high
high_near job i o l e = subst (λ (x : Object). IsNearSpot 1_001_000 x.high) (sym e) (extremes_near job i l).1
