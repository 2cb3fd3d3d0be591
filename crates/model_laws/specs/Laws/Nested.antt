-- Regions are nested.
--
--   nested                   the region of a smaller extent lies in that of a larger one
--   valid_at_larger          what is valid at an extent is so at a larger one
--   least_from_below         so one extent below decides what is the least
use Rattle.std.proofs.Common.{ℕ, ◌+◌, ◌≤◌, get_or, ℤ, pos, ◌+ℤ◌, ◌-ℤ◌, ◌*ℤ◌, ◌≤ℤ◌, arith}
use Rattle.std.proofs.lemmas.Int.{ints}
use Rattle.integer_laws.specs.Laws.Order.{mul_le}
use Rattle.integer_laws.specs.Laws.Quotients.{floor_le, floor_is}
use Rattle.seq_model.specs.Plates.{share_of, half_left, region_of}
use Rattle.seq_model.specs.Scenes.{Scene, LiesIn, Valid, Least}
use Rattle.seq_model.specs.declared.plan.Place.{Place}
use Rattle.seq_model.specs.declared.plan.Plan.{Plan}
use Rattle.seq_model.specs.declared.plate.Region.{Region}
use Rattle.seq_model.specs.declared.printer.Spot.{Spot}
use borrow.Author.Differences.{product_is}
use Rattle.model_laws.specs.Nested.{LiesWithin}

share_grows : (size : ℤ) (grid e f : ℕ) → pos 1 ≤ℤ size → 1 ≤ grid → e ≤ f → share_of size grid e ≤ℤ share_of size grid f
share_grows size grid e f p g h =
    let times = mul_le size {a = pos e} {b = pos f} (omega (arith, ints, p)) (omega (arith, ints, h)) in
    floor_le (pos grid) {a = size *ℤ pos e} {b = size *ℤ pos f} (omega (arith, ints, g)) times

record Reaches (size w v : ℤ) : Type 0 where
  low : half_left size v ≤ℤ half_left size w
  high : (half_left size w +ℤ w) ≤ℤ (half_left size v +ℤ v)

-- the greater share reaches as far to both sides
reaches : (size w v : ℤ) → w ≤ℤ v → Reaches size w v
reaches size w v h =
    let a = floor_is (size -ℤ w) (pos 2) (omega (arith, ints)) in
    let b = floor_is (size -ℤ v) (pos 2) (omega (arith, ints)) in
    record { low = omega (arith, ints, product_is, h, a.high, b.low); high = omega (arith, ints, product_is, h, a.low, b.high) }

pub nested : (width depth : ℤ) (grid e f : ℕ) → pos 1 ≤ℤ width → pos 1 ≤ℤ depth → 1 ≤ grid → e ≤ f → LiesWithin (region_of width depth grid e) (region_of width depth grid f)
nested width depth grid e f w d g h =
    let x = reaches width (share_of width grid e) (share_of width grid f) (share_grows width grid e f w g h) in
    let y = reaches depth (share_of depth grid e) (share_of depth grid f) (share_grows depth grid e f d g h) in
    record { west = x.low; east = x.high; south = y.low; north = y.high }

-- ---- a plan that is valid stays so at a larger extent
lies_in : (inner outer : Region) (scale : ℤ) (place : Place) (s : Spot) → pos 1 ≤ℤ scale → LiesWithin inner outer → LiesIn inner scale place s → LiesIn outer scale place s
lies_in inner outer scale place s one w l =
    let not_negative : pos 0 ≤ℤ scale = omega (arith, ints, one) in
    let west = mul_le scale not_negative w.west in
    let east = mul_le scale not_negative w.east in
    let south = mul_le scale not_negative w.south in
    let north = mul_le scale not_negative w.north in
    record { west = between west l.west; east = between l.east east; south = between south l.south; north = between l.north north }
  where
    between : {a b c : ℤ} → a ≤ℤ b → b ≤ℤ c → a ≤ℤ c
    between h k = omega (arith, ints, h, k)

pub valid_at_larger : (scene : Scene) (e f : ℕ) (plan : Plan) → pos 1 ≤ℤ scene.width → pos 1 ≤ℤ scene.depth → e ≤ f → f ≤ scene.grid → Valid scene e plan → Valid scene f plan
valid_at_larger scene e f plan w d h k v =
    let one = v.from_one in
    let within = nested scene.width scene.depth scene.grid e f w d (omega (arith, one, h, k)) h in
    record {
      from_one = omega (arith, one, h);
      to_grid = k;
      scale = v.scale;
      known = v.known;
      once = v.once;
      inside = λ n p l b m r q o.
          lies_in (region_of scene.width scene.depth scene.grid e) (region_of scene.width scene.depth scene.grid f) plan.scale (get_or plan.places n p) (get_or (scene.spots (get_or plan.places n p).object b) r q) v.scale within (v.inside n p l b m r q o);
      apart = v.apart;
    }

pub least_from_below : (scene : Scene) (e : ℕ) (plan : Plan) → pos 1 ≤ℤ scene.width → pos 1 ≤ℤ scene.depth → Valid scene (e + 1) plan → ((q : Plan) → Valid scene e q → ⊥) → Least scene (e + 1)
least_from_below scene e plan w d v none = record { plan = plan; valid = v; none = λ f less q u. none q (valid_at_larger scene f e q w d (omega (arith, less)) (let k = v.to_grid in omega (arith, k)) u) }
