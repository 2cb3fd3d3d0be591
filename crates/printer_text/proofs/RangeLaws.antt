-- Ranges in grains.
use Rattle.std.proofs.Common.{◌≡◌, ℤ, pos, ◌*ℤ◌, ◌≤ℤ◌, ◌<ℤ◌, unsigned_abs, arith}
use Rattle.std.proofs.lemmas.Int.{ints}
use Rattle.integer_laws.specs.Laws.Order.{cancel_le}
use Rattle.seq_model.specs.Bounds.{IsPrinter}
use Rattle.printer_text.specs.Outlines.{IsGrain}

-- what lies in a range of µm lies in that of grains
pub in_grains : (grain low high n from to : ℤ) → IsGrain grain → from ≡ grain *ℤ low → to ≡ grain *ℤ high → from ≤ℤ (grain *ℤ n) → (grain *ℤ n) ≤ℤ to → (low ≤ℤ n) × (n ≤ℤ high)
in_grains grain low high n from to g a b h k =
    let positive : pos 0 <ℤ grain = (let p = g.low in omega (arith, ints)) in
    let first : (grain *ℤ low) ≤ℤ (grain *ℤ n) = rw (← a) h in
    let last : (grain *ℤ n) ≤ℤ (grain *ℤ high) = rw (← b) k in
    (cancel_le grain positive first, cancel_le grain positive last)

pub sizes_ranged : (grain width depth step margin grid : ℤ) → (pos 10 ≤ℤ grain) × (grain ≤ℤ pos 10_000) → (pos 1 ≤ℤ width) × (width ≤ℤ pos 20_000) → (pos 1 ≤ℤ depth) × (depth ≤ℤ pos 20_000)
    → (pos 10 ≤ℤ step) × (step ≤ℤ pos 100_000) → (pos 1 ≤ℤ margin) × (margin ≤ℤ pos 1_000) → (pos 1 ≤ℤ grid) × (grid ≤ℤ pos 1_000) → IsPrinter grain width depth step margin (unsigned_abs grid)
sizes_ranged grain width depth step margin grid a b c d e f =
    let low = f.0 in
    let high = f.1 in
    record {
      grain_low = a.0;
      grain_high = a.1;
      width_low = b.0;
      width_high = b.1;
      depth_low = c.0;
      depth_high = c.1;
      step_low = d.0;
      step_high = d.1;
      margin_low = e.0;
      margin_high = e.1;
      grid_low = omega (arith, ints);
      grid_high = omega (arith, ints);
    }
