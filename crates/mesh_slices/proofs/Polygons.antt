-- Spots round corner points have area, and so has their outline.
use Rattle.std.proofs.Common.{◌≢◌, ◌≤◌, ℤ, pos, ◌-ℤ◌, ◌*ℤ◌, ◌≤ℤ◌, ◌<ℤ◌, List, [], ◌∷◌, length, All, refl, arith, inl}
use Rattle.std.proofs.lemmas.Int.{ints}
use Rattle.integer_laws.specs.Laws.Members.{All-in}
use Rattle.integer_laws.specs.Laws.Order.{lt_from, mul_positive}
use Rattle.integer_laws.specs.Laws.Ring.{expand}
use Rattle.integer_laws.specs.Laws.Quotients.{floor_le_ceil}
use Rattle.seq_model.specs.declared.printer.Spot.{Spot}
use Rattle.seq_model.specs.Outlines.{below, above, spots}
use Rattle.seq_model.specs.Points.{Point}
use Rattle.outline_laws.specs.Laws.Area.{three_of_area}
use Rattle.outline_laws.specs.Corners.{HasArea}
use Rattle.mesh_slices.specs.Objects.{IsOutlineOf}
use Rattle.mesh_slices.specs.Laws.Unique.{hull_of_outline}

area_of_four : (grain margin : ℤ) (p : Point) (rest : List Spot) → pos 0 <ℤ grain → pos 1 ≤ℤ margin → pos 0 <ℤ p.d
    → HasArea (record { x = below margin p.x (p.d *ℤ grain); y = below margin p.y (p.d *ℤ grain) } ∷ record { x = above margin p.x (p.d *ℤ grain); y = below margin p.y (p.d *ℤ grain) } ∷ record { x = below margin p.x (p.d *ℤ grain); y = above margin p.y (p.d *ℤ grain) } ∷ rest)
area_of_four grain margin p rest g m d =
    let q = mul_positive p.d grain d g in
    let wide = floor_le_ceil p.x (p.d *ℤ grain) q in
    let deep = floor_le_ceil p.y (p.d *ℤ grain) q in
    record {
      i = record { x = below margin p.x (p.d *ℤ grain); y = below margin p.y (p.d *ℤ grain) };
      j = record { x = above margin p.x (p.d *ℤ grain); y = below margin p.y (p.d *ℤ grain) };
      k = record { x = below margin p.x (p.d *ℤ grain); y = above margin p.y (p.d *ℤ grain) };
      i_in = (0, omega arith, refl);
      j_in = (1, omega arith, refl);
      k_in = (2, omega arith, refl);
      turns = square (below margin p.x (p.d *ℤ grain)) (above margin p.x (p.d *ℤ grain)) (below margin p.y (p.d *ℤ grain)) (above margin p.y (p.d *ℤ grain)) (omega (arith, ints, wide)) (omega (arith, ints, deep));
    }
  where
    square : (w e s n : ℤ) → pos 0 <ℤ (e -ℤ w) → pos 0 <ℤ (n -ℤ s) → pos 0 <ℤ ((e -ℤ w) *ℤ (n -ℤ s) -ℤ (s -ℤ s) *ℤ (w -ℤ w))
    square w e s n h k = lt_from (mul_positive (e -ℤ w) (n -ℤ s) h k) (simp expand (omega (arith, ints)))

spots_have_area : (grain margin : ℤ) (points : List Point) → pos 0 <ℤ grain → pos 1 ≤ℤ margin → All (λ p. pos 0 <ℤ p.d) points → spots grain margin points ≢ [] → HasArea (spots grain margin points)
spots_have_area grain margin [] g m positive some = absurd (some refl)
spots_have_area grain margin (p ∷ ps) g m positive some = area_of_four grain margin p _ g m (All-in (λ q. pos 0 <ℤ q.d) (p ∷ ps) p positive (inl refl))

pub outline_has_area : (grain margin : ℤ) (points : List Point) (C : List Spot) → pos 0 <ℤ grain → pos 1 ≤ℤ margin → All (λ p. pos 0 <ℤ p.d) points → spots grain margin points ≢ [] → IsOutlineOf (spots grain margin points) C → 3 ≤ length C
outline_has_area grain margin points C g m positive some o =
    three_of_area (spots grain margin points) C (hull_of_outline (spots grain margin points) C o) (spots_have_area grain margin points g m positive some)
