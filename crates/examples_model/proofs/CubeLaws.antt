-- Inner points of a square, and two cubes beside each other.
use Rattle.std.proofs.Common.{◌≡◌, ℕ, zero, suc, ◌+◌, ◌<◌, ◌≤◌, [], ◌∷◌, refl, sym, subst, arith, pos, negsuc, ◌*ℤ◌, ◌≤ℤ◌, ◌<ℤ◌, inl, inr, lit<, lit≤, slice_index_or}
use Rattle.std.proofs.lemmas.Int.{ints}
use Rattle.examples_model.specs.Cubes.{spot, at, half, square, cube, nozzle}
use Rattle.examples_model.specs.Jobs.{two_cubes, tall_and_low, nozzle_part, gantry_part}
use Rattle.seq_model.specs.Jobs.{scene_of_job}
use Rattle.seq_model.specs.Outlines.{Inner, Within}
use Rattle.seq_model.specs.Parts.{tip}
use Rattle.seq_model.specs.Points.{Point, minus}
use Rattle.seq_model.specs.Scenes.{Scene, Overlap, Collides}
use Rattle.seq_model.specs.declared.printer.Part.{Part}
use lib.Signed.{le_z_yes, lt_z_yes}
use Rattle.examples_model.proofs.Apart.{east_of, west_of, at_spot, no_sum}
use Rattle.integer_laws.specs.Laws.Order.{le_of_same, lt_from}
use Rattle.integer_laws.specs.Laws.Ring.{expand}

-- a square's middle is inner
pub middle : Inner (square (pos 0) (pos 2)) (at (pos 1) (pos 1))
middle = record { point = record { positive = le_z_yes tt }; w = pos 1 ∷ pos 1 ∷ pos 1 ∷ pos 1 ∷ []; weights = (le_z_yes tt, (le_z_yes tt, (le_z_yes tt, (le_z_yes tt, tt)))); some = le_z_yes tt; x = refl; y = refl }

-- and a point of its edge isn't
pub edge_within : Within (square (pos 0) (pos 2)) (at (pos 0) (pos 1))
edge_within = record { point = record { positive = le_z_yes tt }; w = pos 1 ∷ pos 0 ∷ pos 0 ∷ pos 1 ∷ []; weights = (le_z_yes tt, (le_z_yes tt, (le_z_yes tt, (le_z_yes tt, tt)))); some = le_z_yes tt; x = refl; y = refl }

pub edge : Inner (square (pos 0) (pos 2)) (at (pos 0) (pos 1)) → ⊥
edge m =
    let beyond = east_of (square (pos 0) (pos 2)) (at (pos 0) (pos 1)) (pos 0) (spot (pos 2) (pos 0)) m (le_z_yes tt, (le_z_yes tt, (le_z_yes tt, (le_z_yes tt, tt)))) (inr (inl refl)) (lt_z_yes tt) in
    absurd (omega (arith, ints))

-- ---- two cubes on a plate: the later one stands to the east of the earlier one
abbrev origin : Point
origin = at (pos 0) (pos 0)

-- an inner point of a cube lies strictly between its edges
pub cube_west : (q : Point) → Inner cube q → q.x <ℤ (pos 21 *ℤ q.d)
cube_west q m = west_of cube q (pos 21) (spot (negsuc 0) (negsuc 0)) m (le_z_yes tt, (le_z_yes tt, (le_z_yes tt, (le_z_yes tt, tt)))) (inl refl) (lt_z_yes tt)

pub cube_east : (q : Point) → Inner cube q → (negsuc 0 *ℤ q.d) <ℤ q.x
cube_east q m = east_of cube q (negsuc 0) (spot (pos 21) (negsuc 0)) m (le_z_yes tt, (le_z_yes tt, (le_z_yes tt, (le_z_yes tt, tt)))) (inr (inl refl)) (lt_z_yes tt)

pub nozzle_east : (q : Point) → Inner nozzle q → (negsuc 1 *ℤ q.d) ≤ℤ q.x
nozzle_east q m =
    let h = east_of nozzle q (negsuc 1) (spot (pos 2) (negsuc 1)) m (le_z_yes tt, (le_z_yes tt, (le_z_yes tt, (le_z_yes tt, tt)))) (inr (inl refl)) (lt_z_yes tt) in
    omega (arith, ints, h)

-- from distance 24 on they don't collide by the nozzle
clear_from : (n : ℕ) → 24 ≤ n → Overlap cube cube nozzle origin (at (pos n) (pos 0)) → ⊥
clear_from n far o =
    let west = cube_west (minus o.point origin) o.earlier in
    let east = cube_east o.of_later o.later in
    let least = nozzle_east o.of_part o.moving in
    let d = o.is_point.positive in
    let l = o.later.point.positive in
    let f = o.moving.point.positive in
    no_sum o.point.x o.point.d o.of_later.x o.of_later.d o.of_part.x o.of_part.d (pos n) (pos 1) (pos 21) (negsuc 0) (negsuc 1) (omega (arith, ints, d)) (omega (arith, ints, l)) (omega (arith, ints, f)) (lt_z_yes tt)
    (lt_from west (simp expand (omega (arith, ints)))) east least (omega (arith, ints, far)) o.sum.x

pub clear_at_24 : Overlap cube cube nozzle origin (at (pos 24) (pos 0)) → ⊥
clear_at_24 = clear_from 24 (lit≤ tt)

-- at 47/2 they do
pub meet_at_47_2 : Overlap cube cube nozzle origin (half (pos 47) (pos 0))
meet_at_47_2 = record {
  point = record { x = pos 83; y = pos 40; d = pos 4 };
  is_point = record { positive = le_z_yes tt };
  is_place = record { positive = le_z_yes tt };
  of_later = record { x = negsuc 6; y = pos 80; d = pos 8 };
  of_part = record { x = negsuc 14; y = pos 0; d = pos 8 };
  earlier = record { point = record { positive = le_z_yes tt }; w = pos 1 ∷ pos 87 ∷ pos 87 ∷ pos 1 ∷ []; weights = (le_z_yes tt, (le_z_yes tt, (le_z_yes tt, (le_z_yes tt, tt)))); some = le_z_yes tt; x = refl; y = refl };
  later = record { point = record { positive = le_z_yes tt }; w = pos 175 ∷ pos 1 ∷ pos 1 ∷ pos 175 ∷ []; weights = (le_z_yes tt, (le_z_yes tt, (le_z_yes tt, (le_z_yes tt, tt)))); some = le_z_yes tt; x = refl; y = refl };
  moving = record { point = record { positive = le_z_yes tt }; w = pos 31 ∷ pos 1 ∷ pos 1 ∷ pos 31 ∷ []; weights = (le_z_yes tt, (le_z_yes tt, (le_z_yes tt, (le_z_yes tt, tt)))); some = le_z_yes tt; x = refl; y = refl };
  sum = record { x = refl; y = refl };
}

-- and by the tip they don't
pub clear_of_tip : Overlap cube cube tip.corners origin (half (pos 47) (pos 0)) → ⊥
clear_of_tip o =
    let west = cube_west (minus o.point origin) o.earlier in
    let east = cube_east o.of_later o.later in
    let least = at_spot (spot (pos 0) (pos 0)) o.of_part o.moving in
    let d = o.is_point.positive in
    let l = o.later.point.positive in
    let f = o.moving.point.positive in
    no_sum o.point.x o.point.d o.of_later.x o.of_later.d o.of_part.x o.of_part.d (pos 47) (pos 2) (pos 21) (negsuc 0) (pos 0) (omega (arith, ints, d)) (omega (arith, ints, l)) (omega (arith, ints, f)) (lt_z_yes tt)
    (lt_from west (simp expand (omega (arith, ints)))) east (le_of_same (sym least)) (le_z_yes tt) o.sum.x

-- ---- the pair in the scene of the job: both bands have the cube's outline
abbrev cubes : Scene
cubes = scene_of_job two_cubes

pub collide_at_47_2 : Collides cubes 0 origin 1 (half (pos 47) (pos 0))
collide_at_47_2 = record { b = 0; c = 0; part = nozzle_part; band_of_later = lit< tt; band_of_earlier = lit< tt; part_of_scene = (1, lit< tt, refl); meets = record { from_low = lit≤ tt; to_high = tt }; overlap = meet_at_47_2 }

pub spots_of : (o b : ℕ) → o < 2 → b < 2 → cubes.spots o b ≡ cube
spots_of zero zero h k = refl
spots_of zero (suc zero) h k = refl
spots_of (suc zero) zero h k = refl
spots_of (suc zero) (suc zero) h k = refl
spots_of o (suc (suc b)) h k = absurd (omega (arith, k))
spots_of (suc (suc o)) b h k = absurd (omega (arith, h))

-- nor by the tip's one point
clear_of_tip_from : (n : ℕ) → 24 ≤ n → Overlap cube cube tip.corners origin (at (pos n) (pos 0)) → ⊥
clear_of_tip_from n far o =
    let west = cube_west (minus o.point origin) o.earlier in
    let east = cube_east o.of_later o.later in
    let least = at_spot (spot (pos 0) (pos 0)) o.of_part o.moving in
    let d = o.is_point.positive in
    let l = o.later.point.positive in
    let f = o.moving.point.positive in
    no_sum o.point.x o.point.d o.of_later.x o.of_later.d o.of_part.x o.of_part.d (pos n) (pos 1) (pos 21) (negsuc 0) (pos 0) (omega (arith, ints, d)) (omega (arith, ints, l)) (omega (arith, ints, f)) (lt_z_yes tt)
    (lt_from west (simp expand (omega (arith, ints)))) east (le_of_same (sym least)) (omega (arith, ints, far)) o.sum.x

pub apart_at_24 : Collides cubes 0 origin 1 (at (pos 24) (pos 0)) → ⊥
apart_at_24 k = by_part k.part_of_scene.0 k.part_of_scene.1 k.part_of_scene.2
  where
    met : Overlap cube cube k.part.corners origin (at (pos 24) (pos 0))
    met = subst (λ A. Overlap A cube k.part.corners origin (at (pos 24) (pos 0))) (spots_of 0 k.c (lit< tt) k.band_of_earlier)
        (subst (λ B. Overlap (cubes.spots 0 k.c) B k.part.corners origin (at (pos 24) (pos 0))) (spots_of 1 k.b (lit< tt) k.band_of_later) k.overlap)

    by_part : (n : ℕ) → n < 3 → slice_index_or cubes.parts n k.part ≡ k.part → ⊥
    by_part zero l e = clear_of_tip_from 24 (lit≤ tt) (subst (λ (p : Part). Overlap cube cube p.corners origin (at (pos 24) (pos 0))) (sym e) met)
    by_part (suc zero) l e = clear_at_24 (subst (λ (p : Part). Overlap cube cube p.corners origin (at (pos 24) (pos 0))) (sym e) met)
    by_part (suc (suc zero)) l e =
        let low : k.b + 2 ≤ k.c = subst (λ (p : Part). k.b + p.lo ≤ k.c) (sym e) k.meets.from_low in
        let c = k.band_of_earlier in
        absurd (omega (arith, low, c))
    by_part (suc (suc (suc n))) l e = absurd (omega (arith, l))

-- ---- a tall cube and a low one: the gantry reaches from two bands above
abbrev uneven : Scene
uneven = scene_of_job tall_and_low

pub tall_first : Collides uneven 0 (at (pos 25) (pos 0)) 1 origin
tall_first = record {
  b = 0;
  c = 2;
  part = gantry_part;
  band_of_later = lit< tt;
  band_of_earlier = lit< tt;
  part_of_scene = (2, lit< tt, refl);
  meets = record { from_low = lit≤ tt; to_high = tt };
  overlap = record {
    point = at (pos 25) (pos 10);
    is_point = record { positive = le_z_yes tt };
    is_place = record { positive = le_z_yes tt };
    of_later = at (pos 20) (pos 10);
    of_part = at (pos 5) (pos 0);
    earlier = record { point = record { positive = le_z_yes tt }; w = pos 21 ∷ pos 1 ∷ pos 1 ∷ pos 21 ∷ []; weights = (le_z_yes tt, (le_z_yes tt, (le_z_yes tt, (le_z_yes tt, tt)))); some = le_z_yes tt; x = refl; y = refl };
    later = record { point = record { positive = le_z_yes tt }; w = pos 1 ∷ pos 21 ∷ pos 21 ∷ pos 1 ∷ []; weights = (le_z_yes tt, (le_z_yes tt, (le_z_yes tt, (le_z_yes tt, tt)))); some = le_z_yes tt; x = refl; y = refl };
    moving = record { point = record { positive = le_z_yes tt }; w = pos 48 ∷ pos 53 ∷ pos 53 ∷ pos 48 ∷ []; weights = (le_z_yes tt, (le_z_yes tt, (le_z_yes tt, (le_z_yes tt, tt)))); some = le_z_yes tt; x = refl; y = refl };
    sum = record { x = refl; y = refl };
  };
}

pub low_spots : (b : ℕ) → b < 2 → uneven.spots 1 b ≡ cube
low_spots zero k = refl
low_spots (suc zero) k = refl
low_spots (suc (suc b)) k = absurd (omega (arith, k))

pub tall_spots : (b : ℕ) → b < 4 → uneven.spots 0 b ≡ cube
tall_spots zero k = refl
tall_spots (suc zero) k = refl
tall_spots (suc (suc zero)) k = refl
tall_spots (suc (suc (suc zero))) k = refl
tall_spots (suc (suc (suc (suc b)))) k = absurd (omega (arith, k))

pub low_first : Collides uneven 1 origin 0 (at (pos 25) (pos 0)) → ⊥
low_first k = by_part k.part_of_scene.0 k.part_of_scene.1 k.part_of_scene.2
  where
    met : Overlap cube cube k.part.corners origin (at (pos 25) (pos 0))
    met = subst (λ A. Overlap A cube k.part.corners origin (at (pos 25) (pos 0))) (low_spots k.c k.band_of_earlier)
        (subst (λ B. Overlap (uneven.spots 1 k.c) B k.part.corners origin (at (pos 25) (pos 0))) (tall_spots k.b k.band_of_later) k.overlap)

    by_part : (n : ℕ) → n < 3 → slice_index_or uneven.parts n k.part ≡ k.part → ⊥
    by_part zero l e = clear_of_tip_from 25 (lit≤ tt) (subst (λ (p : Part). Overlap cube cube p.corners origin (at (pos 25) (pos 0))) (sym e) met)
    by_part (suc zero) l e = clear_from 25 (lit≤ tt) (subst (λ (p : Part). Overlap cube cube p.corners origin (at (pos 25) (pos 0))) (sym e) met)
    by_part (suc (suc zero)) l e =
        let low : k.b + 2 ≤ k.c = subst (λ (p : Part). k.b + p.lo ≤ k.c) (sym e) k.meets.from_low in
        let c = k.band_of_earlier in
        absurd (omega (arith, low, c))
    by_part (suc (suc (suc n))) l e = absurd (omega (arith, l))
