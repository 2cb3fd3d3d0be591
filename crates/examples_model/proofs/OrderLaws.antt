-- A low cube and then a tall one beside it are a valid plan; the same places in the other order aren't.
use Rattle.std.proofs.Common.{◌≡◌, ℕ, zero, suc, ◌+◌, ◌<◌, ◌≤◌, [], ◌∷◌, refl, sym, subst, arith, pos, negsuc, All, lit<, lit≤, slice_index_or}
use Rattle.std.proofs.lemmas.Int.{ints}
use Rattle.std.proofs.lemmas.List.Kept.{AllPairs-cons}
use Rattle.std.specs.Prelude.{count_by, nat_eq}
use lib.Signed.{le_z_yes, lt_z_yes}
use Rattle.integer_laws.specs.Laws.Order.{le_of_same, lt_from}
use Rattle.integer_laws.specs.Laws.Ring.{expand}
use Rattle.examples_model.specs.Cubes.{spot, at, cube, nozzle}
use Rattle.examples_model.specs.Deciding.{all_of}
use Rattle.examples_model.specs.Jobs.{tall_and_low, gantry_part}
use Rattle.examples_model.specs.Plans.{low_place, tall_place, low_then_tall, tall_then_low}
use Rattle.examples_model.proofs.Apart.{at_spot, no_sum}
use Rattle.examples_model.proofs.CubeLaws.{low_spots, tall_spots, cube_west, cube_east, nozzle_east}
use Rattle.seq_model.specs.Jobs.{scene_of_job}
use Rattle.seq_model.specs.Parts.{tip}
use Rattle.seq_model.specs.Plates.{region_of}
use Rattle.seq_model.specs.Points.{minus, place_point}
use Rattle.seq_model.specs.Scenes.{Scene, LiesIn, Overlap, Collides, Valid}
use Rattle.seq_model.specs.declared.plan.Place.{Place}
use Rattle.seq_model.specs.declared.printer.Part.{Part}

abbrev scene : Scene
scene = scene_of_job tall_and_low

low_in : (b : ℕ) → b < 2 → All (LiesIn (region_of (pos 100) (pos 100) 100 100) (pos 1) low_place) (scene.spots 1 b)
low_in b h = subst (All (LiesIn (region_of (pos 100) (pos 100) 100 100) (pos 1) low_place)) (sym (low_spots b h))
    (all_of (LiesIn (region_of (pos 100) (pos 100) 100 100) (pos 1) low_place) cube (
      record { west = le_z_yes tt; east = le_z_yes tt; south = le_z_yes tt; north = le_z_yes tt },
      (
        record { west = le_z_yes tt; east = le_z_yes tt; south = le_z_yes tt; north = le_z_yes tt },
        (record { west = le_z_yes tt; east = le_z_yes tt; south = le_z_yes tt; north = le_z_yes tt }, (record { west = le_z_yes tt; east = le_z_yes tt; south = le_z_yes tt; north = le_z_yes tt }, tt)),
      ),
    ))

tall_in : (b : ℕ) → b < 4 → All (LiesIn (region_of (pos 100) (pos 100) 100 100) (pos 1) tall_place) (scene.spots 0 b)
tall_in b h = subst (All (LiesIn (region_of (pos 100) (pos 100) 100 100) (pos 1) tall_place)) (sym (tall_spots b h))
    (all_of (LiesIn (region_of (pos 100) (pos 100) 100 100) (pos 1) tall_place) cube (
      record { west = le_z_yes tt; east = le_z_yes tt; south = le_z_yes tt; north = le_z_yes tt },
      (
        record { west = le_z_yes tt; east = le_z_yes tt; south = le_z_yes tt; north = le_z_yes tt },
        (record { west = le_z_yes tt; east = le_z_yes tt; south = le_z_yes tt; north = le_z_yes tt }, (record { west = le_z_yes tt; east = le_z_yes tt; south = le_z_yes tt; north = le_z_yes tt }, tt)),
      ),
    ))

clear : Overlap cube cube nozzle (at (pos 1) (pos 1)) (at (pos 26) (pos 1)) → ⊥
clear o =
    let west = cube_west (minus o.point (at (pos 1) (pos 1))) o.earlier in
    let east = cube_east o.of_later o.later in
    let least = nozzle_east o.of_part o.moving in
    let d = o.is_point.positive in
    let l = o.later.point.positive in
    let f = o.moving.point.positive in
    no_sum o.point.x o.point.d o.of_later.x o.of_later.d o.of_part.x o.of_part.d (pos 26) (pos 1) (pos 22) (negsuc 0) (negsuc 1) (omega (arith, ints, d)) (omega (arith, ints, l)) (omega (arith, ints, f)) (lt_z_yes tt)
    (lt_from west (simp expand (omega (arith, ints)))) east least (le_z_yes tt) o.sum.x

clear_of_tip : Overlap cube cube tip.corners (at (pos 1) (pos 1)) (at (pos 26) (pos 1)) → ⊥
clear_of_tip o =
    let west = cube_west (minus o.point (at (pos 1) (pos 1))) o.earlier in
    let east = cube_east o.of_later o.later in
    let least = at_spot (spot (pos 0) (pos 0)) o.of_part o.moving in
    let d = o.is_point.positive in
    let l = o.later.point.positive in
    let f = o.moving.point.positive in
    no_sum o.point.x o.point.d o.of_later.x o.of_later.d o.of_part.x o.of_part.d (pos 26) (pos 1) (pos 22) (negsuc 0) (pos 0) (omega (arith, ints, d)) (omega (arith, ints, l)) (omega (arith, ints, f)) (lt_z_yes tt)
    (lt_from west (simp expand (omega (arith, ints)))) east (le_of_same (sym least)) (le_z_yes tt) o.sum.x

pub apart : Collides scene 1 (at (pos 1) (pos 1)) 0 (at (pos 26) (pos 1)) → ⊥
apart k = by_part k.part_of_scene.0 k.part_of_scene.1 k.part_of_scene.2
  where
    met : Overlap cube cube k.part.corners (at (pos 1) (pos 1)) (at (pos 26) (pos 1))
    met = subst (λ A. Overlap A cube k.part.corners (at (pos 1) (pos 1)) (at (pos 26) (pos 1))) (low_spots k.c k.band_of_earlier)
        (subst (λ B. Overlap (scene.spots 1 k.c) B k.part.corners (at (pos 1) (pos 1)) (at (pos 26) (pos 1))) (tall_spots k.b k.band_of_later) k.overlap)

    by_part : (n : ℕ) → n < 3 → slice_index_or scene.parts n k.part ≡ k.part → ⊥
    by_part zero l e = clear_of_tip (subst (λ (p : Part). Overlap cube cube p.corners (at (pos 1) (pos 1)) (at (pos 26) (pos 1))) (sym e) met)
    by_part (suc zero) l e = clear (subst (λ (p : Part). Overlap cube cube p.corners (at (pos 1) (pos 1)) (at (pos 26) (pos 1))) (sym e) met)
    by_part (suc (suc zero)) l e =
        let low : k.b + 2 ≤ k.c = subst (λ (p : Part). k.b + p.lo ≤ k.c) (sym e) k.meets.from_low in
        let c = k.band_of_earlier in
        absurd (omega (arith, low, c))
    by_part (suc (suc (suc n))) l e = absurd (omega (arith, l))

once : (o : ℕ) → o < 2 → count_by (λ (p : Place). nat_eq p.object o) (low_place ∷ tall_place ∷ []) ≡ 1
once zero h = refl
once (suc zero) h = refl
once (suc (suc o)) h = absurd (omega (arith, h))

pub valid_low_first : Valid scene 100 low_then_tall
valid_low_first = record {
  from_one = lit≤ tt;
  to_grid = lit≤ tt;
  scale = le_z_yes tt;
  known = all_of (λ (p : Place). p.object < 2) (low_place ∷ tall_place ∷ []) (lit< tt, (lit< tt, tt));
  once = once;
  inside = all_of (λ (p : Place). (b : ℕ) → b < scene.bands p.object → All (LiesIn (region_of (pos 100) (pos 100) 100 100) (pos 1) p) (scene.spots p.object b)) (low_place ∷ tall_place ∷ []) (low_in, (tall_in, tt));
  apart = AllPairs-cons (λ (p r : Place). Collides scene p.object (place_point (pos 1) p) r.object (place_point (pos 1) r) → ⊥) low_place (tall_place ∷ [])
      (all_of (λ (r : Place). Collides scene 1 (place_point (pos 1) low_place) r.object (place_point (pos 1) r) → ⊥) (tall_place ∷ []) (apart, tt))
      (λ i j d l m. absurd (omega (arith, l, m)));
}

-- the low one, printed later, has the gantry run into the upper half of the tall one
pub run_into : Collides scene 0 (at (pos 26) (pos 1)) 1 (at (pos 1) (pos 1))
run_into = record {
  b = 0;
  c = 2;
  part = gantry_part;
  band_of_later = lit< tt;
  band_of_earlier = lit< tt;
  part_of_scene = (2, lit< tt, refl);
  meets = record { from_low = lit≤ tt; to_high = tt };
  overlap = record {
    point = at (pos 26) (pos 11);
    is_point = record { positive = le_z_yes tt };
    is_place = record { positive = le_z_yes tt };
    of_later = at (pos 20) (pos 10);
    of_part = at (pos 5) (pos 0);
    earlier = record { point = record { positive = le_z_yes tt }; w = pos 21 ∷ pos 1 ∷ pos 1 ∷ pos 21 ∷ []; weights = (le_z_yes tt, (le_z_yes tt, (le_z_yes tt, (le_z_yes tt, tt)))); some = le_z_yes tt; x = refl; y = refl };
    later = record { point = record { positive = le_z_yes tt }; w = pos 1 ∷ pos 21 ∷ pos 21 ∷ pos 1 ∷ []; weights = (le_z_yes tt, (le_z_yes tt, (le_z_yes tt, (le_z_yes tt, tt)))); some = le_z_yes tt; x = refl; y = refl };
    moving = record { point = record { positive = le_z_yes tt }; w = pos 48 ∷ pos 53 ∷ pos 53 ∷ pos 48 ∷ []; weights = (le_z_yes tt, (le_z_yes tt, (le_z_yes tt, (le_z_yes tt, tt)))); some = le_z_yes tt; x = refl; y = refl };
    sum = record { x = refl; y = refl };
  };
}

pub invalid_tall_first : Valid scene 100 tall_then_low → ⊥
invalid_tall_first v = v.apart 0 1 tall_place (lit< tt) (lit< tt) run_into
