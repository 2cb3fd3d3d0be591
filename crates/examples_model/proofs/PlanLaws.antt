-- Two cubes beside each other are a valid plan at extent 46.
use Rattle.std.proofs.Common.{◌≡◌, ℕ, zero, suc, ◌+◌, ◌<◌, ◌≤◌, [], ◌∷◌, refl, sym, subst, arith, pos, negsuc, All, lit<, lit≤, slice_index_or}
use Rattle.std.proofs.lemmas.Int.{ints}
use Rattle.std.proofs.lemmas.List.Kept.{AllPairs-cons}
use Rattle.std.specs.Prelude.{count_by, nat_eq}
use lib.Signed.{le_z_yes, lt_z_yes}
use Rattle.integer_laws.specs.Laws.Order.{le_of_same, lt_from}
use Rattle.integer_laws.specs.Laws.Ring.{expand}
use Rattle.examples_model.specs.Cubes.{spot, at, cube, nozzle}
use Rattle.examples_model.specs.Deciding.{all_of}
use Rattle.examples_model.specs.Jobs.{two_cubes}
use Rattle.examples_model.specs.Plans.{beside_each_other}
use Rattle.examples_model.proofs.Apart.{at_spot, no_sum}
use Rattle.examples_model.proofs.CubeLaws.{spots_of, cube_west, cube_east, nozzle_east}
use Rattle.seq_model.specs.Jobs.{scene_of_job}
use Rattle.seq_model.specs.Parts.{tip}
use Rattle.seq_model.specs.Plates.{region_of}
use Rattle.seq_model.specs.Points.{minus, place_point}
use Rattle.seq_model.specs.Scenes.{Scene, LiesIn, Overlap, Collides, Valid}
use Rattle.seq_model.specs.declared.plan.Place.{Place}
use Rattle.seq_model.specs.declared.printer.Part.{Part}

abbrev cubes : Scene
cubes = scene_of_job two_cubes

abbrev first : Place
first = record { object = 0; x = pos 28; y = pos 28 }

abbrev second : Place
second = record { object = 1; x = pos 52; y = pos 28 }

-- the four corners of a cube, moved by the place, lie in the region
first_in : (b : ℕ) → b < 2 → All (LiesIn (region_of (pos 100) (pos 100) 100 46) (pos 1) first) (cubes.spots 0 b)
first_in b h = subst (All (LiesIn (region_of (pos 100) (pos 100) 100 46) (pos 1) first)) (sym (spots_of 0 b (lit< tt) h))
    (all_of (LiesIn (region_of (pos 100) (pos 100) 100 46) (pos 1) first) cube (
      record { west = le_z_yes tt; east = le_z_yes tt; south = le_z_yes tt; north = le_z_yes tt },
      (
        record { west = le_z_yes tt; east = le_z_yes tt; south = le_z_yes tt; north = le_z_yes tt },
        (record { west = le_z_yes tt; east = le_z_yes tt; south = le_z_yes tt; north = le_z_yes tt }, (record { west = le_z_yes tt; east = le_z_yes tt; south = le_z_yes tt; north = le_z_yes tt }, tt)),
      ),
    ))

second_in : (b : ℕ) → b < 2 → All (LiesIn (region_of (pos 100) (pos 100) 100 46) (pos 1) second) (cubes.spots 1 b)
second_in b h = subst (All (LiesIn (region_of (pos 100) (pos 100) 100 46) (pos 1) second)) (sym (spots_of 1 b (lit< tt) h))
    (all_of (LiesIn (region_of (pos 100) (pos 100) 100 46) (pos 1) second) cube (
      record { west = le_z_yes tt; east = le_z_yes tt; south = le_z_yes tt; north = le_z_yes tt },
      (
        record { west = le_z_yes tt; east = le_z_yes tt; south = le_z_yes tt; north = le_z_yes tt },
        (record { west = le_z_yes tt; east = le_z_yes tt; south = le_z_yes tt; north = le_z_yes tt }, (record { west = le_z_yes tt; east = le_z_yes tt; south = le_z_yes tt; north = le_z_yes tt }, tt)),
      ),
    ))

-- they are clear of each other by the nozzle and by the tip
clear : Overlap cube cube nozzle (at (pos 28) (pos 28)) (at (pos 52) (pos 28)) → ⊥
clear o =
    let west = cube_west (minus o.point (at (pos 28) (pos 28))) o.earlier in
    let east = cube_east o.of_later o.later in
    let least = nozzle_east o.of_part o.moving in
    let d = o.is_point.positive in
    let l = o.later.point.positive in
    let f = o.moving.point.positive in
    no_sum o.point.x o.point.d o.of_later.x o.of_later.d o.of_part.x o.of_part.d (pos 52) (pos 1) (pos 49) (negsuc 0) (negsuc 1) (omega (arith, ints, d)) (omega (arith, ints, l)) (omega (arith, ints, f)) (lt_z_yes tt)
    (lt_from west (simp expand (omega (arith, ints)))) east least (le_z_yes tt) o.sum.x

clear_of_tip : Overlap cube cube tip.corners (at (pos 28) (pos 28)) (at (pos 52) (pos 28)) → ⊥
clear_of_tip o =
    let west = cube_west (minus o.point (at (pos 28) (pos 28))) o.earlier in
    let east = cube_east o.of_later o.later in
    let least = at_spot (spot (pos 0) (pos 0)) o.of_part o.moving in
    let d = o.is_point.positive in
    let l = o.later.point.positive in
    let f = o.moving.point.positive in
    no_sum o.point.x o.point.d o.of_later.x o.of_later.d o.of_part.x o.of_part.d (pos 52) (pos 1) (pos 49) (negsuc 0) (pos 0) (omega (arith, ints, d)) (omega (arith, ints, l)) (omega (arith, ints, f)) (lt_z_yes tt)
    (lt_from west (simp expand (omega (arith, ints)))) east (le_of_same (sym least)) (le_z_yes tt) o.sum.x

apart : Collides cubes 0 (at (pos 28) (pos 28)) 1 (at (pos 52) (pos 28)) → ⊥
apart k = by_part k.part_of_scene.0 k.part_of_scene.1 k.part_of_scene.2
  where
    met : Overlap cube cube k.part.corners (at (pos 28) (pos 28)) (at (pos 52) (pos 28))
    met = subst (λ A. Overlap A cube k.part.corners (at (pos 28) (pos 28)) (at (pos 52) (pos 28))) (spots_of 0 k.c (lit< tt) k.band_of_earlier)
        (subst (λ B. Overlap (cubes.spots 0 k.c) B k.part.corners (at (pos 28) (pos 28)) (at (pos 52) (pos 28))) (spots_of 1 k.b (lit< tt) k.band_of_later) k.overlap)

    by_part : (n : ℕ) → n < 3 → slice_index_or cubes.parts n k.part ≡ k.part → ⊥
    by_part zero l e = clear_of_tip (subst (λ (p : Part). Overlap cube cube p.corners (at (pos 28) (pos 28)) (at (pos 52) (pos 28))) (sym e) met)
    by_part (suc zero) l e = clear (subst (λ (p : Part). Overlap cube cube p.corners (at (pos 28) (pos 28)) (at (pos 52) (pos 28))) (sym e) met)
    by_part (suc (suc zero)) l e =
        let low : k.b + 2 ≤ k.c = subst (λ (p : Part). k.b + p.lo ≤ k.c) (sym e) k.meets.from_low in
        let c = k.band_of_earlier in
        absurd (omega (arith, low, c))
    by_part (suc (suc (suc n))) l e = absurd (omega (arith, l))

once : (o : ℕ) → o < 2 → count_by (λ (p : Place). nat_eq p.object o) (first ∷ second ∷ []) ≡ 1
once zero h = refl
once (suc zero) h = refl
once (suc (suc o)) h = absurd (omega (arith, h))

pub valid : Valid cubes 46 beside_each_other
valid = record {
  from_one = lit≤ tt;
  to_grid = lit≤ tt;
  scale = le_z_yes tt;
  known = all_of (λ (p : Place). p.object < 2) (first ∷ second ∷ []) (lit< tt, (lit< tt, tt));
  once = once;
  inside = all_of (λ (p : Place). (b : ℕ) → b < cubes.bands p.object → All (LiesIn (region_of (pos 100) (pos 100) 100 46) (pos 1) p) (cubes.spots p.object b)) (first ∷ second ∷ []) (first_in, (second_in, tt));
  apart = AllPairs-cons (λ (p r : Place). Collides cubes p.object (place_point (pos 1) p) r.object (place_point (pos 1) r) → ⊥) first (second ∷ [])
      (all_of (λ (r : Place). Collides cubes 0 (place_point (pos 1) first) r.object (place_point (pos 1) r) → ⊥) (second ∷ []) (apart, tt))
      (λ i j d l m. absurd (omega (arith, l, m)));
}
