-- One cube in a corner, plans of two cubes that aren't whole, and an extent that isn't the least.
use Rattle.std.proofs.Common.{◌≡◌, ℕ, zero, suc, All, ◌<◌, [], ◌∷◌, refl, arith, pos, lit<, lit≤}
use Rattle.std.proofs.lemmas.Int.{ints}
use lib.Signed.{le_z_yes}
use Rattle.std.specs.Prelude.{count_by, nat_eq}
use Rattle.seq_model.specs.Jobs.{scene_of_job}
use Rattle.seq_model.specs.Plates.{region_of}
use Rattle.seq_model.specs.Scenes.{LiesIn, Valid, Least}
use Rattle.seq_model.specs.declared.plan.Place.{Place}
use Rattle.examples_model.specs.Cubes.{cube, spot}
use Rattle.examples_model.specs.Deciding.{all_of}
use Rattle.examples_model.specs.Jobs.{two_cubes, cube_on_a_narrow_plate}
use Rattle.examples_model.specs.Plans.{beside_each_other, halves, in_the_far_corner, without_the_second, with_a_third, roof_off_the_plate}
use Rattle.examples_model.specs.Uneven.{uneven}
use Rattle.examples_model.proofs.PlanLaws.{valid}

cube_lies : All (LiesIn (region_of (pos 100) (pos 50) 100 100) (pos 2) (halves 0 158 58)) cube
cube_lies = all_of (LiesIn (region_of (pos 100) (pos 50) 100 100) (pos 2) (halves 0 158 58)) cube (
  record { west = le_z_yes tt; east = le_z_yes tt; south = le_z_yes tt; north = le_z_yes tt },
  (
    record { west = le_z_yes tt; east = le_z_yes tt; south = le_z_yes tt; north = le_z_yes tt },
    (record { west = le_z_yes tt; east = le_z_yes tt; south = le_z_yes tt; north = le_z_yes tt }, (record { west = le_z_yes tt; east = le_z_yes tt; south = le_z_yes tt; north = le_z_yes tt }, tt)),
  ),
)

corners_in : (b : ℕ) → b < 2 → All (LiesIn (region_of (pos 100) (pos 50) 100 100) (pos 2) (halves 0 158 58)) ((scene_of_job cube_on_a_narrow_plate).spots 0 b)
corners_in zero h = cube_lies
corners_in (suc zero) h = cube_lies
corners_in (suc (suc b)) h = absurd (omega (arith, h))

once_each : (o : ℕ) → o < 1 → count_by (λ (p : Place). nat_eq p.object o) (halves 0 158 58 ∷ []) ≡ 1
once_each zero h = refl
once_each (suc o) h = absurd (omega (arith, h))

pub in_the_far_corner_is_valid : Valid (scene_of_job cube_on_a_narrow_plate) 100 in_the_far_corner
in_the_far_corner_is_valid = record {
  from_one = lit≤ tt;
  to_grid = lit≤ tt;
  scale = le_z_yes tt;
  known = all_of (λ (p : Place). p.object < 1) (halves 0 158 58 ∷ []) (lit< tt, tt);
  once = once_each;
  inside = all_of (λ (p : Place). (b : ℕ) → b < (scene_of_job cube_on_a_narrow_plate).bands p.object → All (LiesIn (region_of (pos 100) (pos 50) 100 100) (pos 2) p) ((scene_of_job cube_on_a_narrow_plate).spots p.object b)) (halves 0 158 58 ∷ []) (corners_in, tt);
  apart = λ i j d l m. absurd (omega (arith, l, m));
}

pub missing : Valid (scene_of_job two_cubes) 46 without_the_second → ⊥
missing v = (let h : 0 ≡ 1 = v.once 1 (lit< tt) in absurd (omega (arith, h)))

pub stranger : Valid (scene_of_job two_cubes) 46 with_a_third → ⊥
stranger v = (let h : 2 < 2 = v.known 2 (record { object = 0; x = pos 0; y = pos 0 }) (lit< tt) in absurd (omega (arith, h)))

pub least : Least (scene_of_job two_cubes) 47 → ⊥
least l = l.none 46 (lit< tt) beside_each_other valid

pub roof_off : Valid (scene_of_job uneven) 100 roof_off_the_plate → ⊥
roof_off v = (let top = (v.inside 1 (halves 0 0 0) (lit< tt) 2 (lit< tt) 2 (spot (pos 0) (pos 0)) (lit< tt)).north in absurd (omega (arith, ints, top)))
