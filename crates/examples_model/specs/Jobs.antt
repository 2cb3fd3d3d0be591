-- The jobs of the worked examples, with the proofs that their printer and their objects are sound.
--
--   nozzle_part, gantry_part   the listed parts: the nozzle at every band, and the gantry from two bands above
--   printer                    the tip with both, over a plate of 100 by 100 grains of 1 mm
--   two_cubes, two_wedges, three_cubes   jobs of cubes and wedges of two bands
--   tall_and_low               a cube of four bands and one of two
--   cube_on_a_narrow_plate     one cube, on a plate of 100 by 50
use Rattle.std.proofs.Common.{◌≡◌, ◌∙◌, sym, subst, ◌<◌, ◌≤◌, List, [], ◌∷◌, length, refl, pos, negsuc, true, None, lit<, lit≤, codes, arith}
use Rattle.std.proofs.lemmas.Option.{none-some, same_Some}
use lib.Signed.{le_z_yes}
use Rattle.seq_model.specs.Bounds.{IsPrinter}
use Rattle.seq_model.specs.Corners.{AreCorners}
use Rattle.seq_model.specs.Parts.{tip, IsPartName, IsSoundPart, AreParts}
use Rattle.seq_model.specs.Soundness.{IsSoundZone, AreExtremes, IsSoundObject, AreSoundObjects}
use Rattle.seq_model.specs.declared.job.Job.{Job}
use Rattle.seq_model.specs.declared.job.Object.{Object}
use Rattle.seq_model.specs.declared.job.Zone.{Zone}
use Rattle.seq_model.specs.declared.printer.Part.{Part}
use Rattle.seq_model.specs.declared.printer.Printer.{Printer}
use Rattle.seq_model.specs.declared.printer.Spot.{Spot}
use Rattle.examples_model.specs.Deciding.{all_of, are_corners_is, are_near, are_near_is}
use Rattle.examples_model.specs.Cubes.{spot, cube, wedge, nozzle, gantry, object_of}

origin_corners : AreCorners (spot (pos 0) (pos 0) ∷ [])
origin_corners = are_corners_is (spot (pos 0) (pos 0) ∷ []) refl

nozzle_corners : AreCorners nozzle
nozzle_corners = are_corners_is nozzle refl

gantry_corners : AreCorners gantry
gantry_corners = are_corners_is gantry refl

cube_corners : AreCorners cube
cube_corners = are_corners_is cube refl

wedge_corners : AreCorners wedge
wedge_corners = are_corners_is wedge refl

-- ---- the parts and the printer
pub sound_tip : IsSoundPart tip
sound_tip = record { name = record { some = lit≤ tt; few = lit≤ tt; plain = refl }; some = lit≤ tt; few = lit≤ tt; near = are_near_is 100_000 tip.corners refl; corners = origin_corners; low = lit≤ tt; high = λ hi e. subst (λ n. (0 ≤ n) × (n ≤ 1_000_000)) (same_Some _ _ e) (lit≤ tt, lit≤ tt) }

pub sound_part : (part : Part) → IsPartName part.name → 1 ≤ length part.corners → length part.corners ≤ 32 → are_near 100_000 part.corners ≡ true → AreCorners part.corners → part.lo ≤ 1_000_000 → part.hi ≡ None → IsSoundPart part
sound_part part name some few near corners low end = record { name = name; some = some; few = few; near = are_near_is 100_000 part.corners near; corners = corners; low = low; high = λ hi e. absurd (none-some hi (sym end ∙ e)) }

abbrev pub nozzle_part : Part
nozzle_part = record { name = codes "nozzle"; corners = nozzle; lo = 0; hi = None }

abbrev pub gantry_part : Part
gantry_part = record { name = codes "gantry"; corners = gantry; lo = 2; hi = None }

sound_nozzle : IsSoundPart nozzle_part
sound_nozzle = sound_part nozzle_part (record { some = lit≤ tt; few = lit≤ tt; plain = refl }) (lit≤ tt) (lit≤ tt) refl nozzle_corners (lit≤ tt) refl

sound_gantry : IsSoundPart gantry_part
sound_gantry = sound_part gantry_part (record { some = lit≤ tt; few = lit≤ tt; plain = refl }) (lit≤ tt) (lit≤ tt) refl gantry_corners (lit≤ tt) refl

pub sound_parts : AreParts (tip ∷ nozzle_part ∷ gantry_part ∷ [])
sound_parts = record { tip_first = refl; few = lit≤ tt; sound = all_of IsSoundPart (tip ∷ nozzle_part ∷ gantry_part ∷ []) (sound_tip, (sound_nozzle, (sound_gantry, tt))) }

pub in_ranges : IsPrinter (pos 1000) (pos 100) (pos 100) (pos 10000) (pos 1) 100
in_ranges = record { grain_low = le_z_yes tt; grain_high = le_z_yes tt; width_low = le_z_yes tt; width_high = le_z_yes tt; depth_low = le_z_yes tt; depth_high = le_z_yes tt; step_low = le_z_yes tt; step_high = le_z_yes tt; margin_low = le_z_yes tt; margin_high = le_z_yes tt; grid_low = lit≤ tt; grid_high = lit≤ tt }

abbrev pub printer : Printer
printer = record { grain = pos 1000; width = pos 100; depth = pos 100; step = pos 10000; margin = pos 1; grid = 100; parts = tip ∷ nozzle_part ∷ gantry_part ∷ []; ranged = in_ranges; parts_are = sound_parts }

-- ---- the objects and the jobs
sound_object : (outline : List Spot) → AreCorners outline → 3 ≤ length outline → are_near 1_001_000 outline ≡ true
    → AreExtremes (spot (negsuc 0) (negsuc 0)) (spot (pos 21) (pos 21)) (record { corners = outline; first = 0; last = 1 } ∷ []) → IsSoundObject (object_of outline)
sound_object outline corners area near extremes = record {
  few_bands = lit≤ tt;
  zones = record {
    some = lit≤ tt;
    each = all_of IsSoundZone (record { corners = outline; first = 0; last = 1 } ∷ []) (record { corners = corners; area = area; near = are_near_is 1_001_000 outline near; rises = lit≤ tt }, tt);
    rise = λ i j d l m. absurd (omega (arith, l, m));
    end = all_of (λ (z : Zone). z.last < 2) (record { corners = outline; first = 0; last = 1 } ∷ []) (lit< tt, tt);
  };
  extremes = extremes;
}

pub sound_cube : IsSoundObject (object_of cube)
sound_cube = sound_object cube cube_corners (lit≤ tt) refl (record { west = refl; east = refl; south = refl; north = refl })

pub sound_wedge : IsSoundObject (object_of wedge)
sound_wedge = sound_object wedge wedge_corners (lit≤ tt) refl (record { west = refl; east = refl; south = refl; north = refl })

pub two_sound : (o : Object) → IsSoundObject o → AreSoundObjects (o ∷ o ∷ [])
two_sound o s = record { some = lit≤ tt; few = lit≤ tt; each = all_of IsSoundObject (o ∷ o ∷ []) (s, (s, tt)) }

abbrev pub two_cubes : Job
two_cubes = record { printer = printer; objects = object_of cube ∷ object_of cube ∷ []; sound = two_sound (object_of cube) sound_cube }

abbrev pub two_wedges : Job
two_wedges = record { printer = printer; objects = object_of wedge ∷ object_of wedge ∷ []; sound = two_sound (object_of wedge) sound_wedge }

abbrev pub three_cubes : Job
three_cubes = record {
  printer = printer;
  objects = object_of cube ∷ object_of cube ∷ object_of cube ∷ [];
  sound = record { some = lit≤ tt; few = lit≤ tt; each = all_of IsSoundObject (object_of cube ∷ object_of cube ∷ object_of cube ∷ []) (sound_cube, (sound_cube, (sound_cube, tt))) };
}

-- a cube of twice the height, in four bands
abbrev pub tall_cube : Object
tall_cube = record { name = []; height = pos 40000; bands = 4; low = spot (negsuc 0) (negsuc 0); high = spot (pos 21) (pos 21); zones = record { corners = cube; first = 0; last = 3 } ∷ [] }

pub sound_tall_cube : IsSoundObject tall_cube
sound_tall_cube = record {
  few_bands = lit≤ tt;
  zones = record {
    some = lit≤ tt;
    each = all_of IsSoundZone (record { corners = cube; first = 0; last = 3 } ∷ []) (record { corners = cube_corners; area = lit≤ tt; near = are_near_is 1_001_000 cube refl; rises = lit≤ tt }, tt);
    rise = λ i j d l m. absurd (omega (arith, l, m));
    end = all_of (λ (z : Zone). z.last < 4) (record { corners = cube; first = 0; last = 3 } ∷ []) (lit< tt, tt);
  };
  extremes = record { west = refl; east = refl; south = refl; north = refl };
}

abbrev pub tall_and_low : Job
tall_and_low = record {
  printer = printer;
  objects = tall_cube ∷ object_of cube ∷ [];
  sound = record { some = lit≤ tt; few = lit≤ tt; each = all_of IsSoundObject (tall_cube ∷ object_of cube ∷ []) (sound_tall_cube, (sound_cube, tt)) };
}

-- ---- a plate of 100 by 50
pub in_narrow_ranges : IsPrinter (pos 1000) (pos 100) (pos 50) (pos 10000) (pos 1) 100
in_narrow_ranges = record { grain_low = le_z_yes tt; grain_high = le_z_yes tt; width_low = le_z_yes tt; width_high = le_z_yes tt; depth_low = le_z_yes tt; depth_high = le_z_yes tt; step_low = le_z_yes tt; step_high = le_z_yes tt; margin_low = le_z_yes tt; margin_high = le_z_yes tt; grid_low = lit≤ tt; grid_high = lit≤ tt }

pub one_sound : AreSoundObjects (object_of cube ∷ [])
one_sound = record { some = lit≤ tt; few = lit≤ tt; each = all_of IsSoundObject (object_of cube ∷ []) (sound_cube, tt) }

abbrev pub cube_on_a_narrow_plate : Job
cube_on_a_narrow_plate = record {
  printer = record { grain = pos 1000; width = pos 100; depth = pos 50; step = pos 10000; margin = pos 1; grid = 100; parts = tip ∷ nozzle_part ∷ gantry_part ∷ []; ranged = in_narrow_ranges; parts_are = sound_parts };
  objects = object_of cube ∷ [];
  sound = one_sound;
}
