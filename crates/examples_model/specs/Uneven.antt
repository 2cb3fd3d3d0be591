-- A job in which nothing is symmetric: no two numbers of the plate, of the objects or of the part may be taken for each other.
--
--   box west south east north   the corners of a rectangle
--   shoe                        a part around the tip, farther to its east and south, at every band
--   uneven_printer              the tip and the shoe, over a plate of 100 by 60 grains of 0.5 mm, with a margin of 3 and a grid of 100
--   brick                       an object of two bands, from (-3, -1) to (7, 4)
--   house                       an object of four bands: a rectangle from (-1, -2) to (15, 9), and a roof above it, up to y = 10
--   uneven                      the job of the brick and then the house
--   uneven_files mesh           the scene of the files of one mesh for this printer, with no part listed
--   roof_by_the_shoe            the contact of the house's roof, earlier, and the brick by the shoe; walls_by_the_shoe that of its walls
--   slope, slope_then_west      the direction (9, 5); the path on which the house comes first, and the brick stands beyond that side of the
--                               roof and to the west of the walls
--   uneven_rows                 the system of this path at extent 46
use Rattle.std.proofs.Common.{List, [], ◌∷◌, ℤ, pos, negsuc, refl, ◌<◌, None, lit<, lit≤, codes, arith}
use Rattle.std.proofs.lemmas.List.Kept.{AllPairs-cons}
use lib.Signed.{le_z_yes}
use Rattle.seq_model.specs.Bounds.{IsPrinter}
use Rattle.seq_model.specs.Corners.{AreCorners}
use Rattle.seq_model.specs.Parts.{tip, IsSoundPart, AreParts}
use Rattle.seq_model.specs.Scenes.{Scene, scene_of_files, description_of}
use Rattle.seq_model.specs.Soundness.{IsSoundZone, IsSoundObject}
use Rattle.seq_model.specs.declared.row.Row.{Row}
use Rattle.seq_model.specs.declared.job.Job.{Job}
use Rattle.seq_model.specs.declared.job.Object.{Object}
use Rattle.seq_model.specs.declared.job.Zone.{Zone}
use Rattle.seq_model.specs.declared.mesh.Facet.{Facet}
use Rattle.seq_model.specs.declared.printer.Part.{Part}
use Rattle.seq_model.specs.declared.printer.Printer.{Printer}
use Rattle.seq_model.specs.declared.printer.Spot.{Spot}
use Rattle.seq_model.specs.declared.tree.Choice.{Choice}
use Rattle.seq_model.specs.declared.tree.Choice.TheVariants as Choices
use Rattle.seq_model.specs.declared.tree.Contact.{Contact}
use Rattle.seq_model.specs.declared.tree.Dir.{Dir}
use Rattle.examples_model.specs.Cubes.{spot, dir, west}
use Rattle.examples_model.specs.Deciding.{all_of, are_corners_is, are_near_is}
use Rattle.examples_model.specs.Jobs.{sound_tip, sound_part}
use Rattle.examples_model.specs.Rows.{row}

abbrev pub box : ℤ → ℤ → ℤ → ℤ → List Spot
box w s e n = spot w s ∷ spot e s ∷ spot e n ∷ spot w n ∷ []

-- ---- the printer
abbrev pub shoe_corners : List Spot
shoe_corners = box (negsuc 0) (negsuc 2) (pos 5) (pos 2)

shoe_is : AreCorners shoe_corners
shoe_is = are_corners_is shoe_corners refl

abbrev pub shoe : Part
shoe = record { name = codes "shoe"; corners = shoe_corners; lo = 0; hi = None }

sound_shoe : IsSoundPart shoe
sound_shoe = sound_part shoe (record { some = lit≤ tt; few = lit≤ tt; plain = refl }) (lit≤ tt) (lit≤ tt) refl shoe_is (lit≤ tt) refl

pub uneven_parts : AreParts (tip ∷ shoe ∷ [])
uneven_parts = record { tip_first = refl; few = lit≤ tt; sound = all_of IsSoundPart (tip ∷ shoe ∷ []) (sound_tip, (sound_shoe, tt)) }

pub uneven_ranges : IsPrinter (pos 500) (pos 100) (pos 60) (pos 10000) (pos 3) 100
uneven_ranges = record { grain_low = le_z_yes tt; grain_high = le_z_yes tt; width_low = le_z_yes tt; width_high = le_z_yes tt; depth_low = le_z_yes tt; depth_high = le_z_yes tt; step_low = le_z_yes tt; step_high = le_z_yes tt; margin_low = le_z_yes tt; margin_high = le_z_yes tt; grid_low = lit≤ tt; grid_high = lit≤ tt }

abbrev pub uneven_printer : Printer
uneven_printer = record { grain = pos 500; width = pos 100; depth = pos 60; step = pos 10000; margin = pos 3; grid = 100; parts = tip ∷ shoe ∷ []; ranged = uneven_ranges; parts_are = uneven_parts }

-- ---- the objects
abbrev pub brick_zone : Zone
brick_zone = record { corners = box (negsuc 2) (negsuc 0) (pos 7) (pos 4); first = 0; last = 1 }

brick_corners : AreCorners (box (negsuc 2) (negsuc 0) (pos 7) (pos 4))
brick_corners = are_corners_is (box (negsuc 2) (negsuc 0) (pos 7) (pos 4)) refl

abbrev pub brick : Object
brick = record { name = []; height = pos 20000; bands = 2; low = spot (negsuc 2) (negsuc 0); high = spot (pos 7) (pos 4); zones = brick_zone ∷ [] }

pub sound_brick : IsSoundObject brick
sound_brick = record {
  few_bands = lit≤ tt;
  zones = record {
    some = lit≤ tt;
    each = all_of IsSoundZone (brick_zone ∷ []) (record { corners = brick_corners; area = lit≤ tt; near = are_near_is 1_001_000 brick_zone.corners refl; rises = lit≤ tt }, tt);
    rise = λ i j d l m. absurd (omega (arith, l, m));
    end = all_of (λ (z : Zone). z.last < 2) (brick_zone ∷ []) (lit< tt, tt);
  };
  extremes = record { west = refl; east = refl; south = refl; north = refl };
}

abbrev pub walls : Zone
walls = record { corners = box (negsuc 0) (negsuc 1) (pos 15) (pos 9); first = 0; last = 1 }

walls_corners : AreCorners (box (negsuc 0) (negsuc 1) (pos 15) (pos 9))
walls_corners = are_corners_is (box (negsuc 0) (negsuc 1) (pos 15) (pos 9)) refl

abbrev pub roof : Zone
roof = record { corners = spot (pos 2) (pos 1) ∷ spot (pos 12) (pos 1) ∷ spot (pos 7) (pos 10) ∷ []; first = 2; last = 3 }

roof_corners : AreCorners (spot (pos 2) (pos 1) ∷ spot (pos 12) (pos 1) ∷ spot (pos 7) (pos 10) ∷ [])
roof_corners = are_corners_is (spot (pos 2) (pos 1) ∷ spot (pos 12) (pos 1) ∷ spot (pos 7) (pos 10) ∷ []) refl

abbrev pub house : Object
house = record { name = []; height = pos 40000; bands = 4; low = spot (negsuc 0) (negsuc 1); high = spot (pos 15) (pos 10); zones = walls ∷ roof ∷ [] }

pub sound_house : IsSoundObject house
sound_house = record {
  few_bands = lit≤ tt;
  zones = record {
    some = lit≤ tt;
    each = all_of IsSoundZone (walls ∷ roof ∷ []) (record { corners = walls_corners; area = lit≤ tt; near = are_near_is 1_001_000 walls.corners refl; rises = lit≤ tt }, (record { corners = roof_corners; area = lit≤ tt; near = are_near_is 1_001_000 roof.corners refl; rises = lit≤ tt }, tt));
    rise = AllPairs-cons (λ (y z : Zone). y.last < z.first) walls (roof ∷ []) (all_of (λ (z : Zone). walls.last < z.first) (roof ∷ []) (lit< tt, tt)) (λ i j d l m. absurd (omega (arith, l, m)));
    end = all_of (λ (z : Zone). z.last < 4) (walls ∷ roof ∷ []) (lit< tt, (lit< tt, tt));
  };
  extremes = record { west = refl; east = refl; south = refl; north = refl };
}

abbrev pub uneven : Job
uneven = record { printer = uneven_printer; objects = brick ∷ house ∷ []; sound = record { some = lit≤ tt; few = lit≤ tt; each = all_of IsSoundObject (brick ∷ house ∷ []) (sound_brick, (sound_house, tt)) } }

abbrev pub uneven_files : List Facet → Scene
uneven_files mesh = scene_of_files (description_of uneven_printer (tip ∷ [])) (mesh ∷ [])

-- ---- a path of it
abbrev pub roof_by_the_shoe : Contact
roof_by_the_shoe = record { i = 1; zi = 1; part = 1; zj = 0; j = 0 }

abbrev pub walls_by_the_shoe : Contact
walls_by_the_shoe = record { i = 1; zi = 0; part = 1; zj = 0; j = 0 }

abbrev pub slope : Dir
slope = dir (pos 9) (pos 5)

abbrev pub slope_then_west : List Choice
slope_then_west = Choices.Before 1 0 ∷ Choices.Side roof_by_the_shoe slope ∷ Choices.Side walls_by_the_shoe west ∷ []

abbrev pub uneven_rows : List Row
uneven_rows =
    row (pos 36) (negsuc 0 ∷ pos 0 ∷ pos 0 ∷ pos 0 ∷ [])
    ∷ row (pos 22) (pos 0 ∷ negsuc 0 ∷ pos 0 ∷ pos 0 ∷ [])
    ∷ row (pos 30) (pos 0 ∷ pos 0 ∷ negsuc 0 ∷ pos 0 ∷ [])
    ∷ row (pos 15) (pos 0 ∷ pos 0 ∷ pos 0 ∷ negsuc 0 ∷ [])
    ∷ row (negsuc 155) (pos 9 ∷ pos 5 ∷ negsuc 8 ∷ negsuc 4 ∷ [])
    ∷ row (negsuc 14) (negsuc 0 ∷ pos 0 ∷ pos 1 ∷ pos 0 ∷ [])
    ∷ []
