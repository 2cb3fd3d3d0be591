-- The text that `slices` prints on `out`.
--
--   height_line h, bands_line n   the height of an object in mm, and the number of its bands
--   corner_line s, corners_text S one corner to a line
--   zone_line z                   the first and the last band of a zone, and the number of its corners
--   slices_text o                 all of it: the height, the number of bands, and the zones with their corners
use Rattle.std.specs.Prelude.{ℕ, ℤ, pos, List, [], ◌∷◌, ◌++◌, length, codes}
use Rattle.decimal_lengths.specs.Spelling.{millimetres}
use Rattle.plan_text.specs.PlanText.{number_line}
use Rattle.seq_model.specs.declared.job.Object.{Object}
use Rattle.seq_model.specs.declared.job.Zone.{Zone}
use Rattle.seq_model.specs.declared.printer.Spot.{Spot}
use Rattle.seq_num.specs.Spelling.{spelling}

unfoldable pub height_line : ℤ → List ℕ
height_line height = codes "height " ++ (millimetres height ++ codes "\n")

unfoldable pub bands_line : ℕ → List ℕ
bands_line bands = number_line (codes "bands ") (pos bands)

abbrev pub corner_line : Spot → List ℕ
corner_line s = codes "corner " ++ (spelling s.x ++ (codes " " ++ (spelling s.y ++ codes "\n")))

abbrev pub corners_text : List Spot → List ℕ
corners_text [] = []
corners_text (s ∷ corners) = corner_line s ++ corners_text corners

-- first and last band, and the number of corners
abbrev pub zone_line : Zone → List ℕ
zone_line z = codes "zone " ++ (spelling (pos z.first) ++ (codes " " ++ (spelling (pos z.last) ++ (codes " " ++ (spelling (pos (length z.corners)) ++ codes "\n")))))

abbrev pub zones_text : List Zone → List ℕ
zones_text [] = []
zones_text (z ∷ zones) = (zone_line z ++ corners_text z.corners) ++ zones_text zones

abbrev pub slices_text : Object → List ℕ
slices_text o = codes "slices 1\n" ++ (height_line o.height ++ (bands_line o.bands ++ zones_text o.zones))
