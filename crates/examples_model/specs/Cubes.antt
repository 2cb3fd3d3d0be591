-- The worked examples: cubes and wedges of 20 mm in grains of 1 mm with a margin of one grain, on a plate of 100 by 100 with a
-- grid of 100 extents, under a printer whose tip has a nozzle around it and a gantry above.
--
--   spot x y, dir x y     the spot and the direction of these numbers
--   east, northeast, north, west, southwest, south     directions, (1, 0) first
--   at x y                the point of these whole numbers, half x y the point of their halves
--   cube, wedge           the outlines of a cube and of a wedge, each the same for all bands
--   nozzle, gantry        the corners of the two parts
--   object_of outline     an object of two bands with this outline, which reaches from -1 to 21
--   facet                 a triangle from the origin up to 15 mm; slanted is one off the origin, from 5 mm up to 25 mm
--   first_contact         object 0 before object 1 by the nozzle; second_contact is the other way round
use Rattle.std.specs.Prelude.{List, [], ◌∷◌, ℤ, pos, negsuc}
use Rattle.seq_model.specs.Points.{Point}
use Rattle.seq_model.specs.declared.job.Object.{Object}
use Rattle.seq_model.specs.declared.mesh.Facet.{Facet}
use Rattle.seq_model.specs.declared.printer.Spot.{Spot}
use Rattle.seq_model.specs.declared.tree.Contact.{Contact}
use Rattle.seq_model.specs.declared.tree.Dir.{Dir}

abbrev pub spot : ℤ → ℤ → Spot
spot x y = record { x = x; y = y }

abbrev pub dir : ℤ → ℤ → Dir
dir x y = record { x = x; y = y }

abbrev pub east : Dir
east = dir (pos 1) (pos 0)

abbrev pub northeast : Dir
northeast = dir (pos 1) (pos 1)

abbrev pub north : Dir
north = dir (pos 0) (pos 1)

abbrev pub west : Dir
west = dir (negsuc 0) (pos 0)

abbrev pub southwest : Dir
southwest = dir (negsuc 0) (negsuc 0)

abbrev pub south : Dir
south = dir (pos 0) (negsuc 0)

abbrev pub at : ℤ → ℤ → Point
at x y = record { x = x; y = y; d = pos 1 }

abbrev pub half : ℤ → ℤ → Point
half x y = record { x = x; y = y; d = pos 2 }

-- a square from low to high
abbrev pub square : ℤ → ℤ → List Spot
square low high = spot low low ∷ spot high low ∷ spot high high ∷ spot low high ∷ []

abbrev pub cube : List Spot
cube = square (negsuc 0) (pos 21)

abbrev pub wedge : List Spot
wedge = spot (negsuc 0) (negsuc 0) ∷ spot (pos 21) (negsuc 0) ∷ spot (pos 21) (pos 1) ∷ spot (pos 1) (pos 21) ∷ spot (negsuc 0) (pos 21) ∷ []

abbrev pub nozzle : List Spot
nozzle = square (negsuc 1) (pos 2)

abbrev pub gantry : List Spot
gantry = spot (negsuc 100) (negsuc 9) ∷ spot (pos 101) (negsuc 9) ∷ spot (pos 101) (pos 10) ∷ spot (negsuc 100) (pos 10) ∷ []

-- an object of two bands with this outline, which reaches from -1 to 21
abbrev pub object_of : List Spot → Object
object_of outline = record { name = []; height = pos 20000; bands = 2; low = spot (negsuc 0) (negsuc 0); high = spot (pos 21) (pos 21); zones = record { corners = outline; first = 0; last = 1 } ∷ [] }

abbrev pub first_contact : Contact
first_contact = record { i = 0; zi = 0; part = 1; zj = 0; j = 1 }

abbrev pub second_contact : Contact
second_contact = record { i = 1; zi = 0; part = 1; zj = 0; j = 0 }

-- from the origin up to two corners at 15 mm
abbrev pub facet : Facet
facet = record {
  a = record { x = pos 0; y = pos 0; z = pos 0 };
  b = record { x = pos 3_000; y = pos 0; z = pos 15_000 };
  c = record { x = pos 0; y = pos 3_000; z = pos 15_000 };
}

abbrev pub slanted : Facet
slanted = record {
  a = record { x = pos 1_000; y = pos 2_000; z = pos 5_000 };
  b = record { x = pos 4_000; y = pos 2_000; z = pos 25_000 };
  c = record { x = pos 1_000; y = pos 8_000; z = pos 10_000 };
}
