-- Plans of the worked examples.
--
--   beside_each_other         two cubes: the first at (28, 28), and the second 24 grains to the east of it
--   low_place, tall_place     the low cube at (1, 1), and the tall one 25 grains to the east of it
--   low_then_tall, tall_then_low     these two places in both orders
--   tall_to_the_east          the point at which the tall cube stands 25 grains to the east of the low one
--   halves o x y              object o at (x / 2, y / 2), in a plan over scale 2
--   in_the_far_corner         one cube at (79, 29), so that it reaches to (100, 50)
--   roof_off_the_plate        the brick at (50, 10) and the house at (50, 101/2)
--   without_the_second, with_a_third     two cubes beside each other, less the second one, and with a third one
use Rattle.std.specs.Prelude.{ℕ, [], ◌∷◌, ◌++◌, pos}
use Rattle.seq_model.specs.Splits.{Values}
use Rattle.seq_model.specs.declared.plan.Place.{Place}
use Rattle.seq_model.specs.declared.plan.Plan.{Plan}

abbrev pub beside_each_other : Plan
beside_each_other = record { scale = pos 1; places = record { object = 0; x = pos 28; y = pos 28 } ∷ record { object = 1; x = pos 52; y = pos 28 } ∷ [] }

abbrev pub low_place : Place
low_place = record { object = 1; x = pos 1; y = pos 1 }

abbrev pub tall_place : Place
tall_place = record { object = 0; x = pos 26; y = pos 1 }

abbrev pub low_then_tall : Plan
low_then_tall = record { scale = pos 1; places = low_place ∷ tall_place ∷ [] }

abbrev pub tall_then_low : Plan
tall_then_low = record { scale = pos 1; places = tall_place ∷ low_place ∷ [] }

abbrev pub halves : ℕ → ℕ → ℕ → Place
halves o x y = record { object = o; x = pos x; y = pos y }

abbrev pub in_the_far_corner : Plan
in_the_far_corner = record { scale = pos 2; places = halves 0 158 58 ∷ [] }

abbrev pub without_the_second : Plan
without_the_second = record { scale = pos 1; places = record { object = 0; x = pos 28; y = pos 28 } ∷ [] }

abbrev pub with_a_third : Plan
with_a_third = record { scale = pos 1; places = beside_each_other.places ++ record { object = 2; x = pos 28; y = pos 28 } ∷ [] }

abbrev pub tall_to_the_east : Values
tall_to_the_east = record { d = pos 1; u = pos 25 ∷ pos 0 ∷ pos 0 ∷ pos 0 ∷ [] }

abbrev pub roof_off_the_plate : Plan
roof_off_the_plate = record { scale = pos 2; places = halves 0 100 20 ∷ halves 1 100 101 ∷ [] }
