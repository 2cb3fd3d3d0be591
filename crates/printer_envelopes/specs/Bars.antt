-- Bars across the printer, which move with the nozzle tip.
--
--   rectangle west south east north    its corners, counterclockwise from the least
--   bar along_x low high w d           the corners of a bar along x or along y, on a plate of w by d grains
use Rattle.std.specs.Prelude.{ℤ, pos, ◌+ℤ◌, neg_ℤ, Bool, if◌then◌else◌, List, [], ◌∷◌}
use Rattle.seq_model.specs.declared.printer.Spot.{Spot}

abbrev pub rectangle : ℤ → ℤ → ℤ → ℤ → List Spot
rectangle west south east north =
    record { x = west; y = south } ∷ record { x = east; y = south }
    ∷ record { x = east; y = north } ∷ record { x = west; y = north } ∷ []

-- wherever the tip is over the plate, a bar reaches one grain past both sides of it; low and high are its other sides
abbrev pub bar : Bool → ℤ → ℤ → ℤ → ℤ → List Spot
bar along_x low high width depth =
    if along_x then rectangle (neg_ℤ (width +ℤ pos 1)) low (width +ℤ pos 1) high
    else rectangle low (neg_ℤ (depth +ℤ pos 1)) high (depth +ℤ pos 1)
